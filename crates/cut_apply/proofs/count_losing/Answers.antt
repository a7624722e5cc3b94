-- `count_losing`: the cuts of the part that pass the test. Assumes nothing.
use Rattle.std.proofs.Common.{rules, tests}
use Rattle.std.proofs.lemmas.Iterator.{YieldsList-from_slice}
use Rattle.std.proofs.lemmas.Iterator.Consumers.{count_from_yields_List, YieldsList-from_filter}
use Rattle.base.specs.Basics.{◌∙◌, ◌-◌, arith, ltb, drop, length-take}
use Rattle.laws_sales.specs.Parts.{part}
use Rattle.cut_apply.proofs.Losing.{losing-le, losing_filtered}
use Rattle.cut_apply.proofs.count_losing.Goals as goal

pub returns : goal.returns
returns c = let a = c.args in
    let cs = part a.from a.to a.cuts.now in
    let passing = count_from_yields_List c.filter.result c.count.result c.count.ensures.ran (YieldsList-from_filter _ (ltb 0) (YieldsList-from_slice cs cc) c.filter.ensures.closure (λ x b q k. search (rules, tests))) in
    let lost = passing ∙ losing_filtered cs in
    (lost, omega (arith, lost, losing-le cs, length-take (a.to - a.from) (drop a.from a.cuts.now), c.requires.1))
