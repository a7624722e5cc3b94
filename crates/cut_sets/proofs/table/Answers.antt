-- `table`: the first j places are filled. Assumes nothing.
use Rattle.base.specs.Basics.{take}
use Rattle.cut_sets.specs.Sets.{worth_of_set}
use Rattle.cut_sets.proofs.Tables.{filling_first, filling_more, filling_end, set_inside}
use Rattle.cut_sets.proofs.table.Goals as goal

pub worth_of-requires : goal.worth_of-requires
worth_of-requires c = let a = c.args in
    (c.requires.given, set_inside a.n a.step a.count c.loop-j.j c.requires.inside c.loop-j-test.true)

pub loop-j-preserved : goal.loop-j-preserved
loop-j-preserved c = let a = c.args in
    filling_more (worth_of_set (take a.n a.worths.now)) a.step a.count c.worth_of.result c.requires.room c.loop-j.invariant c.loop-j-test.true c.worth_of.ensures

pub returns : goal.returns
returns c = let a = c.args in
    filling_end (worth_of_set (take a.n a.worths.now)) a.step a.count c.loop-j.invariant c.loop-j-test.false

pub loop-j-init : goal.loop-j-init
loop-j-init c = filling_first (worth_of_set (take c.args.n c.args.worths.now)) c.args.step c.args.count
