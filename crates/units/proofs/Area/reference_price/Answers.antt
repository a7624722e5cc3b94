-- The code chooses as the rule does.
use Rattle.std.proofs.Common.{◌≢◌, ne_eqb, arith}
use Rattle.rules.specs.Areas.{reference_price_of}
use Rattle.units.proofs.Area.reference_price.Goals as goal

pub returns-in-0-clause-result_value : goal.returns-in-0-clause-result_value
unfolding reference_price_of
returns-in-0-clause-result_value c = rw c.in-0.is

pub returns-in-1-clause-result_value : goal.returns-in-1-clause-result_value
unfolding reference_price_of
returns-in-1-clause-result_value c = rw c.in-1.is

pub returns-in_default-clause-result_value : goal.returns-in_default-clause-result_value
unfolding reference_price_of
returns-in_default-clause-result_value c =
    let other : c.args.self.0 ≢ 0 = omega arith in
    let other' : c.args.self.0 ≢ 1 = omega arith in
    rw (ne_eqb _ _ other, ne_eqb _ _ other')
