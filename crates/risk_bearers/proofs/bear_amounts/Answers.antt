-- `bear_amounts`: the amounts of the users passed are added, and of the next one those of the areas passed. Assumes nothing.
use Rattle.base.specs.Basics.{◌≡◌, arith}
use Rattle.risk_bearers.proofs.Rows.{next_borne, rows_end, rows_start, rows_turn}
use Rattle.risk_bearers.proofs.bear_amounts.Goals as goal

pub loop-i-init : goal.loop-i-init
loop-i-init c = rows_start c.args.own.now c.args.bearers.now c.clear_amounts.ensures

pub bear_amount-requires : goal.bear_amount-requires
bear_amount-requires c = (c.loop-area.invariant, next_borne c.requires.0 c.loop-i-test.true c.loop-area.area c.loop-area-test.true)

pub loop-i-preserved : goal.loop-i-preserved
loop-i-preserved c = let all : c.loop-area.area ≡ 3 = omega (arith, c.loop-area-test.false) in rows_turn (rw all at c.loop-area.invariant)

pub returns : goal.returns
returns c = rows_end (omega (arith, c.loop-i-test.false)) c.loop-i.invariant
