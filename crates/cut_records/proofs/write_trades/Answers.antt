-- `write_trades`: what is left to write gives all. Assumes nothing.
use Rattle.base.specs.Basics.{rules}
use Rattle.cut_records.proofs.Placed.{placed_start, placed_next, placed_turn, placed_long, placed_end}
use Rattle.cut_records.proofs.write_trades.Goals as goal

pub put_trade-requires : goal.put_trade-requires
put_trade-requires g c = record { held_as = (placed_next c.requires c.loop-k.invariant c.loop-k-test.true).0; trade_in = (placed_next c.requires c.loop-k.invariant c.loop-k-test.true).1 }

pub loop-k-preserved : goal.loop-k-preserved
loop-k-preserved g c = let few = c.requires.few in
    placed_turn c.requires c.loop-k.invariant _ c.loop-k-test.true (search rules) c.put_trade.ensures

pub loop-k-init : goal.loop-k-init
loop-k-init g c = placed_start c.requires

pub shape_of-book : goal.shape_of-book
shape_of-book g c = placed_long c.requires c.loop-k.invariant

pub returns : goal.returns
returns g c = placed_end c.requires c.loop-k.invariant c.loop-k-test.false
