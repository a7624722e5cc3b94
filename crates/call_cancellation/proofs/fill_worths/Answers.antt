-- `fill_worths`: the worths of the eligible trades among the trades passed are gathered. Assumes nothing.
use Rattle.base.specs.Basics.{refl, arith}
use Rattle.call_cancellation.proofs.Eligible.{gathered_end, gathered_first, gathered_more, standing_low, trade_in, trades_few, trades-length}
use Rattle.call_cancellation.proofs.fill_worths.Goals as goal

pub loop-i-init : goal.loop-i-init
loop-i-init c = (omega arith, gathered_first c.requires.selling.0 c.requires.selling.1)

pub worth_at-requires : goal.worth_at-requires
worth_at-requires c = let l = c.loop-i-test.true in
    record { trade_in = trade_in c.requires.selling.0 l; in_range = (c.requires.in_range.0, standing_low c.requires.selling.0 l) }

pub bounds-worths-k : goal.bounds-worths-k
bounds-worths-k c = omega (arith, c.loop-i.invariant.1.few, trades-length c.requires.selling.0, trades_few c.requires.selling.0, c.loop-i-test.true)

pub eligible_at-requires : goal.eligible_at-requires
eligible_at-requires c = trade_in c.requires.selling.0 c.loop-i-test.true

pub place_after-k-requires : goal.place_after-k-requires
place_after-k-requires c = omega (arith, c.loop-i.invariant.1.few, trades-length c.requires.selling.0, trades_few c.requires.selling.0, c.loop-i-test.true)

pub loop-i-preserved : goal.loop-i-preserved
loop-i-preserved c = (
  omega (arith, c.loop-i-test.true),
  gathered_more c.requires.selling.0 c.loop-i.invariant.1 c.loop-i-test.true c.worth_at.ensures.upper_bound c.requires.in_range.1 c.worth_at.ensures.value refl refl c.eligible_at.ensures c.place_after-k.ensures,
)

pub returns : goal.returns
returns c = gathered_end c.requires.selling.0 c.loop-i.invariant.1 c.loop-i-test.false
