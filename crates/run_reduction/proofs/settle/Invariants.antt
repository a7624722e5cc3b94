use Rattle.cut_tiers.proofs.Tallied.{TakenOff}
use Rattle.run_positions.proofs.Passing.{MovedTo}
use Rattle.units.specs.Prices.{as_prices}
use Rattle.run_reduction.proofs.settle.Given as goal

abbrev pub invariant-loop-i : goal.invariant-loop-i
invariant-loop-i l = TakenOff (as_prices l.prices) l.initial.standing l.areas l.cuts l.from l.to l.standing l.tally l.i × MovedTo l.place l.from l.to l.areas l.sale_buyers l.cuts l.initial.positions l.positions l.i
