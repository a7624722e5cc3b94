-- `add_trade`: what stands is added to the one sum of the party, the side, the day and the area. Assumes nothing.
use Rattle.base.specs.Basics.{refl, ◌<◌, arith}
use Rattle.book_records.specs.Trade.{as_trade}
use Rattle.book_sums.specs.Twelve.{slot, added}
use Rattle.book_sums.proofs.add_trade.Goals as goal
use Rattle.book_sums.proofs.add_trade.Goals.{Start}

-- the sum lies in the room
inside : (c : goal.Start) → slot c.args.place c.args.side c.args.t.day c.args.t.area < 768
unfolding as_trade
inside c = omega (arith, c.requires.place, c.requires.of_side, c.requires.day, c.requires.area)

pub bounds-sums-k : goal.bounds-sums-k
bounds-sums-k c = omega (arith, inside (goal.at.bounds-sums-k c).Start)

pub overflow_add-sums : goal.overflow_add-sums
unfolding as_trade
overflow_add-sums c = record { fits = omega (arith, c.requires.low (slot c.args.place c.args.side c.args.t.day c.args.t.area)) }

pub bounds-sums-k-2 : goal.bounds-sums-k-2
bounds-sums-k-2 c = omega (arith, inside (goal.at.bounds-sums-k-2 c).Start)

pub returns : goal.returns
unfolding added as_trade
returns c = refl
