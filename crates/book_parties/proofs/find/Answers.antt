-- `find`: where its guess, which is below n, has the id, it is its index; else the search finds it. Assumes nothing.
use Rattle.base.specs.Basics.{◌<◌, arith, get_or}
use Rattle.book_parties.proofs.Search.{found_there}
use Rattle.book_parties.proofs.find.Goals as goal
use Rattle.book_parties.proofs.find.Goals.{After-slot_of}

-- the guess is a place below n
below : (c : goal.After-slot_of) → get_or c.args.guesses.now c.slot_of.result 0 < c.args.n
below c = c.requires.1.below c.slot_of.result c.slot_of.ensures

pub overflow_cast-at : goal.overflow_cast-at
overflow_cast-at c = record { fits = omega (arith, below (goal.at.overflow_cast-at c).After-slot_of, c.requires.0.few) }

pub offset_bounds-ids-at : goal.offset_bounds-ids-at
offset_bounds-ids-at c = record { fits = omega (arith, below (goal.at.offset_bounds-ids-at c).After-slot_of, c.requires.0.few) }

pub bounds-ids-at : goal.bounds-ids-at
bounds-ids-at c = omega (arith, below (goal.at.bounds-ids-at c).After-slot_of, c.requires.0.few, c.requires.0.full)

pub returns-then-ids-at : goal.returns-then-ids-at
returns-then-ids-at c = found_there c.args.ids.now c.args.n c.args.id c.requires.0 _ (below (goal.at.returns-then-ids-at c).After-slot_of) c.if-ids-at.true
