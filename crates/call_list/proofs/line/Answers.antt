-- `line`: no such user is 8, else the posting for the user at the place that was searched. Assumes nothing.
use Rattle.base.specs.Basics.{refl, sym, arith, ltb-false}
use Rattle.book_parties.proofs.Guesses.{found_below}
use mir.Syntax.{w64}
use mir.ValLaws.{to_z-of_z}
use Rattle.call_list.proofs.Turns.{line_refused, place_searched}
use Rattle.call_list.proofs.line.Goals as goal

pub find-requires : goal.find-requires
find-requires c = (c.requires.known.padded, c.requires.guesses)

pub returns-in_default : goal.returns-in_default
returns-in_default c = let f = c.in_default.ensures in line_refused c.args.id c.args.area c.args.amount c.requires.known f.stands (ltb-false _ _ (sym f.told))

pub post_at-requires : goal.post_at-requires
post_at-requires c = (c.requires.known.passes, omega (arith, found_below c.in-Some.ensures refl, c.requires.known.count), c.requires.known.begin, c.requires.known.sized)

pub returns : goal.returns
returns c = λ limits.
    rw (to_z-of_z w64 c.args.amount c.ranges.amount) at (c.post_at.ensures.posts c.args.id (place_searched c.args.id c.requires.known c.in-Some.ensures.stands) limits)
