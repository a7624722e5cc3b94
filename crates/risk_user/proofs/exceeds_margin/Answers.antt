-- `exceeds_margin`: asked of the blocked guarantee that is read. Assumes nothing.
use Rattle.base.specs.Basics.{arith, get_or}
use Rattle.book_format.specs.Book.{users_of}
use Rattle.rules.specs.Book.{nobody}
use Rattle.risk_user.proofs.exceeds_margin.Goals as goal

pub exceeds_margin-requires : goal.exceeds_margin-requires
exceeds_margin-requires c = (c.requires.0.limits_in, omega (arith, c.blocked_at.ensures, c.requires.0.blocked_most c.args.place))

pub returns : goal.returns
returns c = let a = c.args in
    c.exceeds_margin.ensures (get_or (users_of a.book.now) a.place nobody) c.blocked_at.ensures
