-- The tests of the rules are asked in their order; an id of 32 bits passes its own.
use Rattle.std.proofs.Common.{rules, ◌^◌}
use borrow.Author.Tests.{lt-ltb}
use Rattle.rules.specs.Book.{at}
use Rattle.rules.specs.Questions.{user_is_valid, guarantees_valid, entries_valid}
use Rattle.book_records.specs.User.{as_amounts, as_user}
use Rattle.book_valid.proofs.user_valid.Goals as goal

pub returns : goal.returns
unfolding user_is_valid guarantees_valid entries_valid at as_user as_amounts
returns c =
    rw
    (lt-ltb c.args.u.id (2 ^ 32) (search rules), c.is_entry-pvb_valid.ensures, c.is_entry-tvb_valid.ensures, c.is_entry-avb_valid.ensures, c.is_charges-charges_valid.ensures)
