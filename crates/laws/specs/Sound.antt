-- What a book that passes the questions 2 to 7 is, as a record of facts: one for each question, three for question 5. Assumes nothing.
use Rattle.base.specs.Basics.{T}
use Rattle.rules.specs.Book.{Book}
use Rattle.base.specs.Lists.{all}
use Rattle.rules.specs.Questions.{counts_are_valid, groups_valid, header_is_valid, ids_rise, positions_are_valid, trade_is_valid, user_is_valid, version_is_valid}

-- an accepted book
pub record Sound (b : Book) : Type 0 where
  pub version : T (version_is_valid b)
  pub counts : T (counts_are_valid b)
  pub header : T (header_is_valid b.header)
  pub ids : T (ids_rise 0 b.users)
  pub users : T (all user_is_valid b.users)
  pub groups : T (groups_valid b)
  pub trades : T (all (trade_is_valid b.users) b.trades)
  pub positions : T (all (positions_are_valid b.trades) b.users)
