-- A blocked guarantee that is raised to a level, alone and in a user's record. Assumes nothing.
use Rattle.std.specs.Prelude.{◌≡◌, ◌+◌, ◌-◌}
use Rattle.base.specs.Basics.{ℕ}
use Rattle.rules.specs.Changes.{blocked_to}
use Rattle.units.specs.declared.Cents.{Cents}
use Rattle.book_records.specs.declared.User.{User}
use Rattle.book_records.specs.User.{as_user}
use Rattle.lent_user.specs.declared.Raised.{Raised}

-- what is blocked has what it lacked to the level, and that was added
pub record RaisedTo (level blocked : ℕ) (r : Raised) : Type 0 where
  pub blocked_is : r.blocked.0 ≡ blocked + (level - blocked)
  pub added_is : r.added.0 ≡ level - blocked

-- the whole record is the one that was lent with its blocked guarantee at the level, and what it lacked was added
pub record BlockedTo (level : ℕ) (lent last : User) (added : Cents) : Type 0 where
  pub user_is : as_user last ≡ blocked_to level (as_user lent)
  pub added_is : added.0 ≡ level - lent.blocked.0
