-- What a run asks of its users before the first reduction and after each. Assumes nothing.
use Rattle.std.specs.Prelude.{◌≡◌, ◌||◌, ◌≤◌, ◌<◌}
use Rattle.base.specs.Basics.{Bool, cond, List, ℕ, length, get_or}
use Rattle.book_format.specs.Book.{book_of, count_of_users}
use Rattle.book_format.specs.Questions.{Formed}
use Rattle.rules.specs.Areas.{Prices}
use Rattle.rules.specs.Levels.{Limits}
use Rattle.laws_sales.specs.Borne.{borne_book}
use Rattle.risk_bearers.specs.Bearers.{RiskIn, trades_in, users_in}
use Rattle.risk_user.specs.UserAt.{PositionsOf}
use Rattle.cut_parties.specs.Flags.{CutFlags}
use Rattle.run_state.specs.Going.{StandingIn}
use Rattle.laws_sales.specs.Groups.{starts}

-- the buyers of the sales from..to are among the users
pub record BuyersIn (s bs : List ℕ) (from to : ℕ) : Type 0 where
  pub form : Formed s
  pub few : to ≤ 256
  pub room : length bs ≡ 256
  pub inside : (k : ℕ) → from ≤ k → k < to → get_or bs k 0 < count_of_users s

-- ---- before the first reduction

-- T of a user that is called in, where it has an eligible trade and is flagged or party to a trade standing below notified
unfoldable pub owed_if : Bool → Bool → Bool → ℕ → ℕ
owed_if flagged left below target = cond left (cond (flagged || below) target 0) 0

-- the arrays of a book in bytes, as its risk is borne: positions, where the own sales of each user start and what stands of them, and flags of trades standing below notified
pub record Opening (limits : Limits) (f : Prices) (n : ℕ) (s sums ps ss ns : List ℕ) (flags : List Bool) : Type 0 where
  pub risk : RiskIn limits f s sums
  pub users_are : n ≡ count_of_users s
  pub positions : PositionsOf (users_in s) ps
  pub starts_at : (i : ℕ) → i ≤ length (users_in s) → get_or ss i 0 ≡ starts (borne_book (book_of s)) i
  pub few : starts (borne_book (book_of s)) (length (users_in s)) ≤ 256
  pub standing_room : length ns ≡ 256
  pub standing : StandingIn (borne_book (book_of s)) (borne_book (book_of s)) ns
  pub below : CutFlags (users_in s) (trades_in s) flags
