-- Positions by what was sold and bought. Assumes nothing.
use Rattle.std.specs.Prelude.{◌≡◌, ◌&&◌, ◌+◌, ◌*◌, ◌+ℤ◌, ◌-ℤ◌}
use Rattle.base.specs.Basics.{Bool, List, ℕ, ℤ, pos, get_or}
use Rattle.rules.specs.Book.{User, Trade, at}
use Rattle.base.specs.Lists.{all}
use Rattle.rules.specs.Questions.{eqb_ℤ, positions_are_valid}
use Rattle.book_sums.specs.Twelve.{TwelveOf}

-- a position is its physical entry + bought − sold
unfoldable pub position_as : ℤ → ℤ → ℕ → ℕ → Bool
position_as position physical bought sold = eqb_ℤ position (physical +ℤ pos bought -ℤ pos sold)

-- the position of the user at place i in an area is as the sums of the day have it
unfoldable pub position_from : User → List ℕ → ℕ → ℕ → Bool
position_from u sums i area =
    position_as (at u.position area) (at u.physical area) (get_or sums (12 * i + 6 + area) 0) (get_or sums (12 * i + area) 0)

-- so are all three
unfoldable pub positions_from : User → List ℕ → ℕ → Bool
positions_from u sums i = position_from u sums i 0 && (position_from u sums i 1 && position_from u sums i 2)

-- users whose positions were asked for by sums: the answer is that of the rules over any trades of which these are the sums
pub record PositionsAsked (us : List User) (sums : List ℕ) (valid : Bool) : Type 0 where
  pub answer : (ts : List Trade) → TwelveOf us ts sums → valid ≡ all (positions_are_valid ts) us
