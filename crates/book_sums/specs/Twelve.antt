-- Twelve sums for each user, kept one after the other: 12·place + 6·side + 3·day + area, what was sold (side 0) and bought (side 1) for d and for d+1 in the
-- three areas. Assumes nothing.
use Rattle.std.specs.Prelude.{◌≡◌, ◌+◌, ◌*◌, ◌≤◌, ◌<◌}
use Rattle.base.specs.Basics.{List, ℕ, length, get_or, set}
use Rattle.rules.specs.Book.{Trade, User, nobody, sold, bought}
use Rattle.book_sums.specs.Sums.{given_by}

-- the place of a sum
abbrev pub slot : ℕ → ℕ → ℕ → ℕ → ℕ
slot i side day area = 12 * i + 6 * side + 3 * day + area

-- the sums with one trade more, counted on a side for the party at a place
unfoldable pub added : ℕ → ℕ → Trade → List ℕ → List ℕ
added side p t sums =
    set sums (slot p side t.terms.day t.terms.area) (get_or sums (slot p side t.terms.day t.terms.area) 0 + t.standing)

-- a trade can be counted on a side for the party at a place
pub record Addable (side p : ℕ) (t : Trade) (sums : List ℕ) : Type 0 where
  pub place : p < 64
  pub of_side : side < 2
  pub day : t.terms.day < 2
  pub area : t.terms.area < 3
  pub low : (k : ℕ) → get_or sums k 0 + t.standing ≤ 4294967295

-- the sums of a side are what trades give, each counted at its place
pub record Side (side : ℕ) (places : List ℕ) (ts : List Trade) (sums : List ℕ) : Type 0 where
  pub each : (i area day : ℕ) → area < 3 → day < 2 → get_or sums (slot i side day area) 0 ≡ given_by day places ts i area

-- the sums of both sides, by the places of the sellers and of the buyers; none is above `most`
pub record Twelve (sellers buyers : List ℕ) (ts : List Trade) (most : ℕ) (sums : List ℕ) : Type 0 where
  pub of_sold : Side 0 sellers ts sums
  pub of_bought : Side 1 buyers ts sums
  pub low : (k : ℕ) → get_or sums k 0 ≤ most
  pub room : length sums ≡ 768

-- what each user sold and bought in each area for each day
pub record TwelveOf (us : List User) (ts : List Trade) (sums : List ℕ) : Type 0 where
  pub sold_at : (i area day : ℕ) → i < length us → area < 3 → day < 2 → get_or sums (12 * i + 3 * day + area) 0 ≡ sold ts (get_or us i nobody).party.id area day
  pub bought_at : (i area day : ℕ) → i < length us → area < 3 → day < 2 → get_or sums (12 * i + 6 + 3 * day + area) 0 ≡ bought ts (get_or us i nobody).party.id area day

-- no sum is above what 256 trades can have, 100,000 MWh each
pub record Low (sums : List ℕ) : Type 0 where
  pub low : (k : ℕ) → get_or sums k 0 ≤ 25600000

-- the sums of users by trades, none of them too high
pub record SumsOf (us : List User) (ts : List Trade) (sums : List ℕ) : Type 0 where
  pub twelve : TwelveOf us ts sums
  pub low : Low sums
