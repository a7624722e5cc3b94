-- Amounts of all users by place, three for each, each kept as the amount + 2^31; and their sums over those whose risk a user bears. Assumes nothing.
use Rattle.std.specs.Prelude.{◌≡◌, ◌+◌, ◌*◌, ◌≤◌, ◌<◌, ◌^◌, ◌+ℤ◌}
use Rattle.base.specs.Basics.{cond, List, ℕ, zero, suc, eqb, ltb, ℤ, pos, length, get_or}
use Rattle.units.specs.Amounts.{net}
use Rattle.risk_bearers.specs.Bearers.{BearersIn, bearer_in}

-- the amount of the user at a place in an area
abbrev pub amount_in : List ℕ → ℕ → ℕ → ℤ
amount_in rows i area = net (record { 0 = get_or rows (3 * i + area) 0 })

-- the sum in an area over those of the first k users whose risk the user at place i bears there
unfoldable pub borne_to : ℕ → List ℕ → List ℕ → ℕ → ℕ → ℤ
borne_to zero own table i area = pos 0
borne_to (suc k) own table i area = borne_to k own table i area +ℤ cond (eqb (bearer_in table k area) i) (amount_in own k area) (pos 0)

-- amounts of n users, none beyond ±26,600,000, and who bears their risk
pub record Bearable (n : ℕ) (own table : List ℕ) : Type 0 where
  pub few : n ≤ 64
  pub bearers : BearersIn n table
  pub low : (k : ℕ) → k < 3 * n → 2 ^ 31 ≤ get_or own k 0 + 26600000
  pub high : (k : ℕ) → k < 3 * n → get_or own k 0 ≤ 2 ^ 31 + 26600000

-- how many users are passed in an area, where all areas of the first k users are and the areas before `done` of the next
unfoldable pub passed_in : ℕ → ℕ → ℕ → ℕ
passed_in k done area = cond (ltb area done) (suc k) k

-- the amount of the next user in an area can be added to that of who bears its risk there
pub record NextBorne (k area : ℕ) (own table : List ℕ) : Type 0 where
  pub user : k < 64
  pub area_in : area < 3
  pub bearer : bearer_in table k area < 64
  pub low : 2 ^ 31 ≤ get_or own (3 * k + area) 0 + 26600000
  pub high : get_or own (3 * k + area) 0 ≤ 2 ^ 31 + 26600000

-- the sums over those passed whose risk each user bears, each within what so many users can have
pub record RowsTo (k done : ℕ) (own table rows : List ℕ) : Type 0 where
  pub room : length rows ≡ 192
  pub each : (i area : ℕ) → i < 64 → area < 3 → amount_in rows i area ≡ borne_to (passed_in k done area) own table i area
  pub low : (i area : ℕ) → i < 64 → area < 3 → 2 ^ 31 ≤ get_or rows (3 * i + area) 0 + 26600000 * passed_in k done area
  pub high : (i area : ℕ) → i < 64 → area < 3 → get_or rows (3 * i + area) 0 ≤ 2 ^ 31 + 26600000 * passed_in k done area

-- no amount at any place
pub record Cleared (rows : List ℕ) : Type 0 where
  pub room : length rows ≡ 192
  pub each : (j : ℕ) → j < 192 → get_or rows j 0 ≡ 2 ^ 31

-- the sums over those whose risk each user bears
pub record Rows (n : ℕ) (own table rows : List ℕ) : Type 0 where
  pub room : length rows ≡ 192
  pub each : (i area : ℕ) → i < 64 → area < 3 → amount_in rows i area ≡ borne_to n own table i area
