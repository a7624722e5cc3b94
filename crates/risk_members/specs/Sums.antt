-- Sums over the first users of those whose risk a user bears in an area. Assumes nothing.
use Rattle.std.specs.Prelude.{◌≡◌, ◌+◌, ◌*◌, ◌≤◌, ◌^◌}
use Rattle.base.specs.Basics.{cond, List, ℕ, eqb, pos, take}
use Rattle.base.specs.Sums.{sum, sum_ℤ}
use Rattle.book_format.specs.Book.{trades_of, users_of}
use Rattle.risk_holdings.specs.declared.Holding.{Holding}
use Rattle.rules.specs.Bearers.{bearer}
use Rattle.rules.specs.Book.{PerArea, User, at, bought, sold}
use Rattle.units.specs.Amounts.{net}

module _ (us : List User) (id area : ℕ) where
  -- a signed amount, kept with 2^31: the sum over the first k users, within what so many can have
  pub record SumTo (amounts : User → PerArea) (k x : ℕ) : Type 0 where
    pub few : k ≤ 64
    pub is : net (record { 0 = x }) ≡ sum_ℤ (λ v. cond (eqb (bearer v area) id) (at (amounts v) area) (pos 0)) (take k us)
    pub low : 2 ^ 31 ≤ x + 26600000 * k
    pub high : x ≤ 2 ^ 31 + 26600000 * k

  -- a number of each user, none above what 256 trades can have
  pub record CountTo (amount : User → ℕ) (k x : ℕ) : Type 0 where
    pub is : x ≡ sum (λ v. cond (eqb (bearer v area) id) (amount v) 0) (take k us)
    pub high : x ≤ 25600000 * k

  -- who stands from one place to another counts nowhere
  pub record Passed (from to : ℕ) : Type 0 where
    pub sums : (amounts : User → PerArea) (x : ℕ) → SumTo amounts from x → SumTo amounts to x
    pub counts : (amount : User → ℕ) (x : ℕ) → CountTo amount from x → CountTo amount to x

-- what the first k users of a book hold in an area
pub record HeldTo (s : List ℕ) (id area k : ℕ) (h : Holding) : Type 0 where
  pub physical : SumTo (users_of s) id area (λ v. v.physical) k h.physical.0
  pub position : SumTo (users_of s) id area (λ v. v.position) k h.position.0
  pub sold_day : CountTo (users_of s) id area (λ v. sold (trades_of s) v.party.id area 0) k h.sold.0
  pub bought_day : CountTo (users_of s) id area (λ v. bought (trades_of s) v.party.id area 0) k h.bought.0
  pub sold_next_lem : CountTo (users_of s) id area (λ v. sold (trades_of s) v.party.id area 1) k h.sold_next.0
  pub bought_next_lem : CountTo (users_of s) id area (λ v. bought (trades_of s) v.party.id area 1) k h.bought_next.0

-- an amount to which that of one user more can be added
pub record AmountRoom (x : ℕ) : Type 0 where
  pub low : 2 ^ 31 ≤ x + 1675800000
  pub high : x ≤ 2 ^ 31 + 1675800000

-- a holding to which that of one user more can be added
pub record HoldingRoom (h : Holding) : Type 0 where
  pub physical : AmountRoom h.physical.0
  pub position : AmountRoom h.position.0
  pub sold_day : h.sold.0 ≤ 2 ^ 40
  pub bought_day : h.bought.0 ≤ 2 ^ 40
  pub sold_next_lem : h.sold_next.0 ≤ 2 ^ 40
  pub bought_next_lem : h.bought_next.0 ≤ 2 ^ 40
