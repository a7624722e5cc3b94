-- A run that has come from the opening book to a book: what its arrays hold of the two, as their risk is borne. Assumes nothing.
use Rattle.std.specs.Prelude.{◌≡◌, ◌≤◌, ◌<◌}
use Rattle.base.specs.Basics.{Bool, true, false, cond, List, map, ℕ, suc, length, get_or}
use Rattle.book_format.specs.Steps.{place_of}
use Rattle.laws.specs.Sound.{Sound}
use Rattle.laws.specs.Trades.{Lowered, Pairwise}
use Rattle.rules.specs.Book.{Book, User}
use Rattle.rules.specs.Levels.{Limits, holding}
use Rattle.rules.specs.Reduction.{has_eligible, target, with_trades}
use Rattle.run_state.specs.Asked.{member_at}
use Rattle.risk_user.specs.UserAt.{PositionsOf}
use Rattle.laws_sales.specs.Borne.{borne_book}
use Rattle.laws_sales.specs.Cover.{due, short_from}
use Rattle.laws_sales.specs.Groups.{starts, standings}
use Rattle.laws_sales.specs.Parts.{part}
use Rattle.laws_sales.specs.Reduced.{own_sales}

-- the own sales of all users, one user's after the other's: where each user's start, their areas and the places of their buyers
pub record SalesIn (b : Book) (ss area_codes bs : List ℕ) : Type 0 where
  pub few : starts b (length b.users) ≤ 256
  pub areas_room : length area_codes ≡ 256
  pub buyers_room : length bs ≡ 256
  pub starts_at : (i : ℕ) → i ≤ length b.users → get_or ss i 0 ≡ starts b i
  pub areas_at : (i : ℕ) → i < length b.users → part (starts b i) (starts b (suc i)) area_codes ≡ map (λ s. s.terms.area) (own_sales b (member_at b i))
  pub buyers_at : (i : ℕ) → i < length b.users → part (starts b i) (starts b (suc i)) bs ≡ map (λ s. place_of b.users s.terms.buyer) (own_sales b (member_at b i))

-- what stands of each user's own sales
pub record StandingIn (o b : Book) (ns : List ℕ) : Type 0 where
  pub each : (i : ℕ) → i < length b.users → part (starts o i) (starts o (suc i)) ns ≡ standings b.trades (member_at b i).party.id

-- T where a user is due, else 0
abbrev pub owed : Limits → Book → User → ℕ
owed limits b u = cond (due limits b u) (target limits b u) 0

-- T where a user, being called in, is short of cover; else 0
abbrev pub owed_called : Limits → Book → User → ℕ
owed_called limits b u = cond (short_from limits b.header.prices u (holding b u) true) (target limits b u) 0

-- what each user owes, and who has an eligible trade
pub record OwedOf (limits : Limits) (b : Book) (ts : List ℕ) (es : List Bool) : Type 0 where
  pub target_at : (i : ℕ) → i < length b.users → get_or ts i 0 ≡ owed limits b (member_at b i)
  pub open_at : (i : ℕ) → i < length b.users → get_or es i false ≡ has_eligible b (member_at b i)

-- what stands of 256 sales, three positions and a target for each of 64 places, and who of them has an eligible trade
pub record Rooms (ns ps ts : List ℕ) (es : List Bool) : Type 0 where
  pub standing : length ns ≡ 256
  pub positions : length ps ≡ 192
  pub targets : length ts ≡ 64
  pub eligible : length es ≡ 64

-- a run of the book o has come to b; own sales, what stands of them and positions are those of the books as their risk is borne
pub record Going (limits : Limits) (o b : Book) (ns ps ts : List ℕ) (es : List Bool) : Type 0 where
  pub sound : Sound b
  pub lowered : Pairwise Lowered o.trades b.trades
  pub borne : Pairwise Lowered (borne_book o).trades (borne_book b).trades
  pub same : b ≡ with_trades o b.trades
  pub standing : StandingIn (borne_book o) (borne_book b) ns
  pub positions : PositionsOf (borne_book b).users ps
  pub owed : OwedOf limits b ts es
  pub rooms : Rooms ns ps ts es
