-- Document 02, ask 5: what the rules say of groups in an accepted book, in the words of the ask. Each holds for every book, user, area and trade; the proofs stand in proofs/Main.antt.
use Rattle.std.specs.Prelude.{◌≡◌, ◌<◌}
use Rattle.base.specs.Basics.{false, ℕ, T, pos, get_or, length}
use Rattle.laws.proofs.Members.{members_sum}
use Rattle.laws.specs.Statements.{own_holding}
use Rattle.laws_sales.specs.Borne.{OwnRisk}
use Rattle.rules.specs.Areas.{managers_in}
use Rattle.rules.specs.Bearers.{as_borne}
use Rattle.rules.specs.Book.{Book, Trade, User, bought, find, manager_in, nobody, sold}
use Rattle.rules.specs.Levels.{Holding, Limits, afternoon_level, flagged, flagged_from, floored, holding, level_from, morning_level, morning_sum, sells}
use Rattle.rules.specs.Questions.{accepted, known}

-- nothing enters levels, flag and tiers
unfoldable pub nothing_held : Holding
nothing_held = record { physical = pos 0; position = pos 0; sold = 0; bought = 0; sold_next = 0; bought_next = 0 }

-- "the physical entry, sold, bought and position .. are the sums over itself and its members": of entries and positions by definition, of what is sold and bought here
pub record SumsOfMembers : Type 0 where
  pub sells : (b : Book) (u : User) (area : ℕ) → T (accepted b) → (holding b u area).sold ≡ members_sum (λ v. sold b.trades v.party.id area 0) b.users u.party.id area
  pub buys : (b : Book) (u : User) (area : ℕ) → T (accepted b) → (holding b u area).bought ≡ members_sum (λ v. bought b.trades v.party.id area 0) b.users u.party.id area

-- "a managed user counts 0 there"
pub record ManagedCountsNothing : Type 0 where
  pub nothing : (b : Book) (id area : ℕ) → T (accepted b) → T (known b.users id) → area < 3 → (manager_in (find b.users id).party.managers area ≡ 0 → ⊥)
      → holding b (find b.users id) area ≡ nothing_held

-- "a sale between two of one group there is never eligible": it is nobody's
pub record InsideIsNobodys : Type 0 where
  pub nobodys : (b : Book) (u : User) (t : Trade) → (as_borne b.users t).terms.buyer ≡ (as_borne b.users t).terms.seller → sells b u t ≡ false

-- versions 1 and 2: what the rules read of users and trades is document 01's
pub record WithoutManagers : Type 0 where
  pub own : (b : Book) → T (accepted b) → managers_in b.header.version ≡ false → OwnRisk b

-- so are the levels and the flag that calls and queries take of a user of the book: those of what it has by itself
pub record LevelsAsBefore : Type 0 where
  pub morning : (limits : Limits) (b : Book) (i : ℕ) → T (accepted b) → managers_in b.header.version ≡ false → i < length b.users
      → let u = get_or b.users i nobody in
      morning_level limits b u ≡ floored limits (morning_sum b.header.prices (own_holding b u) u.party.charges)
  pub afternoon : (limits : Limits) (b : Book) (i : ℕ) → T (accepted b) → managers_in b.header.version ≡ false → i < length b.users
      → let u = get_or b.users i nobody in
      afternoon_level limits b u ≡ level_from limits b.header.prices u (own_holding b u)
  pub flag : (limits : Limits) (b : Book) (i : ℕ) → T (accepted b) → managers_in b.header.version ≡ false → i < length b.users
      → let u = get_or b.users i nobody in
      flagged limits b u ≡ flagged_from limits b.header.prices u (own_holding b u)
