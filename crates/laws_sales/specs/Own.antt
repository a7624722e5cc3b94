-- Whose sale a trade is: for the user of an id a test of the trade's terms, and what laws ask of such tests. Assumes nothing.
use Rattle.std.specs.Prelude.{◌≡◌, ◌&&◌}
use Rattle.base.specs.Basics.{Bool, false, List, ℕ, T, ltb}
use Rattle.rules.specs.Book.{Book, Trade, User, bilateral_for_day}
use Rattle.base.specs.Lists.{any}
use Rattle.rules.specs.Reduction.{eligible}
use Rattle.laws_sales.specs.Borne.{borne_valid}

-- a test of the terms alone
unfoldable pub OfTerms : (Trade → Bool) → Type 0
OfTerms p = (t n : Trade) → n.terms ≡ t.terms → p n ≡ p t

-- what is eligible for a user is what passes a test and stands above 0
unfoldable pub EligibleBy : Book → User → (Trade → Bool) → Type 0
EligibleBy b u p = (t : Trade) → eligible b u t ≡ (p t && ltb 0 t.standing)

-- tests of the terms, one for each id, of trades of kind 0 and day 0; no trade passes two of them
pub record Owned (own : ℕ → Trade → Bool) : Type 0 where
  pub of_terms : (id : ℕ) → OfTerms (own id)
  pub bilateral : (id : ℕ) (t : Trade) → T (own id t) → T (bilateral_for_day t)
  pub apart : (id other : ℕ) → (other ≡ id → ⊥) → (t : Trade) → T (own id t) → own other t ≡ false

-- each trade of kind 0 and day 0, as it is borne, passes the test of one of some users
pub record OwnedAmong (own : ℕ → Trade → Bool) (us : List User) : Type 0 where
  pub some : (t : Trade) → T (borne_valid us t) → T (bilateral_for_day t) → T (any (λ u. own u.party.id t) us)
