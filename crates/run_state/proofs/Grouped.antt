-- The own sales of all users in one list with room behind them: each user's part of it, and the list from the parts. Where a run starts. Assumes nothing.
use Rattle.base.specs.Basics.{◌≡◌, sym, ap, ap₂, ◌∙◌, Bool, List, map, ℕ, suc, ◌≤◌, ◌<◌, arith, length, take, get_or}
use Rattle.book_format.specs.Steps.{place_of}
use Rattle.laws.specs.Sound.{Sound}
use Rattle.laws.proofs.Trades.{lowered_refl}
use Rattle.rules.specs.{Book.Book, Book.Terms, Levels.Limits}
use Rattle.run_state.proofs.Stays.{Alike, alike_many, with_same}
use Rattle.run_state.specs.{Asked.member_at, Going.Going, Going.OwedOf, Going.Rooms, Going.SalesIn, Going.StandingIn}
use Rattle.risk_user.specs.UserAt.{PositionsOf}
use Rattle.laws_sales.proofs.{Groups.start_same, Listed.all_grouped, Listed.part-grouped, Listed.terms_many, Own.own_sales_lem, Standing.starts_stay}
use Rattle.laws_sales.specs.{Borne.borne_book, Groups.areas_of, Groups.grouped, Groups.standings, Groups.starts, Groups.terms_of, Sales.own_sale, Sales.sales_of}
use Rattle.laws_sales.specs.Parts.{part}

-- ---- the lists of a book

module _ (b : Book) {count : ℕ} (all : count ≡ starts b (length b.users)) where
  -- what is read off the terms of the user's own sales
  terms_part : (g : Terms → ℕ) (xs : List ℕ) → take count xs ≡ terms_of g b → (i : ℕ) → i < length b.users
      → part (starts b i) (starts b (suc i)) xs ≡ map (λ s. g s.terms) (sales_of b.trades (member_at b i).party.id)
  terms_part g xs e i k =
      let of : ℕ → List ℕ = λ id. map (λ s. g s.terms) (sales_of b.trades id) in
      let same = start_same of (standings b.trades) (terms_many own_sale b.trades g) b.users in
      ap₂ (λ (m n : ℕ). part m n xs) (sym (same i)) (sym (same (suc i))) ∙ part-grouped of b.users xs count e (omega (arith, all, same (length b.users))) i k

  pub sales_listed : {ss area_codes bs : List ℕ} → count ≤ 256 → ((i : ℕ) → i ≤ length b.users → get_or ss i 0 ≡ starts b i) → take count area_codes ≡ areas_of b
      → take count bs ≡ terms_of (λ r. place_of b.users r.buyer) b → length area_codes ≡ 256 → length bs ≡ 256 → SalesIn b ss area_codes bs
  sales_listed {area_codes = area_codes} {bs} few at ea eb ra rb =
      record {
        few = omega (arith, all);
        areas_room = ra;
        buyers_room = rb;
        starts_at = at;
        areas_at = terms_part (λ r. r.area) area_codes ea;
        buyers_at = terms_part (λ r. place_of b.users r.buyer) bs eb;
      }

  pub standing_listed : {ns : List ℕ} → take count ns ≡ grouped (standings b.trades) b.users → StandingIn b b ns
  standing_listed {ns} e = record { each = part-grouped (standings b.trades) b.users ns count e (omega (arith, all)) }

-- a run starts at its opening book
pub going_first : {limits : Limits} {b : Book} {ns ps ts : List ℕ} {es : List Bool} → Sound b → StandingIn (borne_book b) (borne_book b) ns → PositionsOf (borne_book b).users ps → OwedOf limits b ts es
    → Rooms ns ps ts es → Going limits b b ns ps ts es
going_first {b = b} s n p w r =
    record { sound = s; lowered = lowered_refl b.trades; borne = lowered_refl (borne_book b).trades; same = with_same b; standing = n; positions = p; owed = w; rooms = r }

-- what stands of all own sales of a run's book
pub standing_all : {o b : Book} {ns : List ℕ} → Alike o b → StandingIn o b ns → take (starts o (length o.users)) ns ≡ grouped (standings b.trades) b.users
standing_all {o} {b} {ns} t p =
    let stay = starts_stay own_sales_lem o b t.framed t.parties in
    ap (λ (n : ℕ). take n ns) (sym (ap (starts b) (alike_many t) ∙ stay (length o.users)))
    ∙ all_grouped (standings b.trades) b.users ns (λ i h. ap₂ (λ (m n : ℕ). part m n ns) (stay i) (stay (suc i)) ∙ p.each i h)
