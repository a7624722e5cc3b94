-- What stands of trades: amounts written at places; and what stays of the own sales of users where trades differ in what stands of kind 0 and day 0 only. Assumes nothing.
use Rattle.base.specs.Basics.{◌≡◌, refl, sym, ap, ap₂, ◌∙◌, Bool, List, [], ◌∷◌, ◌++◌, map, ℕ, suc, arith, length, take, get_or, set, length-map}
use Rattle.base.proofs.{Tests.by_case, Fronts.front_take}
use Rattle.laws.specs.Trades.{Framed, Pairwise, ended, then}
use Rattle.rules.specs.Book.{Book, Terms, User, Trade}
use Rattle.laws_sales.proofs.Groups.{grouped-length, grouped_parties}
use Rattle.laws_sales.specs.{Groups.start_of, Groups.standing_at, Groups.written, Kept.kept, Kept.places_of, Own.OfTerms, Own.Owned}

-- ---- amounts written at places

-- past the first trade
pub written_past : (d : Trade) (is ns : List ℕ) (t : Trade) (ts : List Trade) → written d (map suc is) ns (t ∷ ts) ≡ t ∷ written d is ns ts
unfolding written
written_past d [] ns t ts = refl
written_past d (i ∷ is) [] t ts = refl
written_past d (i ∷ is) (n ∷ ns) t ts = written_past d is ns t (set ts i (standing_at n (get_or ts i d)))

-- some amounts, then others
pub written-append : (d : Trade) (is ns js ms : List ℕ) (ts : List Trade) → length is ≡ length ns → written d (is ++ js) (ns ++ ms) ts ≡ written d js ms (written d is ns ts)
unfolding written
written-append d [] [] js ms ts e = refl
written-append d [] (n ∷ ns) js ms ts e = absurd (omega arith)
written-append d (i ∷ is) [] js ms ts e = absurd (omega arith)
written-append d (i ∷ is) (n ∷ ns) js ms ts e = written-append d is ns js ms (set ts i (standing_at n (get_or ts i d))) (omega arith)

-- ---- what stays where trades differ in what stands only

-- places are read off the terms
places_framed : (p : Trade → Bool) → OfTerms p → {ts ns : List Trade} → Pairwise Framed ts ns → places_of p ns ≡ places_of p ts
unfolding places_of OfTerms
places_framed p o ended = refl
places_framed p o (then {t = t} {n = n} f fs) = rw (o t n f.terms, places_framed p o fs)

-- and so is all that is read off the terms of those that pass
terms_framed : {B : Type 0} (g : Terms → B) (p : Trade → Bool) → OfTerms p → {ts ns : List Trade} → Pairwise Framed ts ns
    → map (λ n. g n.terms) (kept p ns) ≡ map (λ t. g t.terms) (kept p ts)
unfolding kept OfTerms
terms_framed g p o ended = refl
terms_framed {B} g p o (then {t = t} {n = n} f fs) =
    by_case (p t)
    (λ e. rw (o t n f.terms ∙ e, e) (ap₂ (λ (x : B) (xs : List B). x ∷ xs) (ap g f.terms) (terms_framed g p o fs)))
    (λ e. rw (o t n f.terms ∙ e, e) (terms_framed g p o fs))

module _ {own : ℕ → Trade → Bool} (o : Owned own) where
  -- trades that differ in what stands only: the places and the terms of the own sales stay
  pub places_stay : (id : ℕ) {ts ns : List Trade} → Pairwise Framed ts ns → places_of (own id) ns ≡ places_of (own id) ts
  places_stay id f = places_framed (own id) (o.of_terms id) f

  pub terms_stay : {B : Type 0} (g : Terms → B) (id : ℕ) {ts ns : List Trade} → Pairwise Framed ts ns
      → map (λ n. g n.terms) (kept (own id) ns) ≡ map (λ t. g t.terms) (kept (own id) ts)
  terms_stay g id f = terms_framed g (own id) (o.of_terms id) f

-- the same parties, as many from the front
take_parties : (us vs : List User) → map (λ v. v.party) vs ≡ map (λ u. u.party) us → (i : ℕ) → map (λ v. v.party) (take i vs) ≡ map (λ u. u.party) (take i us)
take_parties us vs e i = front_take (λ v. v.party) i vs ∙ ap (take i) e ∙ sym (front_take (λ u. u.party) i us)

-- users who are the same parties are as many
pub same_length : (us vs : List User) → map (λ v. v.party) vs ≡ map (λ u. u.party) us → length vs ≡ length us
same_length us vs e = sym (length-map vs (λ v. v.party)) ∙ ap length e ∙ length-map us (λ u. u.party)

module _ {own : ℕ → Trade → Bool} (o : Owned own) where
  -- what stands of the own sales
  abbrev stands : List Trade → ℕ → List ℕ
  stands ts id = map (λ s. s.standing) (kept (own id) ts)

  -- as many own sales
  stands-length : {ts ns : List Trade} → Pairwise Framed ts ns → (id : ℕ) → length (stands ns id) ≡ length (stands ts id)
  stands-length {ts} {ns} f id =
      length-map (kept (own id) ns) (λ s. s.standing)
      ∙ sym (length-map (kept (own id) ns) (λ s. s.terms.area)) ∙ ap length (terms_stay o (λ r. r.area) id f) ∙ length-map (kept (own id) ts) (λ s. s.terms.area)
      ∙ sym (length-map (kept (own id) ts) (λ s. s.standing))

  -- the parts of users start where they did
  pub starts_stay : (b c : Book) → Pairwise Framed b.trades c.trades → map (λ v. v.party) c.users ≡ map (λ v. v.party) b.users → (i : ℕ)
      → start_of (λ id. map (λ s. s.standing) (kept (own id) c.trades)) c.users i ≡ start_of (λ id. map (λ s. s.standing) (kept (own id) b.trades)) b.users i
  unfolding start_of
  starts_stay b c f e i =
      ap length (grouped_parties (stands c.trades) (take i b.users) (take i c.users) (take_parties b.users c.users e i))
      ∙ grouped-length (stands c.trades) (stands b.trades) (stands-length f) (take i b.users)
