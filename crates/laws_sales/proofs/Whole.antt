-- What stands of all own sales, written at their places, is what stands of the trades. Assumes nothing.
use Rattle.base.specs.Basics.{◌≡◌, refl, sym, ap, ap₂, ◌∙◌, Bool, false, cond, ◌||◌, List, [], ◌∷◌, map, ℕ, T, T_not, length, length-map, not_T}
use Rattle.base.proofs.Tests.{and_l, and_r, by_case, fails}
use Rattle.laws.proofs.Trades.{framed_refl}
use Rattle.laws.specs.Trades.{Framed, Pairwise, ended, then}
use Rattle.rules.specs.Book.{Terms, Trade, User, bilateral_for_day}
use Rattle.base.specs.Lists.{all, any}
use Rattle.laws_sales.proofs.{Groups.places_length, Origins.grouped_ext, Standing.places_stay, Standing.written-append, Standing.written_past}
use Rattle.laws_sales.specs.Borne.{borne_valid}
use Rattle.laws_sales.specs.{Groups.grouped, Groups.standing_at, Groups.written, Kept.kept, Kept.places_of, Own.OfTerms, Own.Owned, Own.OwnedAmong}

-- trades, and in their place others where they pass a test
mixed : (Trade → Bool) → List Trade → List Trade → List Trade
mixed p [] ns = []
mixed p (t ∷ ts) [] = t ∷ ts
mixed p (t ∷ ts) (n ∷ ns) = cond (p t) n t ∷ mixed p ts ns

-- the same terms and as much standing
same_trade : {t n : Trade} → n.terms ≡ t.terms → n.standing ≡ t.standing → t ≡ n
same_trade {t} {n} e f = ap₂ (λ (r : Terms) (s : ℕ). record { terms = r; standing = s }) (sym e) (sym f)

-- ---- one test

-- what stands of those that pass, written at their places
written-kept : (d : Trade) (p : Trade → Bool) → OfTerms p → {ts ns : List Trade} → Pairwise Framed ts ns → written d (places_of p ts) (map (λ n. n.standing) (kept p ns)) ts ≡ mixed p ts ns
unfolding written places_of kept mixed standing_at OfTerms
written-kept d p o ended = refl
written-kept d p o (then {t = t} {n = n} {ts = ts} {ns = ns} f fs) =
    let rest = written_past d (places_of p ts) (map (λ n. n.standing) (kept p ns)) in
    by_case (p t)
    (λ e. rw (o t n f.terms, e)
    (rest (standing_at n.standing t) ts ∙ ap₂ (λ (x : Trade) (xs : List Trade). x ∷ xs) (ap (λ (r : Terms). record { terms = r; standing = n.standing }) (sym f.terms)) (written-kept d p o fs)))
    (λ e. rw (o t n f.terms, e) (rest t ts ∙ ap (λ (xs : List Trade). t ∷ xs) (written-kept d p o fs)))

-- it differs in what stands only
mixed_framed : (p : Trade → Bool) {ts ns : List Trade} → Pairwise Framed ts ns → Pairwise Framed ts (mixed p ts ns) × Pairwise Framed (mixed p ts ns) ns
unfolding mixed
mixed_framed p ended = (ended, ended)
mixed_framed p (then {t = t} {n = n} f fs) =
    let rest = mixed_framed p fs in
    by_case (p t) (λ e. rw e (then f rest.0, then (framed_refl n) rest.1)) (λ e. rw e (then (framed_refl t) rest.0, then f rest.1))

-- two tests, one after the other
mixed_twice : (p q : Trade → Bool) {ts ns : List Trade} → Pairwise Framed ts ns → mixed q (mixed p ts ns) ns ≡ mixed (λ t. p t || q t) ts ns
unfolding mixed
mixed_twice p q ended = refl
mixed_twice p q (then {t = t} {n = n} f fs) =
    ap₂ (λ (x : Trade) (xs : List Trade). x ∷ xs)
    (by_case (p t) (λ e. rw e (by_case (q n) (λ k. rw k refl) (λ k. rw k refl))) (λ e. rw e refl))
    (mixed_twice p q fs)

mixed_none : {ts ns : List Trade} → Pairwise Framed ts ns → mixed (λ t. false) ts ns ≡ ts
unfolding mixed
mixed_none ended = refl
mixed_none (then {t = t} f fs) = ap (λ (xs : List Trade). t ∷ xs) (mixed_none fs)

-- ---- all users

module _ {own : ℕ → Trade → Bool} (o : Owned own) where
  -- the trade is a sale of some user
  of_some : List User → Trade → Bool
  of_some us t = any (λ u. own u.party.id t) us

  -- the places of a user's sales, and what stands of them
  abbrev at : List Trade → ℕ → List ℕ
  at ts id = places_of (own id) ts

  abbrev stands : List Trade → ℕ → List ℕ
  stands ts id = map (λ s. s.standing) (kept (own id) ts)

  -- as many places as amounts
  many : (id : ℕ) {ts ns : List Trade} → Pairwise Framed ts ns → length (at ts id) ≡ length (stands ns id)
  many id {ts} {ns} f = ap length (sym (places_stay o id f)) ∙ places_length (own id) ns ∙ sym (length-map (kept (own id) ns) (λ s. s.standing))

  written_users : (d : Trade) (us : List User) {ts ns : List Trade} → Pairwise Framed ts ns → written d (grouped (at ts) us) (grouped (stands ns) us) ts ≡ mixed (of_some us) ts ns
  unfolding grouped written of_some any
  written_users d [] f = sym (mixed_none f)
  written_users d (u ∷ us) {ts} {ns} f =
      let id = u.party.id in
      let mine = mixed (own id) ts ns in
      let both = mixed_framed (own id) f in
      written-append d (at ts id) (stands ns id) (grouped (at ts) us) (grouped (stands ns) us) ts (many id f)
      ∙ ap (written d (grouped (at ts) us) (grouped (stands ns) us)) (written-kept d (own id) (o.of_terms id) f)
      ∙ ap (λ (is : List ℕ). written d is (grouped (stands ns) us) mine) (grouped_ext (at ts) (at mine) (λ i. sym (places_stay o i both.0)) us)
      ∙ written_users d us both.1
      ∙ mixed_twice (own id) (of_some us) f

  -- of valid trades the others have nothing that differs
  mixed-all : (us : List User) → OwnedAmong own us → {ts ns : List Trade} → Pairwise Framed ts ns → T (all (borne_valid us) ts) → mixed (of_some us) ts ns ≡ ns
  unfolding mixed all of_some
  mixed-all us a ended v = refl
  mixed-all us a (then {t = t} {n = n} {ts = ts} f fs) v =
      let valid = and_l (borne_valid us t) (all (borne_valid us) ts) v in
      ap₂ (λ (x : Trade) (xs : List Trade). x ∷ xs)
      (by_case (of_some us t) (λ k. rw k refl)
      (λ k. rw k (same_trade f.terms (f.other (not_T (bilateral_for_day t) (λ h. T_not (of_some us t) (fails k) (a.some t valid h)))))))
      (mixed-all us a fs (and_r (borne_valid us t) (all (borne_valid us) ts) v))

  -- trades that differ in what stands of kind 0 and day 0 only: with what stands of the others' own sales written, they are the others
  pub whole : (d : Trade) (us : List User) → OwnedAmong own us → {ts ns : List Trade} → Pairwise Framed ts ns → T (all (borne_valid us) ts)
      → written d (grouped (λ id. places_of (own id) ts) us) (grouped (λ id. map (λ s. s.standing) (kept (own id) ns)) us) ts ≡ ns
  whole d us a f v = written_users d us f ∙ mixed-all us a f v
