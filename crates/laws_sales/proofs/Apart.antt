-- The places of all own sales: each is that of a trade of kind 0 and day 0, and no two are the same. Assumes nothing.
use Rattle.base.specs.Basics.{◌≡◌, sym, subst, Bool, not, List, [], ◌∷◌, ◌++◌, map, ℕ, zero, suc, ◌≤◌, ◌<◌, le_of_suc-le-suc, not-suc-le-zero, arith, T, T_not}
use Rattle.base.specs.Basics.{eqb, eqb-suc-suc, ltb, ltb→lt, get_or, length, ne_eqb}
use Rattle.base.proofs.Fronts.{all_at}
use Rattle.base.proofs.Tests.{all_append, all_by, all_map, and_i, and_l, and_r, eqb_of, by_case, fails, holds, all_yes}
use Rattle.rules.specs.{Book.Trade, Book.User, Book.bilateral_for_day, Questions.ids_rise}
use Rattle.base.specs.Lists.{all}
use Rattle.laws_sales.proofs.Origins.{grouped-all}
use Rattle.laws_sales.specs.{Groups.grouped, Kept.places_of, Own.Owned}

-- ---- numbers that differ

-- none is n
abbrev without : ℕ → List ℕ → Bool
without n is = all (λ i. not (eqb i n)) is

-- each differs from those after it
data Apart : List ℕ → Type 0 where
  none : Apart []
  before : {i : ℕ} {is : List ℕ} → T (without i is) → Apart is → Apart (i ∷ is)

not_same : (i n : ℕ) → (i ≡ n → ⊥) → T (not (eqb i n))
not_same i n f = fails (ne_eqb i n f)

-- at two places
apart_at : {is : List ℕ} → Apart is → (j k : ℕ) → j < k → k < length is → get_or is j 0 ≡ get_or is k 0 → ⊥
apart_at none j k h l e = not-suc-le-zero l
apart_at (before {i} {is} f a) zero zero h l e = not-suc-le-zero h
apart_at (before {i} {is} f a) zero (suc k) h l e =
    T_not (eqb (get_or is k 0) i) (all_at (λ n. not (eqb n i)) is f k 0 (le_of_suc-le-suc l)) (eqb_of (get_or is k 0) i (sym e))
apart_at (before {i} {is} f a) (suc j) zero h l e = not-suc-le-zero h
apart_at (before {i} {is} f a) (suc j) (suc k) h l e = apart_at a j k (le_of_suc-le-suc h) (le_of_suc-le-suc l) e

-- each one higher
apart_suc : {is : List ℕ} → Apart is → Apart (map suc is)
apart_suc none = none
apart_suc (before {i} {is} f a) =
    let later : T (without (suc i) (map suc is)) =
    rw (all_map (λ n. not (eqb n (suc i))) suc is) (all_by (λ n. not (eqb n i)) (λ n. not (eqb (suc n) (suc i))) (λ n t. rw (eqb-suc-suc n i) t) is f) in
    before later (apart_suc a)

-- two lists that share none
apart_append : {is js : List ℕ} → Apart is → Apart js → T (all (λ i. without i js) is) → Apart (is ++ js)
unfolding all
apart_append none b h = b
apart_append {js = js} (before {i} {is} f a) b h =
    let rest = all (λ n. without n js) is in
    before (all_append (λ n. not (eqb n i)) is js f (and_l (without i js) rest h)) (apart_append a b (and_r (without i js) rest h))

-- ---- the places of those that pass

module _ {A : Type 0} (p : A → Bool) where
  places_apart : (xs : List A) → Apart (places_of p xs)
  unfolding places_of all
  places_apart [] = none
  places_apart (x ∷ xs) =
      let rest = apart_suc (places_apart xs) in
      let later : T (all (λ n. not (eqb n 0)) (map suc (places_of p xs))) =
      rw (all_map (λ n. not (eqb n 0)) suc (places_of p xs)) (all_yes (λ n. not (eqb (suc n) 0)) (λ n. not_same (suc n) 0 (λ e. omega arith)) (places_of p xs)) in
      by_case (p x) (λ e. rw e (before later rest)) (λ e. rw e rest)

  -- what stands there passes
  places_pass : (d : A) (xs : List A) → T (all (λ i. p (get_or xs i d)) (places_of p xs))
  unfolding places_of all
  places_pass d [] = tt
  places_pass d (x ∷ xs) =
      let rest : T (all (λ i. p (get_or (x ∷ xs) i d)) (map suc (places_of p xs))) = rw (all_map (λ i. p (get_or (x ∷ xs) i d)) suc (places_of p xs)) (places_pass d xs) in
      by_case (p x) (λ e. rw e (and_i (p x) (all (λ i. p (get_or (x ∷ xs) i d)) (map suc (places_of p xs))) (holds e) rest)) (λ e. rw e rest)

-- ---- the places of all own sales

module _ {own : ℕ → Trade → Bool} (o : Owned own) (ts : List Trade) (d : Trade) where
  -- of one user
  abbrev of : ℕ → List ℕ
  of id = places_of (own id) ts

  -- no sale of a user is at a place of one with a higher id
  none_above : (us : List User) (id low : ℕ) → id ≤ low → T (ids_rise low us) → T (all (λ j. not (own id (get_or ts j d))) (grouped of us))
  unfolding grouped ids_rise all
  none_above [] id low h r = tt
  none_above (u ∷ us) id low h r =
      let other = u.party.id in
      let l = ltb→lt low other (and_l (ltb low other) (ids_rise other us) r) in
      all_append (λ j. not (own id (get_or ts j d))) (of other) (grouped of us)
      (all_by (λ j. own other (get_or ts j d)) (λ j. not (own id (get_or ts j d))) (λ j t. fails (o.apart other id (λ e. omega arith) (get_or ts j d) t)) (of other) (places_pass (own other) d ts))
      (none_above us id other (omega arith) (and_r (ltb low other) (ids_rise other us) r))

  all_apart : (us : List User) (low : ℕ) → T (ids_rise low us) → Apart (grouped of us)
  unfolding grouped ids_rise
  all_apart [] low r = none
  all_apart (u ∷ us) low r =
      let id = u.party.id in
      let rest = and_r (ltb low id) (ids_rise id us) r in
      apart_append (places_apart (own id) ts) (all_apart us id rest)
      (all_by (λ i. own id (get_or ts i d)) (λ i. without i (grouped of us))
      (λ i t. all_by (λ j. not (own id (get_or ts j d))) (λ j. not (eqb j i)) (λ j k. not_same j i (λ z. T_not (own id (get_or ts j d)) k (subst (λ (n : ℕ). T (own id (get_or ts n d))) (sym z) t))) (grouped of us) (none_above us id id (omega arith) rest))
      (of id) (places_pass (own id) d ts))

-- no two are the same; d is what is read past the end
pub origins_apart : {own : ℕ → Trade → Bool} → Owned own → (ts : List Trade) (us : List User) (d : Trade) → T (ids_rise 0 us) → (j k : ℕ) → j < k → k < length (grouped (λ id. places_of (own id) ts) us)
    → get_or (grouped (λ id. places_of (own id) ts) us) j 0 ≡ get_or (grouped (λ id. places_of (own id) ts) us) k 0 → ⊥
origins_apart o ts us d r j k h l e = apart_at (all_apart o ts d us 0 r) j k h l e

-- each is that of a trade of kind 0 and day 0
pub origin_bilateral : {own : ℕ → Trade → Bool} → Owned own → (ts : List Trade) (us : List User) (d : Trade) (k : ℕ) → k < length (grouped (λ id. places_of (own id) ts) us)
    → T (bilateral_for_day (get_or ts (get_or (grouped (λ id. places_of (own id) ts) us) k 0) d))
origin_bilateral {own} o ts us d k h =
    let of : ℕ → List ℕ = λ id. places_of (own id) ts in
    all_at (λ i. bilateral_for_day (get_or ts i d)) (grouped of us)
    (grouped-all (λ i. bilateral_for_day (get_or ts i d)) of
    (λ id. all_by (λ i. own id (get_or ts i d)) (λ i. bilateral_for_day (get_or ts i d)) (λ i t. o.bilateral id (get_or ts i d) t) (of id) (places_pass (own id) d ts)) us) k 0 h
