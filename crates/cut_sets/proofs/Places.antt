-- Sets of the eligible trades among all trades: their number, the worth of a set by trade place, and what is claimed of the search among them. Assumes nothing.
use Rattle.base.specs.Basics.{◌≡◌, refl, ap, sym, subst, fun_ext, Bool, true, false, cond, List, [], ◌∷◌, map, ℕ, ◌+◌, ◌-◌, ◌^◌, ◌≤◌, ◌<◌, arith, leb}
use Rattle.base.specs.Basics.{length, le-leb, lt-leb}
use Rattle.base.specs.Sums.{sum}
use Rattle.base.proofs.Linear.{by_order}
use Rattle.cut_sets.specs.Sets.{marked_worth, worth_of_set}
use Rattle.cut_sets.specs.Search.{Choice, searched, whole_search}
use Rattle.cut_sets.specs.Places.{count_of, marks_at, place_search, worth_in, worths_of}
use Rattle.cut_sets.specs.Claims.{Claim}
use Rattle.cut_sets.proofs.Claims.{more_tries, whole_claim}
use Rattle.cut_sets.proofs.Sets.{worth_of_none, worth_high, worth_low}

-- all of n trades are tried
abbrev first : ℕ → (ℕ → ℕ) → ℕ → Choice
first n value asked = record { set = 2 ^ n - 1; excess = value (2 ^ n - 1) - asked }

module _ {A : Type 0} (eligible : A → Bool) (worth : A → ℕ) where
  -- as many worths as eligible trades
  pub worths_count : (ts : List A) → length (worths_of eligible worth ts) ≡ count_of eligible ts
  unfolding worths_of count_of sum
  worths_count [] = refl
  worths_count (t ∷ ts) = go (eligible t) (worths_count ts)
    where
      go : (e : Bool) → length (worths_of eligible worth ts) ≡ count_of eligible ts
          → length (cond e (worth t ∷ worths_of eligible worth ts) (worths_of eligible worth ts)) ≡ cond e 1 0 + count_of eligible ts
      go true h = omega arith
      go false h = omega arith

  -- the worth of the trades marked by place is the worth of the set
  places_worth : (ts : List A) (m : ℕ) → worth_in eligible worth ts m ≡ worth_of_set (worths_of eligible worth ts) m
  unfolding worth_in marks_at worths_of marked_worth
  places_worth [] m = sym (worth_of_none m)
  places_worth (t ∷ ts) m = go (eligible t) (λ j. places_worth ts j)
    where
      bit : ℕ
      bit = 2 ^ count_of eligible ts

      ws : List ℕ
      ws = worths_of eligible worth ts

      go : (e : Bool) → ((j : ℕ) → marked_worth (marks_at eligible ts j) (map worth ts) ≡ worth_of_set ws j)
          → marked_worth (cond e (cond (leb bit m) (true ∷ marks_at eligible ts (m - bit)) (false ∷ marks_at eligible ts m)) (false ∷ marks_at eligible ts m)) (worth t ∷ map worth ts)
          ≡ worth_of_set (cond e (worth t ∷ ws) ws) m
      go false h = omega (arith, h m)
      go true h =
          let same : 2 ^ length ws ≡ bit = ap (λ (i : ℕ). 2 ^ i) (worths_count ts) in
          by_order m bit (λ l. rw (lt-leb bit m l) (omega (arith, h m, worth_low (worth t) ws m (omega arith))))
          (λ l.
          let rest : m - 2 ^ length ws ≡ m - bit = omega arith in
          rw (le-leb bit m l) (omega (arith, h (m - bit), worth_high (worth t) ws m (omega arith), ap (worth_of_set ws) rest)))

  -- the search among the eligible trades of a book is the search among their worths
  pub place_search_lem : (ts : List A) (asked tries : ℕ) → place_search eligible worth ts asked tries ≡ whole_search (worths_of eligible worth ts) asked tries
  unfolding place_search whole_search
  place_search_lem ts asked tries =
      let ws = worths_of eligible worth ts in
      let same : worth_in eligible worth ts ≡ worth_of_set ws = fun_ext (λ m. places_worth ts m) in
      subst
      (λ (n : ℕ). searched (worth_in eligible worth ts) asked (tries - 1) (2 ^ n - 1) 1 (first n (worth_in eligible worth ts) asked) ≡ whole_search ws asked tries)
      (worths_count ts)
      (ap (λ (v : ℕ → ℕ). searched v asked (tries - 1) (2 ^ length ws - 1) 1 (first (length ws) v asked)) same)

  -- all eligible trades together
  pub worths_sum : (ts : List A) → sum (λ w. w) (worths_of eligible worth ts) ≡ sum (λ t. cond (eligible t) (worth t) 0) ts
  unfolding worths_of sum
  worths_sum [] = refl
  worths_sum (t ∷ ts) = go (eligible t) (worths_sum ts)
    where
      go : (e : Bool) → sum (λ w. w) (worths_of eligible worth ts) ≡ sum (λ t. cond (eligible t) (worth t) 0) ts
          → sum (λ w. w) (cond e (worth t ∷ worths_of eligible worth ts) (worths_of eligible worth ts)) ≡ cond e (worth t) 0 + sum (λ t. cond (eligible t) (worth t) 0) ts
      go true h = omega (arith, h)
      go false h = omega (arith, h)

  -- ---- what is claimed of a search

  pub place_claim : (ts : List A) (asked tries : ℕ) → asked ≤ sum (λ t. cond (eligible t) (worth t) 0) ts → 0 < tries
      → Claim (worth_in eligible worth ts) asked (2 ^ count_of eligible ts) tries (place_search eligible worth ts asked tries)
  place_claim ts asked tries h k =
      let ws = worths_of eligible worth ts in
      let same : worth_of_set ws ≡ worth_in eligible worth ts = fun_ext (λ m. sym (places_worth ts m)) in
      rw (place_search_lem ts asked tries, ← same, ← worths_count ts) (whole_claim ws asked tries (rw (worths_sum ts) h) k)

  pub place_more_tries : (ts : List A) (asked tries more : ℕ) → tries ≤ more
      → (place_search eligible worth ts asked more).choice.excess ≤ (place_search eligible worth ts asked tries).choice.excess
  place_more_tries ts asked tries more h = rw (place_search_lem ts asked tries, place_search_lem ts asked more) (more_tries (worths_of eligible worth ts) asked tries more h)
