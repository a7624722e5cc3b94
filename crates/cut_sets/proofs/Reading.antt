-- Sets told by marks and the numbers that they are read as: each of the two gives the other, from the first trade on. Assumes nothing.
use Rattle.base.specs.Basics.{◌≡◌, refl, ap, ◌∙◌, Bool, true, false, not, cond, ◌||◌, List, [], ◌∷◌, ℕ, suc, ◌+◌, ◌-◌, ◌^◌, ◌<◌, arith, T, leb}
use Rattle.base.specs.Basics.{le-leb, lt-leb}
use Rattle.base.specs.Sums.{sum}
use Rattle.base.proofs.Linear.{by_order}
use Rattle.base.proofs.Tests.{and_i, and_l, and_r, by_test}
use Rattle.cut_sets.specs.Places.{count_of, is_set, marks_at, set_number}
use Rattle.cut_sets.specs.Claims.{EverySet}
use Rattle.cut_sets.proofs.Sets.{pow_more}

-- one trade more has twice as many sets
one_more : (n : ℕ) → 2 ^ (1 + n) ≡ 2 ^ n + 2 ^ n
one_more n =
    let same : 1 + n ≡ suc n = omega arith in
    ap (λ (i : ℕ). 2 ^ i) same ∙ pow_more n

module _ {A : Type 0} (eligible : A → Bool) where
  number_inside : (ts : List A) (xs : List Bool) → T (is_set eligible ts xs) → set_number eligible ts xs < 2 ^ count_of eligible ts
  unfolding is_set set_number count_of sum
  number_inside [] [] h = omega arith
  number_inside [] (x ∷ xs) h = absurd h
  number_inside (t ∷ ts) [] h = absurd h
  number_inside (t ∷ ts) (x ∷ xs) h =
      go x (eligible t) (and_l (not x || eligible t) (is_set eligible ts xs) h) (number_inside ts xs (and_r (not x || eligible t) (is_set eligible ts xs) h))
    where
      n : ℕ
      n = count_of eligible ts

      go : (x e : Bool) → T (not x || e) → set_number eligible ts xs < 2 ^ n → cond x (2 ^ n) 0 + set_number eligible ts xs < 2 ^ (cond e 1 0 + n)
      go true true k l = omega (arith, one_more n)
      go true false k l = absurd k
      go false true k l = omega (arith, one_more n)
      go false false k l =
          let same : 0 + n ≡ n = omega arith in
          rw same (omega arith)

  marks_of_number : (ts : List A) (xs : List Bool) → T (is_set eligible ts xs) → marks_at eligible ts (set_number eligible ts xs) ≡ xs
  unfolding is_set set_number marks_at
  marks_of_number [] [] h = refl
  marks_of_number [] (x ∷ xs) h = absurd h
  marks_of_number (t ∷ ts) [] h = absurd h
  marks_of_number (t ∷ ts) (x ∷ xs) h =
      let rest = and_r (not x || eligible t) (is_set eligible ts xs) h in
      go x (eligible t) (and_l (not x || eligible t) (is_set eligible ts xs) h) (number_inside ts xs rest) (marks_of_number ts xs rest)
    where
      bit : ℕ
      bit = 2 ^ count_of eligible ts

      m : ℕ
      m = set_number eligible ts xs

      go : (x e : Bool) → T (not x || e) → m < bit → marks_at eligible ts m ≡ xs
          → cond e
          (cond (leb bit (cond x bit 0 + m)) (true ∷ marks_at eligible ts (cond x bit 0 + m - bit)) (false ∷ marks_at eligible ts (cond x bit 0 + m)))
          (false ∷ marks_at eligible ts (cond x bit 0 + m))
          ≡ x ∷ xs
      go true true k l same =
          let less : bit + m - bit ≡ m = omega arith in
          rw (le-leb bit (bit + m) (omega arith), less) (ap (λ (ys : List Bool). true ∷ ys) same)
      go true false k l same = absurd k
      go false true k l same =
          let none : 0 + m ≡ m = omega arith in
          rw (none, lt-leb bit m l) (ap (λ (ys : List Bool). false ∷ ys) same)
      go false false k l same =
          let none : 0 + m ≡ m = omega arith in
          rw none (ap (λ (ys : List Bool). false ∷ ys) same)

  marks_are_set : (ts : List A) (m : ℕ) → T (is_set eligible ts (marks_at eligible ts m))
  unfolding is_set marks_at
  marks_are_set [] m = tt
  marks_are_set (t ∷ ts) m =
      let bit = 2 ^ count_of eligible ts in
      by_test (λ (xs : List Bool). T (is_set eligible (t ∷ ts) xs)) (eligible t)
      (λ h.
      by_test (λ (xs : List Bool). T (is_set eligible (t ∷ ts) xs)) (leb bit m)
      (λ k. and_i (eligible t) (is_set eligible ts (marks_at eligible ts (m - bit))) h (marks_are_set ts (m - bit)))
      (λ k. marks_are_set ts m))
      (λ h. marks_are_set ts m)

  number_of_marks : (ts : List A) (m : ℕ) → m < 2 ^ count_of eligible ts → set_number eligible ts (marks_at eligible ts m) ≡ m
  unfolding set_number marks_at count_of sum
  number_of_marks [] m h = omega arith
  number_of_marks (t ∷ ts) m h = go (eligible t) h (λ j. number_of_marks ts j)
    where
      n : ℕ
      n = count_of eligible ts

      go : (e : Bool) → m < 2 ^ (cond e 1 0 + n) → ((j : ℕ) → j < 2 ^ n → set_number eligible ts (marks_at eligible ts j) ≡ j)
          → set_number eligible (t ∷ ts) (cond e (cond (leb (2 ^ n) m) (true ∷ marks_at eligible ts (m - 2 ^ n)) (false ∷ marks_at eligible ts m)) (false ∷ marks_at eligible ts m)) ≡ m
      go true k hs =
          by_order m (2 ^ n) (λ l. rw (lt-leb (2 ^ n) m l) (omega (arith, hs m l)))
          (λ l. rw (le-leb (2 ^ n) m l) (omega (arith, hs (m - 2 ^ n) (omega (arith, one_more n)))))
      go false k hs =
          let same : 0 + n ≡ n = omega arith in
          omega (arith, hs m (rw same at k))

  pub every_set : (ts : List A) → EverySet eligible ts
  every_set ts = record { inside = number_inside ts; told = marks_of_number ts; set = marks_are_set ts; read = number_of_marks ts }
