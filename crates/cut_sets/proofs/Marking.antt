-- The marks of a set by trade place, from the last trade on: a loop that marks all eligible trades but those left out. Assumes nothing.
use Rattle.base.specs.Basics.{◌≡◌, sym, ap, ap₂, ◌∙◌, Bool, true, false, cond, ◌&&◌, List, [], ◌∷◌, ◌++◌, append_assoc, ℕ, zero, suc, ◌+◌, ◌-◌, ◌^◌}
use Rattle.base.specs.Basics.{◌/◌, ◌%◌, ◌≤◌, ◌<◌, arith, eqb, leb, length, take, drop, get_or, set, replicate, length-set, length-replicate, drop-cons}
use Rattle.base.specs.Basics.{drop-set-lt, get_or-set_same, take_all, take-suc, le-leb, lt-leb, eq-eqb, ne_eqb}
use Rattle.base.specs.Sums.{sum}
use Rattle.base.proofs.Linear.{by_order}
use Rattle.cut_sets.specs.Places.{count_of, marks_at}
use Rattle.cut_sets.proofs.Sets.{pow_more}

blanks : (a b : ℕ) → a ≡ b → replicate a false ≡ replicate b false
blanks a b e = ap (λ (i : ℕ). replicate i false) e

drop-replicate : (n k : ℕ) → drop n (replicate k false) ≡ replicate (k - n) false
drop-replicate zero k = blanks k (k - 0) (omega arith)
drop-replicate (suc n) zero = blanks 0 (0 - suc n) (omega arith)
drop-replicate (suc n) (suc k) = drop-replicate n k ∙ blanks (k - n) (suc k - suc n) (omega arith)

-- a mark is written at a place
after_write : (table : List Bool) (i : ℕ) (b : Bool) → i < length table → drop i (set table i b) ≡ b ∷ drop (suc i) table
after_write table i b h =
    drop-cons (set table i b) i false (rw (length-set table i b) h)
    ∙ ap₂ (λ (x : Bool) (xs : List Bool). x ∷ xs) (get_or-set_same table i b false h) (drop-set-lt (suc i) table i b (omega arith))

module _ {A : Type 0} (eligible : A → Bool) where
  -- ---- one trade more

  count_more : (ts : List A) (t : A) → count_of eligible (ts ++ (t ∷ [])) ≡ count_of eligible ts + cond (eligible t) 1 0
  unfolding count_of sum
  count_more [] t = omega arith
  count_more (x ∷ ts) t = omega (arith, count_more ts t)

  -- the marks of a trade and of those after it
  abbrev onward : Bool → ℕ → (ℕ → List Bool) → ℕ → List Bool
  onward e c more m = cond e (cond (leb (2 ^ c) m) (true ∷ more (m - 2 ^ c)) (false ∷ more m)) (false ∷ more m)

  -- one that is not eligible has no mark
  marks_past : (ts : List A) (t : A) (m : ℕ) → eligible t ≡ false → marks_at eligible (ts ++ (t ∷ [])) m ≡ marks_at eligible ts m ++ (false ∷ [])
  unfolding marks_at
  marks_past [] t m e = rw e
  marks_past (x ∷ ts) t m e = go (eligible x) (count_more ts t) (λ j. marks_past ts t j e)
    where
      go : (b : Bool) → count_of eligible (ts ++ (t ∷ [])) ≡ count_of eligible ts + cond (eligible t) 1 0
          → ((j : ℕ) → marks_at eligible (ts ++ (t ∷ [])) j ≡ marks_at eligible ts j ++ (false ∷ []))
          → onward b (count_of eligible (ts ++ (t ∷ []))) (marks_at eligible (ts ++ (t ∷ []))) m ≡ onward b (count_of eligible ts) (marks_at eligible ts) m ++ (false ∷ [])
      go false c h = ap (λ (xs : List Bool). false ∷ xs) (h m)
      go true c h =
          let same : count_of eligible (ts ++ (t ∷ [])) ≡ count_of eligible ts = c ∙ rw e (omega arith) in
          let bit = 2 ^ count_of eligible ts in
          by_order m bit (λ l. rw (same, lt-leb bit m l) (ap (λ (xs : List Bool). false ∷ xs) (h m)))
          (λ l. rw (same, le-leb bit m l) (ap (λ (xs : List Bool). true ∷ xs) (h (m - bit))))

  -- one that is eligible is marked by the lowest bit
  marks_last : (ts : List A) (t : A) (m : ℕ) → eligible t ≡ true → m < 2 ^ suc (count_of eligible ts)
      → marks_at eligible (ts ++ (t ∷ [])) m ≡ marks_at eligible ts (m / 2) ++ (eqb (m % 2) 1 ∷ [])
  unfolding marks_at count_of sum
  marks_last [] t m e h =
      by_order m 1 (λ l. rw (e, lt-leb 1 m l, ne_eqb (m % 2) 1 (λ z. omega arith)))
      (λ l. rw (e, le-leb 1 m l, eq-eqb (m % 2) 1 (omega arith)))
  marks_last (x ∷ ts) t m e h = go (eligible x) h (count_more ts t) (λ j. marks_last ts t j e)
    where
      go : (b : Bool) → m < 2 ^ suc (cond b 1 0 + count_of eligible ts) → count_of eligible (ts ++ (t ∷ [])) ≡ count_of eligible ts + cond (eligible t) 1 0
          → ((j : ℕ) → j < 2 ^ suc (count_of eligible ts) → marks_at eligible (ts ++ (t ∷ [])) j ≡ marks_at eligible ts (j / 2) ++ (eqb (j % 2) 1 ∷ []))
          → onward b (count_of eligible (ts ++ (t ∷ []))) (marks_at eligible (ts ++ (t ∷ []))) m ≡ onward b (count_of eligible ts) (marks_at eligible ts) (m / 2) ++ (eqb (m % 2) 1 ∷ [])
      go false k n hs =
          let none : 0 + count_of eligible ts ≡ count_of eligible ts = omega arith in
          ap (λ (xs : List Bool). false ∷ xs) (hs m (rw none at k))
      go true k n hs =
          let one : 1 + count_of eligible ts ≡ suc (count_of eligible ts) = omega arith in
          let few : m < 2 ^ suc (suc (count_of eligible ts)) = rw one at k in
          let same : count_of eligible (ts ++ (t ∷ [])) ≡ suc (count_of eligible ts) = n ∙ rw e (omega arith) in
          let two = pow_more (count_of eligible ts) in
          let four = pow_more (suc (count_of eligible ts)) in
          let bit = 2 ^ count_of eligible ts in
          let bits = 2 ^ suc (count_of eligible ts) in
          by_order m bits
          (λ l. rw (same, lt-leb bits m l, lt-leb bit (m / 2) (omega arith)) (ap (λ (xs : List Bool). false ∷ xs) (hs m l)))
          (λ l.
          let half : (m - bits) / 2 ≡ m / 2 - bit = omega arith in
          let parity : (m - bits) % 2 ≡ m % 2 = omega arith in
          rw (same, le-leb bits m l, le-leb bit (m / 2) (omega arith)) (ap (λ (xs : List Bool). true ∷ xs) (hs (m - bits) (omega arith) ∙ rw (half, parity))))

  -- all but those left out: it is marked where the lowest bit left out is 0
  marks_rest : (ts : List A) (t : A) (rest : ℕ) → eligible t ≡ true → rest < 2 ^ suc (count_of eligible ts)
      → marks_at eligible (ts ++ (t ∷ [])) (2 ^ suc (count_of eligible ts) - 1 - rest) ≡ marks_at eligible ts (2 ^ count_of eligible ts - 1 - rest / 2) ++ (eqb (rest % 2) 0 ∷ [])
  marks_rest ts t rest e h =
      let n = count_of eligible ts in
      let two = pow_more n in
      let m = 2 ^ suc n - 1 - rest in
      let half : m / 2 ≡ 2 ^ n - 1 - rest / 2 = omega arith in
      marks_last ts t m e (omega arith) ∙ ap₂ (λ (i : ℕ) (b : Bool). marks_at eligible ts i ++ (b ∷ [])) half parity
    where
      parity : eqb ((2 ^ suc (count_of eligible ts) - 1 - rest) % 2) 1 ≡ eqb (rest % 2) 0
      parity =
          let two = pow_more (count_of eligible ts) in
          by_order (rest % 2) 1
          (λ l. eq-eqb ((2 ^ suc (count_of eligible ts) - 1 - rest) % 2) 1 (omega arith) ∙ sym (eq-eqb (rest % 2) 0 (omega arith)))
          (λ l. ne_eqb ((2 ^ suc (count_of eligible ts) - 1 - rest) % 2) 1 (λ z. omega arith) ∙ sym (ne_eqb (rest % 2) 0 (λ z. omega arith)))

  -- ---- the loop

  -- the marks of all eligible trades but those left out
  abbrev unmarked : List A → ℕ → List Bool
  unmarked ts left = marks_at eligible ts (2 ^ count_of eligible ts - 1 - left)

  -- a trade and what is left out of it and those before, by its eligibility
  unmarked_more : (e : Bool) (ts : List A) (t : A) (rest : ℕ) → e ≡ eligible t → rest < 2 ^ count_of eligible (ts ++ (t ∷ []))
      → (cond e (rest / 2) rest < 2 ^ count_of eligible ts) × (unmarked (ts ++ (t ∷ [])) rest ≡ unmarked ts (cond e (rest / 2) rest) ++ ((e && eqb (rest % 2) 0) ∷ []))
  unmarked_more true ts t rest h l =
      let same : count_of eligible (ts ++ (t ∷ [])) ≡ suc (count_of eligible ts) = count_more ts t ∙ rw (← h) (omega arith) in
      let few : rest < 2 ^ suc (count_of eligible ts) = rw same at l in
      let two = pow_more (count_of eligible ts) in
      (omega arith, rw same (marks_rest ts t rest (sym h) few))
  unmarked_more false ts t rest h l =
      let same : count_of eligible (ts ++ (t ∷ [])) ≡ count_of eligible ts = count_more ts t ∙ rw (← h) (omega arith) in
      (rw same at l, rw same (marks_past ts t (2 ^ count_of eligible ts - 1 - rest) (sym h)))

  -- from place i on the marks stand; what is left marks the first i trades
  pub record Marking (ts : List A) (left : ℕ) (table : List Bool) (rest i : ℕ) : Type 0 where
    pub inside : i ≤ length ts
    pub small : rest < 2 ^ count_of eligible (take i ts)
    pub room : length table ≡ 256
    pub whole : unmarked (take i ts) rest ++ drop i table ≡ unmarked ts left ++ replicate (256 - length ts) false

  module _ (ts : List A) (left : ℕ) (few : length ts ≤ 256) where
    pub marking_first : left < 2 ^ count_of eligible ts → Marking ts left (replicate 256 false) left (length ts)
    marking_first h =
        let all : take (length ts) ts ≡ ts = take_all (length ts) ts (omega arith) in
        record {
          inside = omega arith;
          small = rw all h;
          room = length-replicate 256 false;
          whole = rw all (ap (λ (xs : List Bool). unmarked ts left ++ xs) (drop-replicate (length ts) 256));
        }

    pub marking_more : {table : List Bool} {rest : ℕ} (i : ℕ) (d : A) → Marking ts left table rest i → 0 < i → {e b : Bool} {next : ℕ} → e ≡ eligible (get_or ts (i - 1) d)
        → b ≡ (e && eqb (rest % 2) 0) → next ≡ cond e (rest / 2) rest → Marking ts left (set table (i - 1) b) next (i - 1)
    marking_more zero d p h eligible_is b-is next_is = absurd (omega arith)
    marking_more {table} {rest} (suc j) d p h {e} {b} {next} eligible_is b-is next_is =
        let same : suc j - 1 ≡ j = omega arith in
        rw same (turned (rw same at eligible_is))
      where
        turned : e ≡ eligible (get_or ts j d) → Marking ts left (set table j b) next j
        turned k =
            let split = take-suc ts j d (omega (arith, p.inside)) in
            let m = unmarked_more e (take j ts) (get_or ts j d) rest k (rw split at p.small) in
            record {
              inside = omega (arith, p.inside);
              small = rw next_is m.0;
              room = length-set table j b ∙ p.room;
              whole =
                  ap (λ (xs : List Bool). unmarked (take j ts) next ++ xs) (after_write table j b (omega (arith, p.inside, few, p.room)))
                  ∙ sym (append_assoc (unmarked (take j ts) next) (b ∷ []) (drop (suc j) table))
                  ∙ ap (λ (xs : List Bool). xs ++ drop (suc j) table) (ap₂ (λ (x : ℕ) (y : Bool). unmarked (take j ts) x ++ (y ∷ [])) next_is b-is ∙ sym m.1 ∙ ap (λ (xs : List A). unmarked xs rest) (sym split))
                  ∙ p.whole;
            }

    pub marking_end : {table : List Bool} {rest : ℕ} (i : ℕ) → Marking ts left table rest i → i ≤ 0 → table ≡ marks_at eligible ts (2 ^ count_of eligible ts - 1 - left) ++ replicate (256 - length ts) false
    unfolding marks_at
    marking_end zero p h = p.whole
    marking_end (suc i) p h = absurd (omega arith)
