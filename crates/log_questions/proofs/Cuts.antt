-- The cuts of an entry added to the sums of those before it, place by place. Assumes nothing.
use Rattle.base.specs.Basics.{◌≡◌, refl, sym, ap, ap₂, ◌∙◌, List, [], ◌∷◌, ℕ, zero, suc, ◌+◌, ◌*◌, ◌≤◌, ◌<◌, add-zero, le_of_suc-le-suc}
use Rattle.base.specs.Basics.{not-suc-le-zero, arith, length, take, drop, get_or, set, drop-drop, get_or-take, length-take-le, get_or-set_other}
use Rattle.base.specs.Basics.{get_or-set_same, sets}
use Rattle.base.proofs.Stores.{here_or_apart}
use Rattle.base.proofs.Storing.{Storing, storing_start, storing_next, storing_end}
use Rattle.laws.proofs.Cuts.{length-together}
use Rattle.fields.proofs.Field.{field_part}
use Rattle.fields.proofs.Records.{get_or-records_of, length-records_of}
use Rattle.fields.specs.Field.{field}
use Rattle.rules.specs.Reduction.{together}
use Rattle.log_questions.specs.Form.{Sums, cuts_from}

-- ---- two cuts of each trade as one

get_or-together : (cs ds : List ℕ) (k : ℕ) → k < length cs → k < length ds → get_or (together cs ds) k 0 ≡ get_or cs k 0 + get_or ds k 0
unfolding together
get_or-together [] ds k h j = absurd (not-suc-le-zero h)
get_or-together (c ∷ cs) [] k h j = absurd (not-suc-le-zero j)
get_or-together (c ∷ cs) (d ∷ ds) zero h j = refl
get_or-together (c ∷ cs) (d ∷ ds) (suc k) h j = get_or-together cs ds k (le_of_suc-le-suc h) (le_of_suc-le-suc j)

-- ---- an entry

-- the cut of the trade at a place
pub cut_field : (m at k : ℕ) (l : List ℕ) → k < m → get_or (cuts_from m at l) k 0 ≡ field 4 (at + 4 * k) l
cut_field m at k l h =
    get_or-records_of 4 (field 4 0) m k (drop at l) 0 h
    ∙ ap (λ (x : List ℕ). field 4 0 (take 4 x)) (drop-drop (4 * k) at l)
    ∙ field_part 4 0 (at + 4 * k) 4 l (omega arith)
    ∙ ap (λ (n : ℕ). field 4 n l) (add-zero (at + 4 * k))

-- the sums after the entry's cuts
abbrev pub added : ℕ → ℕ → List ℕ → List ℕ → List ℕ
added m at l xs = together (cuts_from m at l) (take m xs)

-- the first k are, and none has risen by more than a cut can be
pub record AddedTo (m at : ℕ) (l xs₀ xs : List ℕ) (k : ℕ) : Type 0 where
  pub storing : Storing (added m at l xs₀) 0 xs₀ xs k
  pub rise : (j : ℕ) → get_or xs j 0 ≤ get_or xs₀ j 0 + 4294967296

module _ (m at : ℕ) (l xs₀ : List ℕ) (few : m ≤ 256) (room : length xs₀ ≡ 256) where
  pub length-added : length (added m at l xs₀) ≡ m
  length-added =
      let long = length-records_of 4 (field 4 0) m (drop at l) in
      length-together (cuts_from m at l) (take m xs₀) (omega (arith, long, length-take-le m xs₀ (omega arith))) ∙ long

  pub added_start : AddedTo m at l xs₀ xs₀ 0
  added_start = record { storing = storing_start (added m at l xs₀) 0 xs₀; rise = λ j. omega arith }

  module _ {xs : List ℕ} {k : ℕ} (p : AddedTo m at l xs₀ xs k) where
    -- one more: the cut at its place, and what the sums had
    pub added_next : (cut : ℕ) → k < m → cut ≡ field 4 (at + 4 * k) l → cut ≤ 4294967296 → AddedTo m at l xs₀ (set xs k (cut + get_or xs k 0)) (k + 1)
    added_next cut h e small =
        let long = length-records_of 4 (field 4 0) m (drop at l) in
        let was = p.storing.after k 0 (omega arith) in
        let sum : cut + get_or xs k 0 ≡ get_or (added m at l xs₀) k 0
        = ap₂ (λ (a b : ℕ). a + b) (e ∙ sym (cut_field m at k l h)) (was ∙ sym (get_or-take m xs₀ k 0 h)) ∙ sym (get_or-together (cuts_from m at l) (take m xs₀) k (omega (arith, long)) (omega (arith, length-take-le m xs₀ (omega arith)))) in
        record {
          storing = storing_next p.storing (cut + get_or xs k 0) 0 (omega (arith, length-added)) sum;
          rise = λ j.
              here_or_apart (λ (i : ℕ). get_or (set xs k (cut + get_or xs k 0)) i 0 ≤ get_or xs₀ i 0 + 4294967296) k j
              (rw (get_or-set_same xs k (cut + get_or xs k 0) 0 (omega (arith, p.storing.long))) (omega (arith, was)))
              (λ n. rw (get_or-set_other xs k j (cut + get_or xs k 0) 0 n) (p.rise j));
        }

    pub added_end : m ≤ k → xs ≡ sets xs₀ 0 (added m at l xs₀)
    added_end h = storing_end p.storing (omega (arith, length-added))

    pub added_most : (most : ℕ) → Sums xs₀ most → Sums xs (most + 4294967296)
    added_most most s = record { room = p.storing.long ∙ s.room; each = λ j. omega (arith, p.rise j, s.each j) }

    -- so a sum fits
    pub added_fits : Sums xs₀ 1099511627776 → (j : ℕ) → get_or xs j 0 ≤ 2199023255552
    added_fits s j = omega (arith, p.rise j, s.each j)
