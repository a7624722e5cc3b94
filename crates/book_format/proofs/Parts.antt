-- A part of a record is set: a field of its values, the record's bytes among others, and the records that are read again. Assumes nothing.
use Rattle.base.specs.Basics.{◌≡◌, refl, sym, ap, ◌∙◌, List, [], ◌∷◌, ◌++◌, ℕ, zero, suc, ◌+◌, ◌*◌, ◌<◌, ◌≤◌, add_assoc, mul-zero, mul-le-mul_left, zero-add}
use Rattle.base.specs.Basics.{not-suc-le-zero, le_of_suc-le-suc, arith, length, get_or, take, drop, set, length-drop, sets, drop-drop}
use Rattle.fields.proofs.{Field.length_to_bytes, Records.get_or-records_of, Records.length-bytes_of_records, Records.mul-suc_front, Records.records_of-sets}
use Rattle.fields.proofs.Sets.{sets_left, sets_right, sets_whole, take-sets, drop-sets-add}
use Rattle.fields.specs.{Field.to_bytes, Field.set_field, Layout.pack, Layout.size, Layout.records_of, Layout.bytes_of_records}

-- one value of a record replaced is its field set
pub pack-set : (ws vs : List ℕ) (k v : ℕ) → k < length ws → length vs ≡ length ws → pack ws (set vs k v) ≡ set_field (get_or ws k 0) (size (take k ws)) v (pack ws vs)
unfolding pack size set_field
pack-set [] vs k v h e = absurd (not-suc-le-zero h)
pack-set (w ∷ ws) [] k v h e = absurd (omega arith)
pack-set (w ∷ ws) (x ∷ vs) zero v h e =
    sym (sets_left (to_bytes w v) (to_bytes w x) (pack ws vs) 0 (omega (arith, length_to_bytes w v, length_to_bytes w x))
    ∙ ap (λ (l : List ℕ). l ++ pack ws vs) (sets_whole (to_bytes w v) (to_bytes w x) (length_to_bytes w x ∙ sym (length_to_bytes w v))))
pack-set (w ∷ ws) (x ∷ vs) (suc k) v h e =
    let n = to_bytes (get_or ws k 0) v in
    ap (λ (l : List ℕ). to_bytes w x ++ l) (pack-set ws vs k v (le_of_suc-le-suc h) (omega arith))
    ∙ sym (ap (λ (i : ℕ). sets (to_bytes w x ++ pack ws vs) (i + size (take k ws)) n) (sym (length_to_bytes w x)) ∙ sets_right n (to_bytes w x) (pack ws vs) (size (take k ws)))

module _ {R : Type 0} (bytes : R → List ℕ) (len : ℕ) (sized : (r : R) → length (bytes r) ≡ len) where
  -- a part of one record's bytes is set
  bytes_of_records_part : (rs : List R) (i j : ℕ) (r d : R) (vs : List ℕ) → i < length rs → j + length vs ≤ len → bytes r ≡ sets (bytes (get_or rs i d)) j vs
      → bytes_of_records bytes (set rs i r) ≡ sets (bytes_of_records bytes rs) (len * i + j) vs
  unfolding bytes_of_records
  bytes_of_records_part [] i j r d vs h k e = absurd (not-suc-le-zero h)
  bytes_of_records_part (x ∷ rs) zero j r d vs h k e =
      rw (mul-zero, zero-add, sets_left vs (bytes x) (bytes_of_records bytes rs) j (omega (arith, sized x)), e)
  bytes_of_records_part (x ∷ rs) (suc i) j r d vs h k e =
      let n : len * suc i + j ≡ length (bytes x) + (len * i + j) = omega (arith, mul-suc_front len i, sized x) in
      rw (n, sets_right, bytes_of_records_part rs i j r d vs (le_of_suc-le-suc h) k e)

  -- the same with other bytes before the records and after them
  pub records_part : (p q : List ℕ) (rs : List R) (i j : ℕ) (r d : R) (vs : List ℕ) → i < length rs → j + length vs ≤ len → bytes r ≡ sets (bytes (get_or rs i d)) j vs
      → p ++ (bytes_of_records bytes (set rs i r) ++ q) ≡ sets (p ++ (bytes_of_records bytes rs ++ q)) (length p + (len * i + j)) vs
  records_part p q rs i j r d vs h k e =
      let B = bytes_of_records bytes rs in
      let m : len * i + j + length vs ≤ length B = omega (arith, length-bytes_of_records bytes len sized rs, mul-suc_front len i, mul-le-mul_left len h) in
      sym (sets_right vs p (B ++ q) (len * i + j)
      ∙ ap (λ (l : List ℕ). p ++ l) (sets_left vs B q (len * i + j) m ∙ ap (λ (l : List ℕ). l ++ q) (sym (bytes_of_records_part rs i j r d vs h k e))))

module _ {R : Type 0} (len : ℕ) (one : List ℕ → R) where
  -- the record at an index of those that begin at an offset
  pub record_at : (n i a : ℕ) (s : List ℕ) (d : R) → i < n → one (take len (drop (a + len * i) s)) ≡ get_or (records_of len one n (drop a s)) i d
  record_at n i a s d h = sym (get_or-records_of len one n i (drop a s) d h ∙ ap (λ (l : List ℕ). one (take len l)) (drop-drop (len * i) a s))

  -- what is set behind the records leaves them
  pub records_before : (n k : ℕ) (s vs : List ℕ) → records_of len one n (sets s (len * n + k) vs) ≡ records_of len one n s
  unfolding records_of
  records_before zero k s vs = refl
  records_before (suc n) k s vs =
      rw (mul-suc_front, add_assoc, take-sets vs s (len + (len * n + k)) len (omega arith), drop-sets-add, records_before n k (drop len s) vs)

  -- one record's bytes set is that record set
  pub records_set : (n i a : ℕ) (s vs : List ℕ) → i < n → a + len * n ≤ length s → length vs ≡ len
      → records_of len one n (drop a (sets s (a + len * i) vs)) ≡ set (records_of len one n (drop a s)) i (one vs)
  records_set n i a s vs h k e =
      rw drop-sets-add (records_of-sets len one n i (drop a s) vs h (rw length-drop (omega arith)) e)
