-- Laws of the loop that reads records from bytes into an array, for any type of record: its start, a turn and its end. Assumes nothing.
use Rattle.base.specs.Basics.{◌≡◌, sym, ◌∙◌, List, [], ◌∷◌, ◌++◌, map, map-append, append_assoc, append-nil, ℕ, zero, suc, ◌+◌, ◌-◌, ◌*◌, ◌<◌}
use Rattle.base.specs.Basics.{◌≤◌, add-one, mul-zero, mul-suc, not-suc-le-zero, sub-zero, arith, length, take, drop, set, replicate, length-set}
use Rattle.base.specs.Basics.{length-replicate, take-suc-set, drop-drop}
use Rattle.fields.specs.Layout.{records_of}
use Rattle.fields.proofs.Sets.{rest_set}
use Rattle.book_tables.specs.Filled.{Filled}

-- where i of n records are read: the next one stands at a, what was read and what is left are what the bytes hold, and the rest of the array is blank
pub record Reading {R M : Type 0} (face : R → M) (len : ℕ) (one : List ℕ → M) (room : ℕ) (blank : R) (s : List ℕ) (at n : ℕ) (rs : List R) (i a : ℕ) : Type 0 where
  pub place : a ≡ at + len * i
  pub within : i ≤ n
  pub records : map face (take i rs) ++ records_of len one (n - i) (drop a s) ≡ records_of len one n (drop at s)
  pub rest : drop i rs ≡ replicate (room - i) blank
  pub full : length rs ≡ room

module _ {R M : Type 0} (face : R → M) (len : ℕ) (one : List ℕ → M) where
  -- a record moves from what is left to what was read
  records_set : (m i a : ℕ) (rs : List R) (r : R) (s : List ℕ) → 0 < m → i < length rs → face r ≡ one (take len (drop a s))
      → map face (take (i + 1) (set rs i r)) ++ records_of len one (m - 1) (drop (a + len) s) ≡ map face (take i rs) ++ records_of len one m (drop a s)
  unfolding records_of
  records_set zero i a rs r s p h e = absurd (not-suc-le-zero p)
  records_set (suc m) i a rs r s p h e =
      let k : suc m - 1 ≡ m = omega arith in
      rw (k, add-one, take-suc-set rs i r h, map-append face (take i rs) (r ∷ []), append_assoc, e, drop-drop)

module _ {R M : Type 0} {face : R → M} {len : ℕ} {one : List ℕ → M} {room : ℕ} {blank : R} {s : List ℕ} {at n : ℕ} where
  pub reading_start : {z : R} → z ≡ blank → Reading face len one room blank s at n (replicate room z) 0 at
  reading_start {z} e =
      record {
        place = omega (arith, mul-zero len);
        within = omega arith;
        records = rw sub-zero;
        rest = rw (e, sub-zero);
        full = length-replicate room z;
      }

  pub reading_turn : {rs : List R} {i a : ℕ} {r : R}
      → Reading face len one room blank s at n rs i a → i < n → n ≤ room → face r ≡ one (take (a + len - a) (drop a s))
      → Reading face len one room blank s at n (set rs i r) (i + 1) (a + len)
  reading_turn {rs} {i} {a} {r} before h k e =
      let m : n - (i + 1) ≡ n - i - 1 = omega arith in
      let l : a + len - a ≡ len = omega arith in
      record {
        place = rw (add-one, mul-suc) (omega (arith, before.place));
        within = omega arith;
        records = rw m (records_set face len one (n - i) i a rs r s (omega arith) (omega (arith, before.full)) (rw l at e) ∙ before.records);
        rest = rest_set room i blank r rs before.rest;
        full = simp length-set before.full;
      }

  pub reading_end : {rs : List R} {i a : ℕ} → Reading face len one room blank s at n rs i a → n ≤ i → Filled face len one room blank n (drop at s) rs
  unfolding records_of
  reading_end {rs} {i} before h =
      let e : i ≡ n = omega (arith, before.within) in
      let z : n - n ≡ 0 = omega arith in
      record {
        records = sym (append-nil (map face (take n rs))) ∙ (rw (e, z) at before.records);
        rest = rw e at before.rest;
        full = before.full;
      }
