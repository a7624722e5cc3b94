-- Parts copied whole, and the loop that makes a field 0 in each record: its start, a turn and its end. Assumes nothing.
use Rattle.base.specs.Basics.{◌≡◌, refl, sym, ap, ap₂, ◌∙◌, List, ◌++◌, append_assoc, append-nil, ℕ, zero, suc, ◌+◌, ◌-◌, ◌*◌, ◌<◌, ◌≤◌, mul-zero}
use Rattle.base.specs.Basics.{mul-suc, sub-zero, zero-add, arith, length, take, drop, length-drop, take-append-drop, sets, length-sets, drop_at}
use Rattle.base.specs.Basics.{drop-drop, take_at, take-add, take-length, length-take-le, take-append-le, drop-append-le}
use borrow.Rule.Slice.PartMut.{put_mid}
use Rattle.fields.specs.Field.{set_field, to_bytes, AllBytes}
use Rattle.fields.specs.Layout.{records_of, bytes_of_records}
use Rattle.fields.proofs.Field.{length-set_field, length_to_bytes, all_bytes_take, all_bytes_drop}
use Rattle.fields.proofs.Records.{length-records_of, length-bytes_of_records}
use Rattle.fields.proofs.Sets.{part_of_sets, part_sets, sets_left, take-sets, drop-sets, drop-sets-add}
use Rattle.book_image.specs.Fitted.{fitted, refitted}
use Rattle.book_image.specs.Zeroed.{zeroed_records}
use Rattle.book_image.proofs.Fitted.{fitted_same, length-fitted, length-refitted, refitted_same}

-- ---- parts

-- a part from a to a + k, lent and come back as others of its length
part-set : {part : List ℕ} (a k : ℕ) (l v : List ℕ) → length v ≡ k → a + k ≤ length l → part ≡ v → put_mid a (a + k - a) l part ≡ sets l a v
part-set a k l v n h e = let m : a + k - a ≡ k = omega arith in rw (m, e) (part_sets l v a k n h)

-- bytes set twice in one place
sets_twice : (l x y : List ℕ) (i k : ℕ) → length x ≡ k → length y ≡ k → i + k ≤ length l → sets (sets l i x) i y ≡ sets l i y
sets_twice l x y i k n m h =
    let s = sets l i x in
    let d : drop k (drop i s) ≡ drop k (drop i l) = drop-drop k i s ∙ drop-sets x l i (i + k) (omega (arith, n)) ∙ sym (drop-drop k i l) in
    sym (part_sets s y i k m (rw length-sets h)) ∙ rw (take-sets x l i i (omega arith), d) (part_sets l y i k m h)

-- ---- a field made 0 in each record

module _ (width offset size : ℕ) (fits : offset + width ≤ size) where
  -- in the one that stands at a: what stands before it and behind it is as it was
  zeroed_front : (out : List ℕ) (a : ℕ) → a + size ≤ length out
      → take (a + size) (set_field width (a + offset) 0 out) ≡ take a out ++ set_field width offset 0 (take size (drop a out))
  unfolding set_field
  zeroed_front out a h =
      let z = to_bytes width 0 in
      let d = drop a out in
      let x = take size d in
      let k = length_to_bytes width 0 in
      let n : length x ≡ size = length-take-le size d (rw length-drop (omega arith)) in
      let e : sets d offset z ≡ sets x offset z ++ drop size d = ap (λ (l : List ℕ). sets l offset z) (sym (take-append-drop size d)) ∙ sets_left z x (drop size d) offset (omega arith) in
      let m : length (sets x offset z) ≡ size = length-set_field width offset 0 x ∙ n in
      rw (take-add, take-sets z out (a + offset) a (omega arith), drop-sets-add, e, take_at (sets x offset z) (drop size d) size m)

  zeroed_behind : (out : List ℕ) (a : ℕ) → drop (a + size) (set_field width (a + offset) 0 out) ≡ drop (a + size) out
  unfolding set_field
  zeroed_behind out a = drop-sets (to_bytes width 0) out (a + offset) (a + size) (omega (arith, length_to_bytes width 0))

-- where i of n records are cleared: the next one stands at a, what is left ends with the bytes, and with what was cleared it gives all of them
pub record Clearing (width offset size n : ℕ) (entry out : List ℕ) (i a : ℕ) : Type 0 where
  pub within : i ≤ n
  pub room : a + size * (n - i) ≡ length out
  pub kept : length out ≡ length entry
  pub answer : take a out ++ zeroed_records width offset size (n - i) (drop a out) ≡ zeroed_records width offset size n entry

module _ {width offset size n : ℕ} {entry : List ℕ} where
  pub clearing_start : length entry ≡ size * n → Clearing width offset size n entry entry 0 0
  clearing_start e = record { within = omega arith; room = rw (sub-zero, zero-add) (sym e); kept = refl; answer = rw sub-zero }

  -- behind the next record stand those after it
  clearing_room : {out : List ℕ} {i a : ℕ} → Clearing width offset size n entry out i a → i < n → a + size + size * (n - (i + 1)) ≡ length out
  clearing_room {out} {i} {a} before h =
      let e : n - i ≡ suc (n - (i + 1)) = omega arith in
      omega (arith, rw (e, mul-suc) at before.room)

  -- the next one lies in the bytes
  pub clearing_lies : {out : List ℕ} {i a : ℕ} → Clearing width offset size n entry out i a → i < n → a + size ≤ length out
  clearing_lies before h = omega (arith, clearing_room before h)

  pub clearing_turn : {out after : List ℕ} {i a : ℕ} → offset + width ≤ size → Clearing width offset size n entry out i a → i < n → after ≡ set_field width (a + offset) 0 out
      → Clearing width offset size n entry after (i + 1) (a + size)
  unfolding zeroed_records records_of bytes_of_records
  clearing_turn {out} {after} {i} {a} fits before h q =
      let e : n - i ≡ suc (n - (i + 1)) = omega arith in
      let l : length after ≡ length out = ap length q ∙ length-set_field width (a + offset) 0 out in
      record {
        within = omega arith;
        room = clearing_room before h ∙ sym l;
        kept = l ∙ before.kept;
        answer = rw (q, zeroed_front width offset size fits out a (clearing_lies before h), zeroed_behind width offset size fits out a, append_assoc) (rw (e, drop-drop) at before.answer);
      }

  pub clearing_end : {out : List ℕ} {i a : ℕ} → Clearing width offset size n entry out i a → n ≤ i → out ≡ zeroed_records width offset size n entry
  unfolding zeroed_records records_of bytes_of_records
  clearing_end {out} {i} {a} before h =
      let e : n - i ≡ 0 = omega arith in
      let k : a ≡ length out = omega (arith, rw (e, mul-zero) at before.room) in
      sym (append-nil (take a out) ∙ ap (λ (m : ℕ). take m out) k ∙ take-length out) ∙ (rw e at before.answer)

-- ---- records by their bytes

module _ {R : Type 0} (len : ℕ) (one : List ℕ → R) where
  -- records that fill the front of a list do not depend on what stands behind them
  pub records_front : (n : ℕ) (p q : List ℕ) → length p ≡ len * n → records_of len one n (p ++ q) ≡ records_of len one n p
  unfolding records_of
  records_front zero p q h = refl
  records_front (suc n) p q h =
      let e : len * suc n ≡ len * n + len = mul-suc len n in
      let f : length (drop len p) ≡ len * n = rw length-drop (omega (arith, e, h)) in
      rw (take-append-le len p q (omega (arith, e, h)), drop-append-le len p q (omega (arith, e, h)), records_front n (drop len p) q f)

-- ---- records of another size

module _ {R : Type 0} (len k : ℕ) (one : List ℕ → R) (width offset : ℕ) (bytes : R → List ℕ)
    (f : (c : List ℕ) → AllBytes c → length c ≡ len → set_field width offset 0 (fitted k c) ≡ bytes (one c)) where
  -- records that are read, and written again in another size, are their bytes of that size with a field as 0
  refitted_zeroed : (n : ℕ) (s : List ℕ) → len * n ≤ length s → AllBytes s → zeroed_records width offset k n (refitted k len n s) ≡ bytes_of_records bytes (records_of len one n s)
  unfolding zeroed_records refitted records_of bytes_of_records
  refitted_zeroed zero s h b = refl
  refitted_zeroed (suc n) s h b =
      let e : len * suc n ≡ len * n + len = mul-suc len n in
      let c = take len s in
      let rest = refitted k len n (drop len s) in
      rw (take_at (fitted k c) rest k (length-fitted k c), drop_at (fitted k c) rest k (length-fitted k c))
      (ap₂ (λ (x y : List ℕ). x ++ y) (f c (all_bytes_take len s b) (length-take-le len s (omega (arith, e, h))))
      (refitted_zeroed n (drop len s) (rw length-drop (omega (arith, e, h))) (all_bytes_drop len s b)))

  -- written over a part of another, and then cleared there
  pub records_refitted : {part written : List ℕ} (s : List ℕ) (from n : ℕ) (out : List ℕ) (at : ℕ) → AllBytes s → from + len * n ≤ length s → at + k * n ≤ length out
      → ((r : R) → length (bytes r) ≡ k)
      → written ≡ sets out at (refitted k len n (drop from s)) → part ≡ zeroed_records width offset k n (take (at + k * n - at) (drop at written))
      → put_mid at (at + k * n - at) written part ≡ sets out at (bytes_of_records bytes (records_of len one n (drop from s)))
  records_refitted {part} {written} s from n out at b h j sized w e =
      let m = k * n in
      let d = drop from s in
      let x = refitted k len n d in
      let y = bytes_of_records bytes (records_of len one n d) in
      let q : at + m - at ≡ m = omega arith in
      let lx : length x ≡ m = length-refitted k len n d in
      let ly : length y ≡ m = length-bytes_of_records bytes k sized (records_of len one n d) ∙ ap (λ (i : ℕ). k * i) (length-records_of len one n d) in
      let p : part ≡ y = e ∙ rw (q, w, part_of_sets out x at m lx j) (refitted_zeroed n d (rw length-drop (omega (arith, h))) (all_bytes_drop from s b)) in
      rw w (part-set at m (sets out at x) y ly (rw length-sets j) p) ∙ sets_twice out x y at m lx ly j

-- ---- records of the same size

-- records lent from one part and written to another
pub records_copied : {R : Type 0} (len : ℕ) (one : List ℕ → R) {part : List ℕ} (width offset : ℕ) (bytes : R → List ℕ)
    → ((c : List ℕ) → AllBytes c → length c ≡ len → set_field width offset 0 c ≡ bytes (one c)) → ((r : R) → length (bytes r) ≡ len)
    → (s : List ℕ) (from n : ℕ) (out : List ℕ) (at : ℕ) → AllBytes s → from + len * n ≤ length s → at + len * n ≤ length out
    → part ≡ zeroed_records width offset len n (take (from + len * n - from) (drop from s))
    → put_mid at (at + len * n - at) out part ≡ sets out at (bytes_of_records bytes (records_of len one n (drop from s)))
records_copied len one width offset bytes f sized s from n out at b h k e =
    let d = drop from s in
    let q : from + len * n - from ≡ len * n = omega arith in
    let there : len * n ≤ length d = rw length-drop (omega (arith, h)) in
    let fits : (c : List ℕ) → AllBytes c → length c ≡ len → set_field width offset 0 (fitted len c) ≡ bytes (one c)
    = λ c y l. ap (set_field width offset 0) (fitted_same len c l) ∙ f c y l in
    let z = refitted_zeroed len len one width offset bytes fits n d there (all_bytes_drop from s b) in
    let rs = records_of len one n d in
    let long = length-bytes_of_records bytes len sized rs ∙ ap (λ (j : ℕ). len * j) (length-records_of len one n d) in
    part-set at (len * n) out (bytes_of_records bytes rs) long k ((rw q at e) ∙ ap (zeroed_records width offset len n) (sym (refitted_same len n d there)) ∙ z)
