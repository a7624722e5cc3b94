-- Records of one size as records of another, one after the other. Assumes nothing.
use Rattle.base.specs.Basics.{◌≡◌, refl, sym, ap, ap₂, ◌∙◌, List, ◌++◌, append_assoc, append-nil, ℕ, zero, suc, ◌+◌, ◌-◌, ◌*◌, ◌<◌, ◌≤◌, min}
use Rattle.base.specs.Basics.{add-zero, mul-zero, mul-suc, mul-le-mul_left, sub-zero, arith, leb, leb→le, length, take, drop, replicate}
use Rattle.base.specs.Basics.{length-append, length-drop, length-replicate, length-take, sets, drop-drop, length-sets, length-take-le, take-add}
use Rattle.base.specs.Basics.{take_all, take-take, leb-false}
use borrow.Rule.Slice.PartMut.{put_mid}
use Rattle.base.proofs.Tests.{by_case, holds}
use Rattle.fields.specs.Field.{AllBytes, field, set_field, to_bytes}
use Rattle.fields.specs.Layout.{bytes_of_records, records_of}
use Rattle.fields.proofs.Field.{to_bytes_field}
use Rattle.fields.proofs.Records.{length-bytes_of_records, length-records_of}
use Rattle.fields.proofs.Sets.{sets-append}
use Rattle.book_image.specs.Image.{padded}
use Rattle.book_image.proofs.Filled.{part_filled}
use Rattle.book_image.specs.Fitted.{fitted, refitted}

-- ---- one record

-- a part of k bytes lent to be filled from a part of j bytes
pub part_fitted : {part : List ℕ} (s out : List ℕ) (from j to k : ℕ) → from + j ≤ length s → to + k ≤ length out → j ≤ k
    → part ≡ padded (length (take (to + k - to) (drop to out))) (take (from + j - from) (drop from s)) → put_mid to (to + k - to) out part ≡ sets out to (padded k (take j (drop from s)))
part_fitted {part} s out from j to k h i l e =
    let a : to + k - to ≡ k = omega arith in
    let b : from + j - from ≡ j = omega arith in
    rw a (part_filled out to k part (take j (drop from s)) i (rw length-take (omega arith)) (rw (a, b) at e))

-- the first bytes written, then the others with 0 behind them
pub fitted_twice : {mid after : List ℕ} (s out : List ℕ) (from kept to size k : ℕ) → from + kept ≤ length s → kept ≤ size → k ≤ kept → mid ≡ sets out to (take k (drop from s))
    → after ≡ sets mid (to + k) (padded (size - k) (take (kept - k) (drop (from + k) s))) → after ≡ sets out to (padded size (take kept (drop from s)))
unfolding padded
fitted_twice {mid} {after} s out from kept to size k h l m e f =
    let x = drop from s in
    let a = take k x in
    let b = take (kept - k) (drop k x) in
    let long : kept ≤ length x = rw length-drop (omega arith) in
    let la : length a ≡ k = length-take-le k x (omega (arith, long)) in
    let lb : length b ≡ kept - k = length-take-le (kept - k) (drop k x) (rw length-drop (omega (arith, long))) in
    let there : drop (from + k) s ≡ drop k x = sym (drop-drop k from s) in
    let whole : kept ≡ k + (kept - k) = omega arith in
    let both : take kept x ≡ a ++ b = ap (λ (i : ℕ). take i x) whole ∙ take-add k (kept - k) x in
    let lw : length (take kept x) ≡ kept = length-take-le kept x long in
    let z : size - k - (kept - k) ≡ size - kept = omega arith in
    f
    ∙ ap₂ (λ (y : List ℕ) (w : List ℕ). sets y (to + k) (take (kept - k) w ++ replicate (size - k - length (take (kept - k) w)) 0)) e there
    ∙ rw (lb, z) (ap (λ (i : ℕ). sets (sets out to a) (to + i) (b ++ replicate (size - kept) 0)) (sym la) ∙ sym (sets-append a (b ++ replicate (size - kept) 0) out to))
    ∙ ap (sets out to) (sym (append_assoc a b (replicate (size - kept) 0)) ∙ ap₂ (λ (y : List ℕ) (i : ℕ). y ++ replicate (size - i) 0) (sym both) (sym lw))

-- ---- eight bytes at a time

-- where i of k numbers are copied
pub record Copying (s : List ℕ) (from : ℕ) (entry : List ℕ) (to k : ℕ) (out : List ℕ) (i : ℕ) : Type 0 where
  pub within : i ≤ k
  pub same : length out ≡ length entry
  pub front : out ≡ sets entry to (take (8 * i) (drop from s))

module _ {s : List ℕ} {from : ℕ} {entry : List ℕ} {to k : ℕ} where
  pub copying_start : Copying s from entry to k entry 0
  copying_start = record { within = omega arith; same = refl; front = refl }

  pub copying_turn : {out after : List ℕ} {i n : ℕ} → AllBytes s → from + 8 * k ≤ length s → Copying s from entry to k out i → i < k → n ≡ field 8 (from + 8 * i) s
      → after ≡ set_field 8 (to + 8 * i) n out → Copying s from entry to k after (i + 1)
  unfolding set_field
  copying_turn {out} {after} {i} {n} b h p l e q =
      let x = drop from s in
      let a = take (8 * i) x in
      let c = take 8 (drop (8 * i) x) in
      let la : length a ≡ 8 * i = length-take-le (8 * i) x (rw length-drop (omega arith)) in
      let eight : to_bytes 8 n ≡ c = ap (to_bytes 8) e ∙ to_bytes_field 8 (from + 8 * i) s (omega arith) b ∙ ap (take 8) (sym (drop-drop (8 * i) from s)) in
      let more : 8 * (i + 1) ≡ 8 * i + 8 = omega arith in
      let f : after ≡ sets entry to (take (8 * (i + 1)) x) =
      q ∙ ap₂ (λ (y z : List ℕ). sets y (to + 8 * i) z) p.front eight ∙ ap (λ (j : ℕ). sets (sets entry to a) (to + j) c) (sym la) ∙ sym (sets-append a c entry to) ∙ ap (sets entry to) (sym (ap (λ (j : ℕ). take j x) more ∙ take-add (8 * i) 8 x)) in
      record { within = omega arith; same = ap length f ∙ length-sets entry to (take (8 * (i + 1)) x); front = f }

  pub copying_end : {out : List ℕ} {i : ℕ} → Copying s from entry to k out i → k ≤ i → out ≡ sets entry to (take (8 * k) (drop from s))
  copying_end {out} {i} p h =
      let e : i ≡ k = omega (arith, p.within) in
      p.front ∙ ap (λ (j : ℕ). sets entry to (take (8 * j) (drop from s))) e

-- bytes that fill a room are all of it
pub padded_all : (k : ℕ) (c : List ℕ) → length c ≡ k → padded k c ≡ c
unfolding padded
padded_all k c e =
    let z : k - length c ≡ 0 = omega arith in
    rw z (append-nil c)

-- bytes of the size are themselves
pub fitted_same : (k : ℕ) (c : List ℕ) → length c ≡ k → fitted k c ≡ c
unfolding fitted
fitted_same k c e =
    let z : k - length c ≡ 0 = omega arith in
    rw (z, take_all k c (omega arith)) (append-nil c)

-- fewer bytes have 0 behind them
pub fitted_more : (k j : ℕ) (c : List ℕ) → length c + j ≡ k → fitted k c ≡ c ++ replicate j 0
unfolding fitted
fitted_more k j c e =
    let z : k - length c ≡ j = omega arith in
    rw (z, take_all k c (omega arith))

-- more bytes lose the rest
pub fitted_less : (k : ℕ) (c : List ℕ) → k ≤ length c → fitted k c ≡ take k c
unfolding fitted
fitted_less k c h =
    let z : k - length c ≡ 0 = omega arith in
    rw z (append-nil (take k c))

-- a part of a list fitted to a size is its first bytes, as many as there are on both sides, with 0 behind them
fitted_front : (k size : ℕ) (x : List ℕ) → size ≤ length x → fitted k (take size x) ≡ padded k (take (min size k) x)
unfolding fitted padded
fitted_front k size x h =
    let l : length (take size x) ≡ size = length-take-le size x h in
    by_case (leb k size)
    (λ e.
    let le = leb→le k size (holds e) in
    let m : min size k ≡ k = omega arith in
    let lk : length (take k x) ≡ k = length-take-le k x (omega arith) in
    let z : k - size ≡ k - k = omega arith in
    rw (l, take-take k size x le, m, lk, z))
    (λ e.
    let lt = leb-false k size e in
    let m : min size k ≡ size = omega arith in
    rw (m, l, take_all k (take size x) (omega (arith, l))))

pub length-fitted : (k : ℕ) (c : List ℕ) → length (fitted k c) ≡ k
unfolding fitted
length-fitted k c = rw (length-append, length-take, length-replicate) (omega arith)

-- ---- records one after the other

-- all of them have the other size
pub length-refitted : (k size n : ℕ) (s : List ℕ) → length (refitted k size n s) ≡ k * n
unfolding refitted
length-refitted k size n s =
    length-bytes_of_records (fitted k) k (length-fitted k) (records_of size (λ c. c) n s) ∙ ap (λ (i : ℕ). k * i) (length-records_of size (λ c. c) n s)

-- records of the size are themselves
pub refitted_same : (k n : ℕ) (s : List ℕ) → k * n ≤ length s → refitted k k n s ≡ take (k * n) s
unfolding refitted records_of bytes_of_records
refitted_same k zero s h = rw mul-zero
refitted_same k (suc n) s h =
    let e : k * suc n ≡ k + k * n = omega (arith, mul-suc k n) in
    ap₂ (λ (x y : List ℕ). x ++ y) (fitted_same k (take k s) (length-take-le k s (omega (arith, e)))) (refitted_same k n (drop k s) (rw length-drop (omega (arith, e))))
    ∙ sym (ap (λ (i : ℕ). take i s) e ∙ take-add k (k * n) s)

-- where i of n records are written: those that are left give all
pub record Fitting (k size n : ℕ) (s : List ℕ) (from : ℕ) (entry : List ℕ) (to : ℕ) (out : List ℕ) (i : ℕ) : Type 0 where
  pub within : i ≤ n
  pub same : length out ≡ length entry
  pub answer : sets out (to + k * i) (refitted k size (n - i) (drop (from + size * i) s)) ≡ sets entry to (refitted k size n (drop from s))

module _ {k size n : ℕ} {s : List ℕ} {from : ℕ} {entry : List ℕ} {to : ℕ} where
  pub fitting_start : Fitting k size n s from entry to entry 0
  fitting_start = record { within = omega arith; same = refl; answer = rw (sub-zero, mul-zero, mul-zero, add-zero, add-zero) }

  pub fitting_turn : {out after : List ℕ} {i kept : ℕ} → kept ≡ min size k → from + size * n ≤ length s → Fitting k size n s from entry to out i → i < n
      → after ≡ sets out (to + k * i) (padded k (take kept (drop (from + size * i) s))) → Fitting k size n s from entry to after (i + 1)
  unfolding refitted records_of bytes_of_records
  fitting_turn {out} {after} {i} {kept} m h before l q =
      let e : n - i ≡ suc (n - (i + 1)) = omega arith in
      let x = drop (from + size * i) s in
      let a : from + size * (i + 1) ≡ from + size * i + size = omega (arith, mul-suc size i) in
      let c : to + k * (i + 1) ≡ to + k * i + k = omega (arith, mul-suc k i) in
      let long : size ≤ length x = rw length-drop (omega (arith, mul-suc size i, mul-le-mul_left size l)) in
      let first = fitted k (take size x) in
      let f : after ≡ sets out (to + k * i) first = q ∙ ap (sets out (to + k * i)) (ap (λ (j : ℕ). padded k (take j x)) m ∙ sym (fitted_front k size x long)) in
      let rest = bytes_of_records (fitted k) (records_of size (λ (y : List ℕ). y) (n - (i + 1)) (drop size x)) in
      record {
        within = omega arith;
        same = ap length f ∙ length-sets out (to + k * i) first ∙ before.same;
        answer = ap₂ (λ (j : ℕ) (y : List ℕ). sets after j (bytes_of_records (fitted k) (records_of size (λ (z : List ℕ). z) (n - (i + 1)) y))) c (ap (λ (j : ℕ). drop j s) a ∙ sym (drop-drop size (from + size * i) s))
            ∙ ap (λ (y : List ℕ). sets y (to + k * i + k) rest) f
            ∙ ap (λ (j : ℕ). sets (sets out (to + k * i) first) (to + k * i + j) rest) (sym (length-fitted k (take size x)))
            ∙ sym (sets-append first rest out (to + k * i))
            ∙ (rw e at before.answer);
      }

  pub fitting_end : {out : List ℕ} {i : ℕ} → Fitting k size n s from entry to out i → n ≤ i → out ≡ sets entry to (refitted k size n (drop from s))
  unfolding refitted records_of bytes_of_records
  fitting_end {out} {i} before h =
      let e : n - i ≡ 0 = omega arith in
      rw e at before.answer
