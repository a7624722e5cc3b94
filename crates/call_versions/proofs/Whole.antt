-- Header, users and trades of a converted book, written one after the other, are the whole. Assumes nothing.
use Rattle.base.specs.Basics.{◌≡◌, sym, ap, ◌∙◌, List, ◌++◌, append-nil, ℕ, ◌+◌, ◌-◌, ◌*◌, ◌≤◌, arith, length, take, drop, length-drop}
use Rattle.base.specs.Basics.{drop_of_length-le, sets, sets-eq, take_all, take-length}
use borrow.Rule.Slice.PartMut.{put_mid}
use Rattle.fields.specs.Field.{AllBytes, set_field, to_bytes}
use Rattle.fields.specs.Layout.{bytes_of_records, records_of}
use Rattle.fields.proofs.Field.{length-set_field, length_to_bytes}
use Rattle.fields.proofs.Sets.{length_part, part_sets, sets_left, sets_three}
use Rattle.book_format.specs.Book.{size_of_header, length_by, count_of_trades, count_of_users, size_of_user, version_of}
use Rattle.book_format.specs.Questions.{book_number}
use Rattle.book_format.proofs.Offsets.{header_range, length_by_lem, users_end}
use Rattle.book_format.proofs.Passed.{passed}
use Rattle.conversions.specs.Conversion.{converted}
use Rattle.book_image.specs.Fitted.{fitted, refitted}
use Rattle.book_image.proofs.Fitted.{length-fitted, length-refitted}
use Rattle.call_versions.proofs.Parts.{converted_parts}

-- one record
one-refitted : (k size : ℕ) (s : List ℕ) → refitted k size 1 s ≡ fitted k (take size s)
unfolding refitted records_of bytes_of_records
one-refitted k size s = append-nil (fitted k (take size s))

-- a field set in bytes that were stored at the front
front_field : (w at v : ℕ) (x out : List ℕ) → at + w ≤ length x → length x ≤ length out → set_field w at v (sets out 0 x) ≡ sets out 0 (set_field w at v x)
unfolding set_field
front_field w at v x out h k =
    let y = to_bytes w v in
    let l : length (sets x at y) ≡ length x = length-set_field w at v x in
    ap (λ (t : List ℕ). sets t at y) (sets-eq x out 0 (omega arith))
    ∙ sets_left y x (drop (0 + length x) out) at (omega (arith, length_to_bytes w v))
    ∙ sym (sets-eq (sets x at y) out 0 (omega (arith, l)) ∙ (rw l))

-- what stands behind a place, copied behind another
pub rest_copied : {part : List ℕ} (s out : List ℕ) (from to : ℕ) → from ≤ length s → to + (length s - from) ≡ length out
    → part ≡ take (length (take (length s - from) (drop from s))) (take (length s - from) (drop from s)) ++ drop (length (take (length s - from) (drop from s))) (take (length out - to) (drop to out))
    → put_mid to (length out - to) out part ≡ sets out to (drop from s)
rest_copied {part} s out from to h k e =
    let d = drop from s in
    let n = length s - from in
    let m : length out - to ≡ n = omega arith in
    let l : length d ≡ n = length-drop from s in
    let all : take n d ≡ d = take_all n d (omega arith) in
    let lo : length (take n (drop to out)) ≡ n = length_part out to n (omega arith) in
    let q : part ≡ d = (rw (all, m, take-length d) at e) ∙ (rw (drop_of_length-le (take n (drop to out)) {i = length d} (omega arith)) (append-nil d)) in
    rw (m, q) (part_sets out d to n l (omega arith))

module _ (s : List ℕ) (h : book_number s ≡ 0) where
  -- how long the bytes are
  pub book_long : {n from size : ℕ} → n ≡ count_of_users s → from ≡ size_of_header (version_of s) → size ≡ size_of_user (version_of s) → from + size * n + 20 * count_of_trades s ≡ length s
  book_long e f z = omega (arith, users_end s f z e, (passed s h).form.whole)

  module _ (bytes : AllBytes s) (v : ℕ) (out : List ℕ) (e : length out ≡ length_by v (count_of_users s) (count_of_trades s)) where
    pub all_converted : {n from size to k : ℕ} → n ≡ count_of_users s → from ≡ size_of_header (version_of s) → size ≡ size_of_user (version_of s) → to ≡ size_of_header v → k ≡ size_of_user v
        → sets (sets (set_field 2 3 v (sets out 0 (refitted to from 1 s))) to (refitted k size n (drop from s))) (to + k * n) (drop (from + size * n) s) ≡ converted v s
    all_converted {n} {from} {size} {to} {k} un f z t g =
        let x = fitted to (take from s) in
        let lx : length x ≡ to = length-fitted to (take from s) in
        let users = refitted k size n (drop from s) in
        let lu : length users ≡ k * n = length-refitted k size n (drop from s) in
        let lo : length out ≡ to + k * n + 20 * count_of_trades s = e ∙ length_by_lem v (count_of_users s) (count_of_trades s) ∙ rw (t, g, un) in
        let range : 5 ≤ to = rw t (omega (arith, header_range v)) in
        let a = set_field 2 3 v x in
        let front : set_field 2 3 v (sets out 0 (refitted to from 1 s)) ≡ sets out 0 a = ap (λ (y : List ℕ). set_field 2 3 v (sets out 0 y)) (one-refitted to from s) ∙ front_field 2 3 v x out (omega arith) (omega arith) in
        let whole = book_long un f z in
        let parts : converted v s ≡ a ++ (users ++ drop (from + size * n) s) = converted_parts s bytes h v ∙ rw (← un, ← f, ← z, ← t, ← g, ← users_end s f z un) in
        rw (front, parts) (sets_three a users (drop (from + size * n) s) out to (to + k * n) (length-set_field 2 3 v x ∙ lx) (omega arith) (rw length-drop (omega arith)))
