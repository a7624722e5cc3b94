-- Parts of a log that are lent to be written: the held book, all that stands before the entries, bytes made 0. Assumes nothing.
use Rattle.base.specs.Basics.{◌≡◌, refl, sym, ap, ap₂, ◌∙◌, List, [], ◌∷◌, ◌++◌, append_assoc, ℕ, ◌+◌, ◌-◌, ◌*◌, ◌≤◌, ◌<◌, arith, length}
use Rattle.base.specs.Basics.{take, drop, replicate, length-append, length-drop, length-replicate, sets, take_all}
use Rattle.base.specs.Basics.{take_at, drop_at, drop-drop, eq-eqb, le-leb, lt-leb, ne_eqb}
use borrow.Rule.Slice.PartMut.{put_mid}
use Rattle.fields.proofs.Pack.{set_fields_whole}
use Rattle.fields.proofs.Sets.{length_part, part_sets, sets_right, sets_whole}
use Rattle.fields.specs.Field.{set_field}
use Rattle.fields.specs.Layout.{set_fields, size}
use Rattle.log_format.proofs.Padded.{length-padded}
use Rattle.log_format.proofs.Parts.{length_head}
use Rattle.log_format.specs.Fits.{start_fits, start_number, started}
use Rattle.log_format.specs.Log.{entries_at, entries_bytes, entries_room, entry_size, held_room, log_bytes, log_head, log_mark, padded}
use Rattle.log_entries.specs.Entries.{cleared, sealed}

-- ---- the first 12 bytes

pub head_put : (l : List ℕ) (count held : ℕ) → length l ≡ 12
    → set_field 4 8 held (set_field 4 4 count (set_field 1 3 0 (set_field 3 0 0x4C_44_47 l))) ≡ log_head count held
unfolding log_head log_mark set_fields size
head_put l count held e = set_fields_whole (3 ∷ 1 ∷ 4 ∷ 4 ∷ []) (0x4C_44_47 ∷ 0 ∷ count ∷ held ∷ []) l refl e

-- ---- all that stands before the entries

pub sealed_parts : (l s head held : List ℕ) (count : ℕ) → length l ≡ 271668 → head ≡ log_head count (length s)
    → held ≡ padded (length (take 9512 (drop 12 (head ++ drop 12 l)))) s
    → put_mid 12 9512 (head ++ drop 12 l) held ≡ sealed count s l
sealed_parts l s head held count e h p =
    let n : length head ≡ 12 = ap length h ∙ length_head count (length s) in
    let front : take 12 (head ++ drop 12 l) ≡ head = take_at head (drop 12 l) 12 n in
    let back : drop 12 (head ++ drop 12 l) ≡ drop 12 l = drop_at head (drop 12 l) 12 n in
    let room : length (take 9512 (drop 12 (head ++ drop 12 l))) ≡ 9512 = ap (λ (x : List ℕ). length (take 9512 x)) back ∙ length_part l 12 9512 (omega arith) in
    ap₂ (λ (x y : List ℕ). x ++ y) (front ∙ h)
    (ap₂ (λ (x y : List ℕ). x ++ y) (p ∙ ap (λ (k : ℕ). padded k s) room) (ap (drop 9512) back ∙ drop-drop 9512 12 l))

-- ---- bytes made 0

-- a part that was lent and came back as zeros
pub part_cleared : (l vs : List ℕ) (at n : ℕ) → at + n ≤ length l → vs ≡ replicate (length (take n (drop at l))) 0 → put_mid at n l vs ≡ cleared at n l
part_cleared l vs at n h e =
    let long : length vs ≡ n = ap length e ∙ length-replicate (length (take n (drop at l))) 0 ∙ length_part l at n h in
    part_sets l vs at n long h ∙ ap (sets l at) e

-- all that is behind a list
pub rest-cleared : (p rest : List ℕ) (n k : ℕ) → length p ≡ n → length rest ≡ k → cleared n k (p ++ rest) ≡ p ++ padded k []
unfolding padded
rest-cleared p rest n k e f =
    let z : List ℕ = replicate (length rest) 0 in
    let all : take k (drop n (p ++ rest)) ≡ rest = ap (take k) (drop_at p rest n e) ∙ take_all k rest (omega arith) in
    let at : n ≡ length p + 0 = omega arith in
    let none : length rest ≡ k - 0 = omega arith in
    ap₂ (λ (i : ℕ) (x : List ℕ). sets (p ++ rest) i (replicate (length x) 0)) at all
    ∙ sets_right z p rest 0
    ∙ ap (λ (x : List ℕ). p ++ x) (sets_whole z rest (sym (length-replicate (length rest) 0)) ∙ ap (λ (i : ℕ). replicate i 0) none)

-- ---- the start of a log

module _ (l s : List ℕ) where
  -- the log has another length
  pub start_long : (length l ≡ 271668 → ⊥) → (19 ≡ start_number l s) × (l ≡ started l s)
  unfolding start_number started start_fits
  start_long n = (rw (ne_eqb (length l) 271668 n), rw (ne_eqb (length l) 271668 n))

  -- the book does not fit in
  pub start_full : length l ≡ 271668 → 9512 < length s → (19 ≡ start_number l s) × (l ≡ started l s)
  unfolding start_number started start_fits
  start_full e h = (rw (eq-eqb (length l) 271668 e, lt-leb (length s) 9512 h), rw (eq-eqb (length l) 271668 e, lt-leb (length s) 9512 h))

  -- it starts
  pub start_done : length l ≡ 271668 → length s ≤ 9512 → {m : List ℕ} → m ≡ cleared entries_at (entry_size * 256) (sealed 0 s l) → (0 ≡ start_number l s) × (m ≡ started l s)
  unfolding start_number started start_fits log_bytes entries_bytes
  start_done e h {m} k =
      let head = log_head 0 (length s) in
      let held = padded held_room s in
      let n : length (head ++ held) ≡ 9524 = length-append head held ∙ ap₂ (λ (x y : ℕ). x + y) (length_head 0 (length s)) (length-padded held_room s h) in
      let r : length (drop entries_at l) ≡ 262144 = length-drop entries_at l ∙ ap (λ (x : ℕ). x - 9524) e in
      let done : m ≡ head ++ (held ++ padded entries_room [])
      = k ∙ ap (cleared entries_at (entry_size * 256)) (sym (append_assoc head held (drop entries_at l))) ∙ rest-cleared (head ++ held) (drop entries_at l) 9524 262144 n r ∙ append_assoc head held (padded entries_room []) in
      (rw (eq-eqb (length l) 271668 e, le-leb (length s) 9512 h), rw (eq-eqb (length l) 271668 e, le-leb (length s) 9512 h) done)
