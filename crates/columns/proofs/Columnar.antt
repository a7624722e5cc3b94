-- Records to columns and back: the same, over any widths and any number of records. Assumes nothing.
use mathlib.Core.Bool.{Bool, true, false, not}
use mathlib.Core.{Path.◌≡◌, Path.refl, Path.sym, Path.ap, Path.ap₂, Path.◌∙◌, List.List, List.[], List.◌∷◌, List.◌++◌, List.map, List.append_assoc}
use Prim.Native.Nat.{ℕ, zero, suc, ◌+◌, ◌*◌, ◌≤◌}
use native.Mathlib.{Omega.arith, Nat.mul-zero, Nat.mul-suc, Nat.zero-mul, Nat.add_comm, Nat.add-mul}
use lib.ListN.{length, take, drop, replicate, length-append, length-drop, length-map, length-replicate, take-append-drop}
use lib.Seq.{length-take-le, drop_at, take_at, take-add, take_all}
use Rattle.fields.specs.Layout.{records_of, bytes_of_records, size, Every}
use Rattle.fields.proofs.Records.{length-records_of}
use Rattle.columns.specs.Columns.{arranged, laid_by_field, laid_by_record, field_wise, joined, record_wise}
use Rattle.columns.specs.Statements.{Rearranges}

-- every record has the length of its fields
abbrev pub Sized : List ℕ → List (List ℕ) → Type 0
Sized ws rs = Every (λ c. length c ≡ size ws) rs

-- ---- the records of a size that bytes are

-- each has the size
pub parts_sized : (w n : ℕ) (s : List ℕ) → w * n ≤ length s → Every (λ c. length c ≡ w) (records_of w (λ c. c) n s)
unfolding records_of
parts_sized w zero s h = tt
parts_sized w (suc n) s h =
    (length-take-le w s (omega (arith, mul-suc w n)), parts_sized w n (drop w s) (rw length-drop (omega (arith, mul-suc w n))))

-- one after the other they are the bytes
pub parts_whole : (w n : ℕ) (s : List ℕ) → bytes_of_records (λ c. c) (records_of w (λ c. c) n s) ≡ take (w * n) s
unfolding records_of bytes_of_records
parts_whole w zero s = rw mul-zero
parts_whole w (suc n) s =
    let e : w * suc n ≡ w + w * n = omega (arith, mul-suc w n) in
    rw (e, take-add, parts_whole w n (drop w s))

-- records of one size, one after the other, have their size times their number
length-parts : (w : ℕ) (rs : List (List ℕ)) → Every (λ c. length c ≡ w) rs → length (bytes_of_records (λ c. c) rs) ≡ w * length rs
unfolding bytes_of_records
length-parts w [] h = rw mul-zero
length-parts w (r ∷ rs) h = rw (length-append, mul-suc, h.0, length-parts w rs h.1, add_comm)

-- and read again they are the records
parts_back : (w : ℕ) (rs : List (List ℕ)) → Every (λ c. length c ≡ w) rs → records_of w (λ c. c) (length rs) (bytes_of_records (λ c. c) rs) ≡ rs
unfolding records_of bytes_of_records
parts_back w [] h = refl
parts_back w (r ∷ rs) h =
    let more = bytes_of_records (λ (c : List ℕ). c) rs in
    rw (take_at r more w h.0, drop_at r more w h.0, parts_back w rs h.1)

-- ---- records to columns, and back

-- without their first fields records have the length of the others
pub shorter : (w : ℕ) (ws : List ℕ) (rs : List (List ℕ)) → Sized (w ∷ ws) rs → Sized ws (map (drop w) rs)
unfolding size
shorter w ws [] h = tt
shorter w ws (r ∷ rs) h = (rw length-drop (omega (arith, h.0)), shorter w ws rs h.1)

-- first fields and rests joined
whole : (w : ℕ) (rs : List (List ℕ)) → joined (map (take w) rs) (map (drop w) rs) ≡ rs
unfolding joined
whole w [] = refl
whole w (r ∷ rs) = ap₂ (λ (x : List ℕ) (xs : List (List ℕ)). x ∷ xs) (take-append-drop w r) (whole w rs)

-- first fields, one after the other, have their width times the number of records
pub length_column : (w : ℕ) (ws : List ℕ) (rs : List (List ℕ)) → Sized (w ∷ ws) rs → length (bytes_of_records (take w) rs) ≡ w * length rs
unfolding bytes_of_records size
length_column w ws [] h = rw mul-zero
length_column w ws (r ∷ rs) h =
    rw (length-append, mul-suc, length-take-le w r (omega (arith, h.0)), length_column w ws rs h.1, add_comm)

-- first fields read from their column
column_back : (w : ℕ) (ws : List ℕ) (rs : List (List ℕ)) (t : List ℕ) → Sized (w ∷ ws) rs → records_of w (λ c. c) (length rs) (bytes_of_records (take w) rs ++ t) ≡ map (take w) rs
unfolding bytes_of_records records_of size
column_back w ws [] t h = refl
column_back w ws (r ∷ rs) t h =
    let l : length (take w r) ≡ w = length-take-le w r (omega (arith, h.0)) in
    let more = bytes_of_records (take w) rs ++ t in
    rw (append_assoc, take_at (take w r) more w l, drop_at (take w r) more w l, column_back w ws rs t h.1)

-- records of no field are empty
pub empties : (rs : List (List ℕ)) → Sized [] rs → replicate (length rs) [] ≡ rs
unfolding size
empties [] h = refl
empties ([] ∷ rs) h = ap (λ (xs : List (List ℕ)). [] ∷ xs) (empties rs h.1)
empties ((x ∷ r) ∷ rs) h = absurd (omega (arith, h.0))

record_back : (ws : List ℕ) (rs : List (List ℕ)) → Sized ws rs → record_wise ws (length rs) (field_wise ws rs) ≡ rs
unfolding field_wise record_wise
record_back [] rs h = empties rs h
record_back (w ∷ ws) rs h =
    let c = bytes_of_records (take w) rs in
    let more = field_wise ws (map (drop w) rs) in
    let e : record_wise ws (length rs) more ≡ map (drop w) rs =
    ap (λ (n : ℕ). record_wise ws n more) (sym (length-map rs (drop w))) ∙ record_back ws (map (drop w) rs) (shorter w ws rs h) in
    rw (column_back w ws rs more h, drop_at c more (w * length rs) (length_column w ws rs h), e) (whole w rs)

-- columns have as many bytes as records
length-field_wise : (ws : List ℕ) (rs : List (List ℕ)) → Sized ws rs → length (field_wise ws rs) ≡ size ws * length rs
unfolding field_wise size
length-field_wise [] rs h = rw zero-mul
length-field_wise (w ∷ ws) rs h =
    let l = length-field_wise ws (map (drop w) rs) (shorter w ws rs h) in
    rw (length-append, length_column w ws rs h, l, length-map, add-mul)

-- ---- columns to records, and back

pub length-joined : (ps qs : List (List ℕ)) → length ps ≡ length qs → length (joined ps qs) ≡ length ps
unfolding joined
length-joined [] qs h = refl
length-joined (p ∷ ps) [] h = absurd (omega arith)
length-joined (p ∷ ps) (q ∷ qs) h = ap suc (length-joined ps qs (omega arith))

pub length-record_wise : (ws : List ℕ) (n : ℕ) (s : List ℕ) → length (record_wise ws n s) ≡ n
unfolding record_wise
length-record_wise [] n s = length-replicate n []
length-record_wise (w ∷ ws) n s =
    let l = length-records_of w (λ (c : List ℕ). c) n s in
    length-joined (records_of w (λ c. c) n s) (record_wise ws n (drop (w * n) s)) (l ∙ sym (length-record_wise ws n (drop (w * n) s))) ∙ l

-- lists of two lengths joined have both
pub joined_sized : (a b : ℕ) (ps qs : List (List ℕ)) → Every (λ c. length c ≡ a) ps → Every (λ c. length c ≡ b) qs → Every (λ c. length c ≡ a + b) (joined ps qs)
unfolding joined
joined_sized a b [] qs h k = tt
joined_sized a b (p ∷ ps) [] h k = tt
joined_sized a b (p ∷ ps) (q ∷ qs) h k = (rw length-append (omega (arith, h.0, k.0)), joined_sized a b ps qs h.1 k.1)

pub empty_sized : (n : ℕ) → Every (λ (c : List ℕ). length c ≡ 0) (replicate n [])
empty_sized zero = tt
empty_sized (suc n) = (refl, empty_sized n)

record_wise_sized : (ws : List ℕ) (n : ℕ) (s : List ℕ) → size ws * n ≤ length s → Sized ws (record_wise ws n s)
unfolding record_wise size
record_wise_sized [] n s h = empty_sized n
record_wise_sized (w ∷ ws) n s h =
    let k : (w + size ws) * n ≡ w * n + size ws * n = add-mul w (size ws) n in
    joined_sized w (size ws) (records_of w (λ c. c) n s) (record_wise ws n (drop (w * n) s)) (parts_sized w n s (omega (arith, h, k)))
    (record_wise_sized ws n (drop (w * n) s) (rw length-drop (omega (arith, h, k))))

-- the first fields and the rests of joined records
heads : (w : ℕ) (ps qs : List (List ℕ)) → length ps ≡ length qs → Every (λ c. length c ≡ w) ps → bytes_of_records (take w) (joined ps qs) ≡ bytes_of_records (λ c. c) ps
unfolding joined bytes_of_records
heads w [] qs h e = refl
heads w (p ∷ ps) [] h e = absurd (omega arith)
heads w (p ∷ ps) (q ∷ qs) h e = ap₂ (λ (x y : List ℕ). x ++ y) (take_at p q w e.0) (heads w ps qs (omega arith) e.1)

tails : (w : ℕ) (ps qs : List (List ℕ)) → length ps ≡ length qs → Every (λ c. length c ≡ w) ps → map (drop w) (joined ps qs) ≡ qs
unfolding joined
tails w [] [] h e = refl
tails w [] (q ∷ qs) h e = absurd (omega arith)
tails w (p ∷ ps) [] h e = absurd (omega arith)
tails w (p ∷ ps) (q ∷ qs) h e = ap₂ (λ (x : List ℕ) (xs : List (List ℕ)). x ∷ xs) (drop_at p q w e.0) (tails w ps qs (omega arith) e.1)

field_back : (ws : List ℕ) (n : ℕ) (s : List ℕ) → length s ≡ size ws * n → field_wise ws (record_wise ws n s) ≡ s
unfolding field_wise record_wise size
field_back [] n [] h = refl
field_back [] n (x ∷ s) h = absurd (omega (arith, zero-mul n))
field_back (w ∷ ws) n s h =
    let ps = records_of w (λ (c : List ℕ). c) n s in
    let qs = record_wise ws n (drop (w * n) s) in
    let k : length s ≡ w * n + size ws * n = h ∙ add-mul w (size ws) n in
    let l : length ps ≡ length qs = length-records_of w (λ (c : List ℕ). c) n s ∙ sym (length-record_wise ws n (drop (w * n) s)) in
    let z = parts_sized w n s (omega arith) in
    rw (heads w ps qs l z, tails w ps qs l z, parts_whole w n s, field_back ws n (drop (w * n) s) (rw length-drop (omega arith))) (take-append-drop (w * n) s)

-- ---- on bytes

module _ (ws : List ℕ) (n : ℕ) (s : List ℕ) (h : length s ≡ size ws * n) where
  -- the records that bytes are
  abbrev rs : List (List ℕ)
  rs = records_of (size ws) (λ c. c) n s

  rs_sized : Sized ws rs
  rs_sized = parts_sized (size ws) n s (omega (arith, h))

  rs_count : length rs ≡ n
  rs_count = length-records_of (size ws) (λ (c : List ℕ). c) n s

  back_records : laid_by_record ws n (laid_by_field ws n s) ≡ s
  unfolding laid_by_record laid_by_field
  back_records =
      ap (λ (k : ℕ). bytes_of_records (λ (c : List ℕ). c) (record_wise ws k (field_wise ws rs))) (sym rs_count)
      ∙ ap (bytes_of_records (λ (c : List ℕ). c)) (record_back ws rs rs_sized)
      ∙ parts_whole (size ws) n s
      ∙ take_all (size ws * n) s (omega (arith, h))

  -- and the records whose columns they are
  abbrev qs : List (List ℕ)
  qs = record_wise ws n s

  back_columns : laid_by_field ws n (laid_by_record ws n s) ≡ s
  unfolding laid_by_record laid_by_field
  back_columns =
      ap (λ (k : ℕ). field_wise ws (records_of (size ws) (λ (c : List ℕ). c) k (bytes_of_records (λ (c : List ℕ). c) qs))) (sym (length-record_wise ws n s))
      ∙ ap (field_wise ws) (parts_back (size ws) qs (record_wise_sized ws n s (omega (arith, h))))
      ∙ field_back ws n s h

  long_fields : length (laid_by_field ws n s) ≡ size ws * n
  unfolding laid_by_field
  long_fields = length-field_wise ws rs rs_sized ∙ ap (λ (k : ℕ). size ws * k) rs_count

  long_records : length (laid_by_record ws n s) ≡ size ws * n
  unfolding laid_by_record
  long_records =
      length-parts (size ws) qs (record_wise_sized ws n s (omega (arith, h))) ∙ ap (λ (k : ℕ). size ws * k) (length-record_wise ws n s)

pub rearranges : (ws : List ℕ) (n : ℕ) → Rearranges ws n
rearranges ws n =
    record {
      records = back_records ws n;
      columns = back_columns ws n;
      fields_long = long_fields ws n;
      records_long = long_records ws n;
    }

-- either way, and then the other
pub arranged-back : (back : Bool) (ws : List ℕ) (n : ℕ) (s : List ℕ) → length s ≡ size ws * n → arranged (not back) ws n (arranged back ws n s) ≡ s
unfolding arranged
arranged-back true ws n s h = (rearranges ws n).columns s h
arranged-back false ws n s h = (rearranges ws n).records s h

pub length-arranged : (back : Bool) (ws : List ℕ) (n : ℕ) (s : List ℕ) → length s ≡ size ws * n → length (arranged back ws n s) ≡ size ws * n
unfolding arranged
length-arranged true ws n s h = (rearranges ws n).records_long s h
length-arranged false ws n s h = (rearranges ws n).fields_long s h
