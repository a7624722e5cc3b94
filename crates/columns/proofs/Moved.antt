-- Fields that are moved one column at a time: from records to columns, and from columns to records. Assumes nothing.
use Prim.Native.Nat.{ℕ, zero, suc, ◌+◌, ◌*◌, ◌≤◌}
use mathlib.Core.{Path.◌≡◌, Path.refl, Path.sym, Path.ap, Path.ap₂, Path.◌∙◌, List.List, List.[], List.◌∷◌, List.◌++◌, List.map, List.append_assoc}
use native.Mathlib.{Omega.arith, Nat.zero-add, Nat.mul-suc, Nat.add-mul}
use lib.ListN.{length, take, drop, replicate, length-append, length-drop, length-map, length-replicate}
use lib.Seq.{sets, length-sets, length-take-le, take-take, take_all, drop-drop}
use Rattle.fields.specs.Layout.{records_of, bytes_of_records, size, Every}
use Rattle.fields.proofs.{Records.length-records_of, Sets.front_set, Sets.sets-append, Sets.sets_left, Sets.sets_right, Sets.take_of_drop}
use Rattle.columns.specs.{Columns.laid_by_record, Columns.joined, Columns.record_wise, Moves.moved}
use Rattle.columns.proofs.Columnar.{Sized, empties, empty_sized, joined_sized, length-joined, length-record_wise, parts_sized, parts_whole, shorter}

pub length_moved : (w n : ℕ) (s : List ℕ) (from step : ℕ) (out : List ℕ) (to apart : ℕ) → length (moved w n s from step out to apart) ≡ length out
unfolding moved
length_moved w zero s from step out to apart = refl
length_moved w (suc n) s from step out to apart =
    length_moved w n s (from + step) step (sets out to (take w (drop from s))) (to + apart) apart ∙ length-sets out to (take w (drop from s))

-- a part of the front of a list is a part of the list
part_front : (o w k : ℕ) (l : List ℕ) → o + w ≤ k → take w (drop o (take k l)) ≡ take w (drop o l)
part_front o w k l h =
    take_of_drop o w (take k l) ∙ ap (drop o) (take-take (o + w) k l h) ∙ sym (take_of_drop o w l)

-- ---- from records to a column

-- the fields at an offset of each of n records, stored one after the other
pub column_moved : (w o long n : ℕ) (s : List ℕ) (base : ℕ) (out : List ℕ) (to : ℕ) → o + w ≤ long → base + long * n ≤ length s
    → moved w n s (base + o) long out to w ≡ sets out to (bytes_of_records (take w) (map (drop o) (records_of long (λ c. c) n (drop base s))))
unfolding moved bytes_of_records records_of
column_moved w o long zero s base out to h k = refl
column_moved w o long (suc n) s base out to h k =
    let d = drop base s in
    let x = take w (drop (base + o) s) in
    let y = take w (drop o (take long d)) in
    let rest = bytes_of_records (take w) (map (drop o) (records_of long (λ (c : List ℕ). c) n (drop long d))) in
    let e : y ≡ x = part_front o w long d h ∙ ap (take w) (drop-drop o base s) in
    let l : length x ≡ w = length-take-le w (drop (base + o) s) (rw length-drop (omega (arith, mul-suc long n))) in
    let next : base + o + long ≡ base + long + o = omega arith in
    ap (λ (i : ℕ). moved w n s i long (sets out to x) (to + w) w) next
    ∙ column_moved w o long n s (base + long) (sets out to x) (to + w) h (omega (arith, mul-suc long n))
    ∙ ap (λ (t : List ℕ). sets (sets out to x) (to + w) (bytes_of_records (take w) (map (drop o) (records_of long (λ (c : List ℕ). c) n t)))) (sym (drop-drop long base s))
    ∙ ap (λ (i : ℕ). sets (sets out to x) (to + i) rest) (sym l)
    ∙ sym (sets-append x rest out to)
    ∙ ap (λ (t : List ℕ). sets out to (t ++ rest)) (sym e)

-- ---- from columns to records

-- a field that follows the front of a record is set, among other bytes
field_set : (pre p q b c : List ℕ) (o w : ℕ) → length p ≡ o → length c ≡ w → w ≤ length q
    → sets (pre ++ ((p ++ q) ++ b)) (length pre + o) c ≡ (pre ++ ((p ++ c) ++ drop w q)) ++ b
field_set pre p q b c o w e f h =
    let i : o ≡ length p + 0 = omega arith in
    let one : sets (p ++ q) o c ≡ (p ++ c) ++ drop w q = ap (λ (k : ℕ). sets (p ++ q) k c) i ∙ sets_right c p q 0 ∙ ap (λ (t : List ℕ). p ++ t) (sym (front_set w q c f h refl)) ∙ sym (append_assoc p c (drop w q)) in
    sets_right c pre ((p ++ q) ++ b) o
    ∙ ap (λ (t : List ℕ). pre ++ t) (sets_left c (p ++ q) b o (rw length-append (omega (arith, e, f, h))) ∙ ap (λ (t : List ℕ). t ++ b) one)
    ∙ sym (append_assoc pre ((p ++ c) ++ drop w q) b)

-- records with fronts ps and rests qs: a column is stored behind the fronts, over the first bytes of the rests
record_moved : (w o k : ℕ) (ps qs : List (List ℕ)) (s : List ℕ) (from : ℕ) (pre : List ℕ) → length ps ≡ length qs → Every (λ c. length c ≡ o) ps → Every (λ c. length c ≡ w + k) qs
    → from + w * length ps ≤ length s
    → moved w (length ps) s from w (pre ++ bytes_of_records (λ c. c) (joined ps qs)) (length pre + o) (o + (w + k))
    ≡ pre ++ bytes_of_records (λ c. c) (joined (joined ps (records_of w (λ c. c) (length ps) (drop from s))) (map (drop w) qs))
unfolding moved bytes_of_records records_of joined
record_moved w o k [] qs s from pre l hp hq h = refl
record_moved w o k (p ∷ ps) [] s from pre l hp hq h = absurd (omega arith)
record_moved w o k (p ∷ ps) (q ∷ qs) s from pre l hp hq h =
    let n = length ps in
    let c = take w (drop from s) in
    let b = bytes_of_records (λ (x : List ℕ). x) (joined ps qs) in
    let r = (p ++ c) ++ drop w q in
    let lc : length c ≡ w = length-take-le w (drop from s) (rw length-drop (omega (arith, mul-suc w n))) in
    let lr : length r ≡ o + (w + k) = rw (length-append, length-append, length-drop) (omega (arith, hp.0, hq.0)) in
    let at : length pre + o + (o + (w + k)) ≡ length (pre ++ r) + o = rw length-append (omega arith) in
    ap₂ (λ (x : List ℕ) (i : ℕ). moved w n s (from + w) w x i (o + (w + k))) (field_set pre p q b c o w hp.0 lc (omega (arith, hq.0))) at
    ∙ record_moved w o k ps qs s (from + w) (pre ++ r) (omega arith) hp.1 hq.1 (omega (arith, mul-suc w n))
    ∙ append_assoc pre r _
    ∙ ap (λ (t : List ℕ). pre ++ (r ++ bytes_of_records (λ (x : List ℕ). x) (joined (joined ps (records_of w (λ (x : List ℕ). x) n t)) (map (drop w) qs)))) (sym (drop-drop w from s))

-- the columns of widths ws of n records, which begin at `from`, stored one after the other in records, from an offset of each on
unfoldable pub stored : List ℕ → ℕ → ℕ → List ℕ → ℕ → List ℕ → ℕ → List ℕ
stored [] n long s from out o = out
stored (w ∷ ws) n long s from out o = stored ws n long s (from + w * n) (moved w n s from w out o long) (o + w)

joined_assoc : (ps cs qs : List (List ℕ)) → joined (joined ps cs) qs ≡ joined ps (joined cs qs)
unfolding joined
joined_assoc [] cs qs = refl
joined_assoc (p ∷ ps) [] qs = refl
joined_assoc (p ∷ ps) (c ∷ cs) [] = refl
joined_assoc (p ∷ ps) (c ∷ cs) (q ∷ qs) = ap₂ (λ (x : List ℕ) (xs : List (List ℕ)). x ∷ xs) (append_assoc p c q) (joined_assoc ps cs qs)

-- every column stored behind the fronts of the records makes them whole
stored_behind : (ws : List ℕ) (o : ℕ) (ps qs : List (List ℕ)) (s : List ℕ) (from : ℕ) → length ps ≡ length qs → Every (λ c. length c ≡ o) ps → Sized ws qs
    → from + size ws * length ps ≤ length s
    → stored ws (length ps) (o + size ws) s from (bytes_of_records (λ c. c) (joined ps qs)) o ≡ bytes_of_records (λ c. c) (joined ps (record_wise ws (length ps) (drop from s)))
unfolding stored size record_wise
stored_behind [] o ps qs s from l hp hq h = ap (λ (t : List (List ℕ)). bytes_of_records (λ (c : List ℕ). c) (joined ps t)) (sym (ap (λ (k : ℕ). replicate k []) l ∙ empties qs hq))
stored_behind (w ∷ ws) o ps qs s from l hp hq h =
    let n = length ps in
    let cs = records_of w (λ (c : List ℕ). c) n (drop from s) in
    let qs' = map (drop w) qs in
    let m : (w + size ws) * n ≡ w * n + size ws * n = add-mul w (size ws) n in
    let lc : length cs ≡ n = length-records_of w (λ (c : List ℕ). c) n (drop from s) in
    let lj : length (joined ps cs) ≡ n = length-joined ps cs (sym lc) in
    let sized : Every (λ c. length c ≡ o + w) (joined ps cs) = joined_sized o w ps cs hp (parts_sized w n (drop from s) (rw length-drop (omega (arith, h, m)))) in
    let long : o + (w + size ws) ≡ o + w + size ws = omega arith in
    let rest = record_wise ws n (drop (from + w * n) s) in
    ap (λ (i : ℕ). stored ws n (o + (w + size ws)) s (from + w * n) (moved w n s from w (bytes_of_records (λ (c : List ℕ). c) (joined ps qs)) i (o + (w + size ws))) (o + w)) (sym (zero-add o))
    ∙ ap (λ (t : List ℕ). stored ws n (o + (w + size ws)) s (from + w * n) t (o + w)) (record_moved w o (size ws) ps qs s from [] l hp hq (omega (arith, h, m)))
    ∙ ap₂ (λ (i k : ℕ). stored ws k i s (from + w * n) (bytes_of_records (λ (c : List ℕ). c) (joined (joined ps cs) qs')) (o + w)) long (sym lj)
    ∙ stored_behind ws (o + w) (joined ps cs) qs' s (from + w * n) (lj ∙ l ∙ sym (length-map qs (drop w))) sized (shorter w ws qs hq) (rw lj (omega (arith, h, m)))
    ∙ ap (λ (k : ℕ). bytes_of_records (λ (c : List ℕ). c) (joined (joined ps cs) (record_wise ws k (drop (from + w * n) s)))) lj
    ∙ ap (bytes_of_records (λ (c : List ℕ). c)) (joined_assoc ps cs rest)
    ∙ ap (λ (t : List ℕ). bytes_of_records (λ (c : List ℕ). c) (joined ps (joined cs (record_wise ws n t)))) (sym (drop-drop (w * n) from s))

-- records without a front
joined_none : (n : ℕ) (qs : List (List ℕ)) → length qs ≡ n → joined (replicate n []) qs ≡ qs
unfolding joined
joined_none zero [] h = refl
joined_none zero (q ∷ qs) h = absurd (omega arith)
joined_none (suc n) [] h = absurd (omega arith)
joined_none (suc n) (q ∷ qs) h = ap (λ (xs : List (List ℕ)). q ∷ xs) (joined_none n qs (omega arith))

-- all columns stored over records of any bytes
pub stored_all : (ws : List ℕ) (n : ℕ) (s out : List ℕ) → length s ≡ size ws * n → length out ≡ size ws * n → stored ws n (size ws) s 0 out 0 ≡ laid_by_record ws n s
unfolding laid_by_record
stored_all ws n s out h k =
    let bytes = bytes_of_records (λ (c : List ℕ). c) in
    let ps : List (List ℕ) = replicate n [] in
    let qs = records_of (size ws) (λ (c : List ℕ). c) n out in
    let lp : length ps ≡ n = length-replicate n [] in
    let lq : length qs ≡ n = length-records_of (size ws) (λ (c : List ℕ). c) n out in
    let e : out ≡ bytes (joined ps qs) = sym (ap bytes (joined_none n qs lq) ∙ parts_whole (size ws) n out ∙ take_all (size ws * n) out (omega (arith, k))) in
    ap₂ (λ (t : List ℕ) (i : ℕ). stored ws i (size ws) s 0 t 0) e (sym lp)
    ∙ ap (λ (i : ℕ). stored ws (length ps) i s 0 (bytes (joined ps qs)) 0) (sym (zero-add (size ws)))
    ∙ stored_behind ws 0 ps qs s 0 (lp ∙ sym lq) (empty_sized n) (parts_sized (size ws) n out (omega (arith, k))) (rw lp (omega (arith, h)))
    ∙ ap (λ (i : ℕ). bytes (joined ps (record_wise ws i s))) lp
    ∙ ap bytes (joined_none n (record_wise ws n s) (length-record_wise ws n s))
