-- The turns of the loops: one over the records of a column, and one over the columns each way. Assumes nothing.
use mathlib.Core.{Bool.Bool, Bool.true, Bool.false, List.List, List.[], List.◌∷◌, List.◌++◌, List.map, List.map-id, List.map-map, List.append_assoc, List.append-nil}
use mathlib.Core.Path.{◌≡◌, refl, fun_ext, subst, sym, ap, ap₂, ◌∙◌}
use borrow.Rule.Slice.PartMut.{put_mid}
use Prim.Native.Nat.{ℕ, zero, suc, ◌+◌, ◌-◌, ◌*◌, ◌<◌, ◌≤◌}
use native.Mathlib.{Omega.arith, Numerals.add-one}
use native.Mathlib.Nat.{add-zero, mul-zero, mul-suc, add-mul, sub-zero, zero-mul, mul-le-mul_left, not-suc-le-zero, le_of_suc-le-suc}
use lib.ListN.{length, get_or, take, drop, length-drop, length-map, drop_of_length-le}
use lib.Seq.{sets, drop-cons, drop-drop, take-length, take-add, length-sets, length-take-le}
use Rattle.fields.specs.{Field.AllBytes, Field.field, Field.set_field, Layout.records_of, Layout.bytes_of_records, Layout.size, Layout.Every}
use Rattle.fields.proofs.{Field.to_bytes_field, Records.length-records_of, Sets.part_of_sets, Sets.part_sets, Sets.take-sets}
use Rattle.columns.specs.Columns.{arranged, laid_by_field, laid_by_record, field_wise}
use Rattle.columns.specs.Moves.{FieldsIn, Filled, Movable, Within, moved}
use Rattle.columns.proofs.Columnar.{length-arranged, length_column, parts_sized}
use Rattle.columns.proofs.Moved.{column_moved, length_moved, stored, stored_all}

-- ---- a field in each record

-- where the fields of i records are moved: what is left to move gives all
pub record Moving (w n : ℕ) (s : List ℕ) (from step : ℕ) (entry : List ℕ) (to apart : ℕ) (out : List ℕ) (i : ℕ) : Type 0 where
  pub within : i ≤ n
  pub kept : length out ≡ length entry
  pub answer : moved w (n - i) s (from + step * i) step out (to + apart * i) apart ≡ moved w n s from step entry to apart

module _ {w n : ℕ} {s : List ℕ} {from step : ℕ} {entry : List ℕ} {to apart : ℕ} where
  pub moving_start : Moving w n s from step entry to apart entry 0
  moving_start = record { within = omega arith; kept = refl; answer = rw (sub-zero, mul-zero, mul-zero, add-zero, add-zero) }

  pub moving_turn : {out after : List ℕ} {i : ℕ} → AllBytes s → FieldsIn w n from step (length s) → Moving w n s from step entry to apart out i → i < n
      → after ≡ set_field w (to + apart * i) (field w (from + step * i) s) out → Moving w n s from step entry to apart after (i + 1)
  unfolding moved set_field
  moving_turn {out} {after} {i} b lies before h q =
      let e : n - i ≡ suc (n - (i + 1)) = omega arith in
      let x = from + step * i in
      let y = to + apart * i in
      let f : after ≡ sets out y (take w (drop x s)) = q ∙ ap (λ (vs : List ℕ). sets out y vs) (to_bytes_field w x s (lies i h) b) in
      let a : from + step * (i + 1) ≡ x + step = omega (arith, mul-suc step i) in
      let c : to + apart * (i + 1) ≡ y + apart = omega (arith, mul-suc apart i) in
      record {
        within = omega arith;
        kept = ap length f ∙ length-sets out y (take w (drop x s)) ∙ before.kept;
        answer = rw (a, c, f) (rw e at before.answer);
      }

  pub moving_end : {out : List ℕ} {i : ℕ} → Moving w n s from step entry to apart out i → n ≤ i → out ≡ moved w n s from step entry to apart
  unfolding moved
  moving_end {out} {i} before h =
      let e : n - i ≡ 0 = omega arith in
      rw e at before.answer

-- fields of a width that is another number's
pub movable_as : {w v n from step given to apart lent : ℕ} → w ≡ v → Movable w n from step given to apart lent → Movable v n from step given to apart lent
movable_as {w} {v} {n} {from} {step} {given} {to} {apart} {lent} e h = subst (λ (x : ℕ). Movable x n from step given to apart lent) e h

-- ---- widths

-- a width of the list
width_at : (P : ℕ → Type 0) (ws : List ℕ) (j : ℕ) → Every P ws → j < length ws → P (get_or ws j 0)
width_at P [] j e h = absurd (not-suc-le-zero h)
width_at P (w ∷ ws) zero e h = e.0
width_at P (w ∷ ws) (suc j) e h = width_at P ws j e.1 (le_of_suc-le-suc h)

-- the widths from j on, where there is one
widths_from : (ws : List ℕ) (j w : ℕ) → j < length ws → w ≡ get_or ws j 0 → drop j ws ≡ w ∷ drop (j + 1) ws
widths_from ws j w h e = drop-cons ws j 0 h ∙ ap₂ (λ (x k : ℕ). x ∷ drop k ws) (sym e) (sym (add-one j))

-- where the field j of a record begins, and its column, of n records
pub record Column (ws : List ℕ) (long n j at begin : ℕ) : Type 0 where
  pub within : j ≤ length ws
  pub rest : at + size (drop j ws) ≡ long
  pub begins : begin + size (drop j ws) * n ≡ long * n

module _ {ws : List ℕ} {long n : ℕ} where
  pub column_start : size ws ≡ long → Column ws long n 0 0 0
  column_start e = record { within = omega arith; rest = omega (arith, e); begins = rw e (omega arith) }

  module _ {j at begin w : ℕ} (here : Column ws long n j at begin) (h : j < length ws) (e : w ≡ get_or ws j 0) where
    -- behind the field j stand those after it
    pub field_room : at + w + size (drop (j + 1) ws) ≡ long
    unfolding size
    field_room = omega (arith, rw (widths_from ws j w h e) at here.rest)

    pub column_room : begin + w * n + size (drop (j + 1) ws) * n ≡ long * n
    unfolding size
    column_room = omega (arith, add-mul w (size (drop (j + 1) ws)) n, rw (widths_from ws j w h e) at here.begins)

    column_next : Column ws long n (j + 1) (at + w) (begin + w * n)
    column_next = record { within = omega arith; rest = field_room; begins = column_room }

    -- the field lies in each of the records
    record_lies : FieldsIn w n at long (long * n)
    record_lies i k = omega (arith, field_room, mul-suc long i, mul-le-mul_left long k)

    -- and each of them in the column
    column_lies : FieldsIn w n begin w (long * n)
    column_lies i k = omega (arith, column_room, mul-suc w i, mul-le-mul_left w k)

  column_end : {j at begin : ℕ} → Column ws long n j at begin → length ws ≤ j → (drop j ws ≡ []) × (begin ≡ long * n)
  unfolding size
  column_end {j} here h =
      let e : drop j ws ≡ [] = drop_of_length-le ws h in
      (e, omega (arith, zero-mul n, rw e at here.begins))

-- ---- from records to columns

-- records without their first bytes
dropped_sized : (at k : ℕ) (rs : List (List ℕ)) → Every (λ c. length c ≡ at + k) rs → Every (λ c. length c ≡ k) (map (drop at) rs)
dropped_sized at k [] e = tt
dropped_sized at k (r ∷ rs) e = (rw length-drop (omega (arith, e.0)), dropped_sized at k rs e.1)

dropped_more : (w at : ℕ) (rs : List (List ℕ)) → map (drop w) (map (drop at) rs) ≡ map (drop (at + w)) rs
dropped_more w at rs = map-map (drop w) (drop at) rs ∙ ap (λ (f : List ℕ → List ℕ). map f rs) (fun_ext (drop-drop w at))

-- where j columns are written: those and the columns that are left give all
pub record Columning (ws : List ℕ) (long n : ℕ) (s out : List ℕ) (j at begin : ℕ) : Type 0 where
  pub here : Column ws long n j at begin
  pub kept : length out ≡ long * n
  pub answer : take begin out ++ field_wise (drop j ws) (map (drop at) (records_of long (λ c. c) n s)) ≡ field_wise ws (records_of long (λ c. c) n s)

module _ {ws : List ℕ} {long n : ℕ} {s : List ℕ} where
  pub columning_start : {out : List ℕ} → size ws ≡ long → length out ≡ long * n → Columning ws long n s out 0 0 0
  columning_start e k = record { here = column_start e; kept = k; answer = ap (field_wise ws) (map-id (records_of long (λ c. c) n s)) }

  -- the next column can be moved
  pub columning_movable : {out : List ℕ} {lent j at begin w : ℕ} → Filled ws long n (length s) lent → Columning ws long n s out j at begin → j < length ws → w ≡ get_or ws j 0
      → Movable w n at long (length s) begin w (length out)
  columning_movable {j = j} f before h e =
      record {
        narrow = rw e (width_at (λ w. w ≤ 8) ws j f.narrow h);
        source = rw f.source (record_lies before.here h e);
        target = rw before.kept (column_lies before.here h e);
      }

  pub columning_turn : {out after : List ℕ} {j at begin w : ℕ} → length s ≡ long * n → Columning ws long n s out j at begin → j < length ws → w ≡ get_or ws j 0
      → after ≡ moved w n s at long out begin w → Columning ws long n s after (j + 1) (at + w) (begin + w * n)
  unfolding field_wise size
  columning_turn {out} {after} {j} {at} {begin} {w} l before h is q =
      let rest = drop (j + 1) ws in
      let rs = records_of long (λ (c : List ℕ). c) n s in
      let rs' = map (drop at) rs in
      let column = bytes_of_records (take w) rs' in
      let room = field_room before.here h is in
      let count : length rs' ≡ n = length-map rs (drop at) ∙ length-records_of long (λ (c : List ℕ). c) n s in
      let whole : at + (w + size rest) ≡ long = omega (arith, room) in
      let z : Every (λ c. length c ≡ w + size rest) rs' = dropped_sized at (w + size rest) rs (rw whole (parts_sized long n s (omega (arith, l)))) in
      let k : length column ≡ w * n = length_column w rest rs' z ∙ ap (λ (i : ℕ). w * i) count in
      let e : after ≡ sets out begin column = q ∙ ap (λ (i : ℕ). moved w n s i long out begin w) (omega arith) ∙ column_moved w at long n s 0 out begin (omega (arith, room)) (omega (arith, l)) in
      let lies : begin + w * n ≤ length out = omega (arith, column_room before.here h is, before.kept) in
      let front : take (begin + w * n) after ≡ take begin out ++ column =
      take-add begin (w * n) after ∙ ap₂ (λ (x y : List ℕ). x ++ y) (ap (take begin) e ∙ take-sets column out begin begin (omega arith)) (ap (λ (t : List ℕ). take (w * n) (drop begin t)) e ∙ part_of_sets out column begin (w * n) k lies) in
      record {
        here = column_next before.here h is;
        kept = ap length e ∙ length-sets out begin column ∙ before.kept;
        answer = rw (front, append_assoc, ← dropped_more w at rs) (rw (widths_from ws j w h is) at before.answer);
      }

  pub columning_end : {out : List ℕ} {j at begin : ℕ} → size ws ≡ long → Columning ws long n s out j at begin → length ws ≤ j → out ≡ laid_by_field ws n s
  unfolding laid_by_field field_wise
  columning_end {out} {j} {at} {begin} e before h =
      let end = column_end before.here h in
      let all : take begin out ≡ out = ap (λ (k : ℕ). take k out) (end.1 ∙ sym before.kept) ∙ take-length out in
      sym (append-nil out) ∙ ap (λ (t : List ℕ). t ++ []) (sym all) ∙ (rw end.0 at before.answer) ∙ ap (λ (k : ℕ). field_wise ws (records_of k (λ (c : List ℕ). c) n s)) (sym e)

-- ---- from columns to records

-- where j columns are stored in the records: those that are left to store give all
pub record Recording (ws : List ℕ) (long n : ℕ) (s entry out : List ℕ) (j at begin : ℕ) : Type 0 where
  pub here : Column ws long n j at begin
  pub kept : length out ≡ length entry
  pub answer : stored (drop j ws) n long s begin out at ≡ stored ws n long s 0 entry 0

module _ {ws : List ℕ} {long n : ℕ} {s entry : List ℕ} where
  pub recording_start : size ws ≡ long → Recording ws long n s entry entry 0 0 0
  recording_start e = record { here = column_start e; kept = refl; answer = refl }

  pub recording_movable : {out : List ℕ} {j at begin w : ℕ} → Filled ws long n (length s) (length entry) → Recording ws long n s entry out j at begin → j < length ws → w ≡ get_or ws j 0
      → Movable w n begin w (length s) at long (length out)
  recording_movable {j = j} f before h e =
      record {
        narrow = rw e (width_at (λ w. w ≤ 8) ws j f.narrow h);
        source = rw f.source (column_lies before.here h e);
        target = rw (before.kept, f.target) (record_lies before.here h e);
      }

  pub recording_turn : {out after : List ℕ} {j at begin w : ℕ} → Recording ws long n s entry out j at begin → j < length ws → w ≡ get_or ws j 0
      → after ≡ moved w n s begin w out at long → Recording ws long n s entry after (j + 1) (at + w) (begin + w * n)
  unfolding stored
  recording_turn {out} {after} {j} {at} {begin} {w} before h is q =
      record {
        here = column_next before.here h is;
        kept = ap length q ∙ length_moved w n s begin w out at long ∙ before.kept;
        answer = rw q (rw (widths_from ws j w h is) at before.answer);
      }

  pub recording_end : {out : List ℕ} {j at begin : ℕ} → Filled ws long n (length s) (length entry) → Recording ws long n s entry out j at begin → length ws ≤ j → out ≡ laid_by_record ws n s
  unfolding stored
  recording_end {out} {j} f before h =
      let end = column_end before.here h in
      let e = f.fields in
      (rw end.0 at before.answer)
      ∙ ap (λ (k : ℕ). stored ws n k s 0 entry 0) (sym e)
      ∙ stored_all ws n s entry (f.source ∙ ap (λ (k : ℕ). k * n) (sym e)) (f.target ∙ ap (λ (k : ℕ). k * n) (sym e))

-- ---- either way

-- where j columns are stored in the records, or, the other way, written
abbrev Way : Bool → List ℕ → ℕ → ℕ → List ℕ → List ℕ → List ℕ → ℕ → ℕ → ℕ → Type 0
Way true ws long n s entry out j at begin = Recording ws long n s entry out j at begin
Way false ws long n s entry out j at begin = Columning ws long n s out j at begin

pub record Arranging (back : Bool) (ws : List ℕ) (long n : ℕ) (s entry out : List ℕ) (j at begin : ℕ) : Type 0 where
  pub here : Column ws long n j at begin
  pub way : Way back ws long n s entry out j at begin

pub arranging_start : (back : Bool) {ws : List ℕ} {long n : ℕ} {s entry : List ℕ} → Filled ws long n (length s) (length entry) → Arranging back ws long n s entry entry 0 0 0
arranging_start true f = record { here = column_start f.fields; way = recording_start f.fields }
arranging_start false f = record { here = column_start f.fields; way = columning_start f.fields f.target }

module _ {back : Bool} {ws : List ℕ} {long n : ℕ} {s entry out : List ℕ} {j at begin w : ℕ} (filled : Filled ws long n (length s) (length entry)) (before : Arranging back ws long n s entry out j at begin) (h : j < length ws) (is : w ≡ get_or ws j 0) where
  pub back_movable : back ≡ true → Movable w n begin w (length s) at long (length out)
  back_movable e = recording_movable filled (rw e at before.way) h is

  pub forth_movable : back ≡ false → Movable w n at long (length s) begin w (length out)
  forth_movable e = columning_movable filled (rw e at before.way) h is

  pub back_turn : {after : List ℕ} → back ≡ true → after ≡ moved w n s begin w out at long → Arranging back ws long n s entry after (j + 1) (at + w) (begin + w * n)
  back_turn e q =
      let turned = recording_turn (rw e at before.way) h is q in
      record { here = turned.here; way = rw e turned }

  pub forth_turn : {after : List ℕ} → back ≡ false → after ≡ moved w n s at long out begin w → Arranging back ws long n s entry after (j + 1) (at + w) (begin + w * n)
  forth_turn e q =
      let turned = columning_turn filled.source (rw e at before.way) h is q in
      record { here = turned.here; way = rw e turned }

pub arranging_end : (back : Bool) {ws : List ℕ} {long n : ℕ} {s entry out : List ℕ} {j at begin : ℕ} → Filled ws long n (length s) (length entry)
    → Arranging back ws long n s entry out j at begin → length ws ≤ j → out ≡ arranged back ws n s
unfolding arranged
arranging_end true f before h = recording_end f before.way h
arranging_end false f before h = columning_end f.fields before.way h

-- ---- a part of each list

-- records lent from one list, arranged, and come back as a part of another
pub part-arranged : {part : List ℕ} (back : Bool) (ws : List ℕ) (long n at : ℕ) (s out : List ℕ) → Within ws long n at (length s) (length out)
    → part ≡ arranged back ws n (take (at + long * n - at) (drop at s)) → put_mid at (at + long * n - at) out part ≡ sets out at (arranged back ws n (take (long * n) (drop at s)))
part-arranged back ws long n at s out f e =
    let k = long * n in
    let m : at + k - at ≡ k = omega arith in
    let l : length (take k (drop at s)) ≡ size ws * n = length-take-le k (drop at s) (rw length-drop (omega (arith, f.source))) ∙ ap (λ (i : ℕ). i * n) (sym f.fields) in
    let v : length (arranged back ws n (take k (drop at s))) ≡ k = length-arranged back ws n (take k (drop at s)) l ∙ ap (λ (i : ℕ). i * n) f.fields in
    rw (e, m) (part_sets out (arranged back ws n (take k (drop at s))) at k v f.target)
