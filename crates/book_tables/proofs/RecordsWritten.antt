-- Laws of the loop that writes the records of an array to bytes, for any type of record: its start, a turn and its end. Assumes nothing.
use Rattle.base.specs.Basics.{◌≡◌, refl, List, ℕ, ◌+◌, ◌-◌, ◌*◌, ◌<◌, ◌≤◌, add-one, mul-zero, mul-suc, sub-zero, arith, length, get_or, take, drop}
use Rattle.base.specs.Basics.{sets, length-sets}
use borrow.Rule.Slice.PartMut.{put_mid}
use Rattle.fields.specs.Layout.{bytes_of_records}
use Rattle.fields.proofs.Sets.{part_sets}
use Rattle.fields.proofs.Records.{bytes_of_records_step}

-- where i of n records are written: the next one goes to a, and what is left, written there, gives all of them
pub record Writing {R : Type 0} (bytes : R → List ℕ) (len : ℕ) (rs : List R) (entry : List ℕ) (at n : ℕ) (out : List ℕ) (i a : ℕ) : Type 0 where
  pub place : a ≡ at + len * i
  pub within : i ≤ n
  pub kept : length out ≡ length entry
  pub records : sets out a (bytes_of_records bytes (take (n - i) (drop i rs))) ≡ sets entry at (bytes_of_records bytes (take n rs))

module _ {R : Type 0} {bytes : R → List ℕ} {len : ℕ} {rs : List R} {entry : List ℕ} {at n : ℕ} where
  pub writing_start : Writing bytes len rs entry at n entry 0 at
  writing_start = record { place = omega (arith, mul-zero len); within = omega arith; kept = refl; records = rw sub-zero }

  -- d stands for an element past the end of the array, which no turn reaches
  pub writing_turn : (d : R) {out part : List ℕ} {i a : ℕ} → ((r : R) → length (bytes r) ≡ len)
      → Writing bytes len rs entry at n out i a → i < n → n ≤ length rs → a + len ≤ length out → part ≡ bytes (get_or rs i d)
      → Writing bytes len rs entry at n (put_mid a (a + len - a) out part) (i + 1) (a + len)
  writing_turn d {out} {part} {i} {a} sized before h k f e =
      let r = get_or rs i d in
      let m : n - (i + 1) ≡ n - i - 1 = omega arith in
      let l : a + len - a ≡ len = omega arith in
      let p : put_mid a (a + len - a) out part ≡ sets out a (bytes r) = rw (l, e) (part_sets out (bytes r) a len (sized r) f) in
      record {
        place = rw (add-one, mul-suc) (omega (arith, before.place));
        within = omega arith;
        kept = rw (p, length-sets) before.kept;
        records = rw (p, m, ← bytes_of_records_step bytes len (n - i) i a rs d out (omega arith) (omega arith) (sized r)) before.records;
      }

  pub writing_end : {out : List ℕ} {i a : ℕ} → Writing bytes len rs entry at n out i a → n ≤ i → out ≡ sets entry at (bytes_of_records bytes (take n rs))
  unfolding bytes_of_records
  writing_end {out} {i} before h =
      let e : n - i ≡ 0 = omega arith in
      rw e at before.records
