-- An entry, cut by cut: what is left to write, written, gives the whole. Assumes nothing.
use Rattle.base.specs.Basics.{◌≡◌, refl, sym, ap, ap₂, subst, ◌∙◌, List, [], ◌++◌, ℕ, suc, ◌+◌, ◌-◌, ◌*◌, ◌≤◌, ◌<◌, sub_self, arith, length, get_or}
use Rattle.base.specs.Basics.{set, drop, replicate, length-set, drop_of_length-le, drop-cons, length-sets}
use Rattle.fields.proofs.Field.{length-set_field, length_to_bytes}
use Rattle.fields.proofs.Records.{bytes_of_records-set, length-bytes_of_records}
use Rattle.fields.proofs.Sets.{sets_left}
use Rattle.fields.specs.Field.{set_field, to_bytes}
use Rattle.laws_sales.proofs.Parts.{part_here, part_length}
use Rattle.laws_sales.specs.Parts.{part}
use Rattle.log_format.specs.Log.{cut_bytes, entry_bytes, padded}
use Rattle.log_entries.specs.Entries.{Notable, Noted, entered}

-- a cut written in an entry is its field set
pub entry_set : (xs : List ℕ) (i c : ℕ) → i < length xs → entry_bytes (set xs i c) ≡ set_field 4 (4 * i) c (entry_bytes xs)
unfolding entry_bytes cut_bytes padded set_field
entry_set xs i c h =
    let bytes = cut_bytes xs in
    let w = to_bytes 4 c in
    let long = length-bytes_of_records (to_bytes 4) 4 (length_to_bytes 4) xs in
    let put = bytes_of_records-set (to_bytes 4) 4 (length_to_bytes 4) xs i c h in
    ap₂ (λ (x : List ℕ) (n : ℕ). x ++ replicate (1024 - n) 0) put (ap length put ∙ length-sets bytes (4 * i) w)
    ∙ sym (sets_left w bytes (replicate (1024 - length bytes) 0) (4 * i) (omega (arith, long, length_to_bytes 4 c)))

-- the first j of some cuts are written at their places
pub record Entering (is cs xs bytes : List ℕ) (j : ℕ) : Type 0 where
  pub entry : List ℕ
  pub long : length entry ≡ length xs
  pub held : bytes ≡ entry_bytes entry
  pub left : entered (drop j is) (drop j cs) entry ≡ entered is cs xs

-- the cuts from..to, up to k
pub record PutTo (origins cuts : List ℕ) (from to : ℕ) (before now : List ℕ) (k : ℕ) : Type 0 where
  pub above : from ≤ k
  pub long : length now ≡ length before
  pub each : (xs : List ℕ) → length xs ≤ 256 → ((i : ℕ) → i < length (part from to origins) → get_or (part from to origins) i 0 < length xs)
      → before ≡ entry_bytes xs → Entering (part from to origins) (part from to cuts) xs now (k - from)

module _ {origins cuts : List ℕ} {from to : ℕ} (q : Notable origins cuts from to) {before : List ℕ} where
  pub put_start : PutTo origins cuts from to before before from
  put_start =
      record {
        above = omega arith;
        long = refl;
        each = λ xs few inside e. record { entry = xs; long = refl; held = e; left = ap (λ (n : ℕ). entered (drop n (part from to origins)) (drop n (part from to cuts)) xs) (sub_self from) };
      }

  module _ {now : List ℕ} {k : ℕ} (p : PutTo origins cuts from to before now k) where
    -- one more
    put_one : k < to → PutTo origins cuts from to before (set_field 4 (4 * get_or origins k 0) (get_or cuts k 0) now) (k + 1)
    unfolding entered
    put_one h =
        let is = part from to origins in
        let cs = part from to cuts in
        let i = get_or origins k 0 in
        let c = get_or cuts k 0 in
        let il = part_length origins from to (omega (arith, q.origins_room, q.few)) in
        let cl = part_length cuts from to (omega (arith, q.cuts_room, q.few)) in
        let ih : get_or is (k - from) 0 ≡ i = part_here origins from to k 0 p.above h in
        let ch : get_or cs (k - from) 0 ≡ c = part_here cuts from to k 0 p.above h in
        let j : (k + 1) - from ≡ suc (k - from) = omega (arith, p.above) in
        record {
          above = omega (arith, p.above);
          long = length-set_field 4 (4 * i) c now ∙ p.long;
          each = λ xs few inside e.
              let r = p.each xs few inside e in
              let within : i < length r.entry = omega (arith, inside (k - from) (omega (arith, il, p.above)), ih, r.long) in
              let more : entered (drop (k - from) is) (drop (k - from) cs) r.entry ≡ entered (drop (suc (k - from)) is) (drop (suc (k - from)) cs) (set r.entry i c)
              = rw (drop-cons is (k - from) 0 (omega (arith, il, p.above)), drop-cons cs (k - from) 0 (omega (arith, cl, p.above)), ih, ch) in
              record {
                entry = set r.entry i c;
                long = length-set r.entry i c ∙ r.long;
                held = ap (set_field 4 (4 * i) c) r.held ∙ sym (entry_set r.entry i c within);
                left = ap (λ (n : ℕ). entered (drop n is) (drop n cs) (set r.entry i c)) j ∙ sym more ∙ r.left;
              };
        }

    pub put_next : k < to → {i : ℕ} {new : List ℕ} → i ≡ get_or origins k 0 → new ≡ set_field 4 (4 * i) (get_or cuts k 0) now → PutTo origins cuts from to before new (k + 1)
    put_next h e f =
        subst (λ (x : List ℕ). PutTo origins cuts from to before x (k + 1)) (sym (f ∙ ap (λ (i : ℕ). set_field 4 (4 * i) (get_or cuts k 0) now) e)) (put_one h)

    pub put_end : to ≤ k → Noted origins cuts from to before now
    unfolding entered
    put_end h =
        let is = part from to origins in
        let cs = part from to cuts in
        let il = part_length origins from to (omega (arith, q.origins_room, q.few)) in
        record {
          long = p.long;
          each = λ xs few inside e.
              let r = p.each xs few inside e in
              let none : drop (k - from) is ≡ [] = drop_of_length-le is {i = k - from} (omega (arith, il)) in
              r.held ∙ ap entry_bytes (rw none at r.left);
        }
