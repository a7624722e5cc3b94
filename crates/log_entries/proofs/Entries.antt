-- The entries of a log after one more is noted, the last is dropped, all are dropped; and the log that holds a book with them. Assumes nothing.
use Rattle.base.specs.Basics.{◌≡◌, refl, sym, ap, ap₂, ◌∙◌, List, [], ◌∷◌, ◌++◌, ℕ, zero, suc, ◌+◌, ◌-◌, ◌*◌, ◌≤◌, ◌<◌, arith, length, get_or, take}
use Rattle.base.specs.Basics.{drop, replicate, length-replicate, replicate-append-replicate, drop-drop, length-sets, sets}
use borrow.Rule.Slice.PartMut.{put_mid}
use Rattle.fields.proofs.Sets.{drop-sets-add, length_part, part_sets}
use Rattle.fields.specs.Field.{to_bytes}
use Rattle.fields.specs.Layout.{bytes_of_records}
use Rattle.laws_sales.specs.Parts.{part}
use Rattle.log_format.proofs.Padded.{drop-padded, sets-padded, sets_zeros, take-replicate}
use Rattle.log_format.proofs.Parts.{EntryFits, length_cuts, length_entries, length_entry}
use Rattle.log_format.specs.Log.{cut_bytes, entries_at, entries_bytes, entry_at, entry_bytes, entry_size, held_room, log_bytes, log_head, padded}
use Rattle.log_entries.specs.Entries.{EntriesIn, Noted, NotedAt, cleared, entered, sealed}

-- ---- an entry without a cut

cut_none : (n : ℕ) → to_bytes 4 0 ++ replicate n 0 ≡ replicate (4 + n) 0
unfolding to_bytes
cut_none n = replicate-append-replicate 4 n 0

cuts_none : (m : ℕ) → cut_bytes (replicate m 0) ≡ replicate (4 * m) 0
unfolding cut_bytes bytes_of_records
cuts_none zero = refl
cuts_none (suc m) =
    let n : 4 + 4 * m ≡ 4 * suc m = omega arith in
    ap (λ (x : List ℕ). to_bytes 4 0 ++ x) (cuts_none m) ∙ cut_none (4 * m) ∙ ap (λ (k : ℕ). replicate k 0) n

-- its bytes are 0, as many as it has
entry_none : (m n : ℕ) → m ≤ 256 → n ≡ 1024 → entry_bytes (replicate m 0) ≡ replicate n 0
unfolding entry_bytes padded
entry_none m n h e =
    let long : length (cut_bytes (replicate m 0)) ≡ 4 * m = length_cuts (replicate m 0) ∙ ap (λ (k : ℕ). 4 * k) (length-replicate m 0) in
    let all : 4 * m + (1024 - length (cut_bytes (replicate m 0))) ≡ n = omega (arith, long) in
    ap (λ (x : List ℕ). x ++ replicate (1024 - length (cut_bytes (replicate m 0))) 0) (cuts_none m)
    ∙ replicate-append-replicate (4 * m) (1024 - length (cut_bytes (replicate m 0))) 0
    ∙ ap (λ (k : ℕ). replicate k 0) all

-- a part of the zeros behind entries
zeros_behind : (room k n : ℕ) (x : List ℕ) → length x ≡ k → k + n ≤ room → take n (drop k (padded room x)) ≡ replicate n 0
zeros_behind room k n x e h = ap (take n) (drop-padded room k x e) ∙ take-replicate n (room - k) (omega arith)

-- ---- what the functions leave

pub noted_at : (l vs origins cuts : List ℕ) (place from to at : ℕ) → at ≡ entry_at place → at + 1024 ≤ length l
    → Noted origins cuts from to (take ((at + 1024) - at) (drop at l)) vs → NotedAt place origins cuts from to l (put_mid at ((at + 1024) - at) l vs)
noted_at l vs origins cuts place from to at e h n =
    let k : (at + 1024) - at ≡ 1024 = omega arith in
    let part_is : take ((at + 1024) - at) (drop at l) ≡ take 1024 (drop (entry_at place) l) = ap₂ (λ (i j : ℕ). take i (drop j l)) k e in
    let long : length vs ≡ (at + 1024) - at = n.long ∙ length_part l at ((at + 1024) - at) (omega arith) in
    record {
      entry = vs;
      noted = rw part_is at n;
      bytes = part_sets l vs at ((at + 1024) - at) long (omega arith) ∙ ap (λ (i : ℕ). sets l i vs) e;
    }

-- ---- the entries of a log

module _ {m : ℕ} (few : m ≤ 256) where
  -- where the entries end
  entries_end : {es : List (List ℕ)} {l : List ℕ} → EntriesIn m es l → length (entries_bytes es) ≡ 1024 * length es
  entries_end {es} p = length_entries few es p.fit

  -- what stands in the first entry that is not used
  unused_none : {es : List (List ℕ)} {l : List ℕ} → EntriesIn m es l → length es < 256 → (n : ℕ) → n ≡ 1024 → take n (drop (entry_at (length es)) l) ≡ entry_bytes (replicate m 0)
  unfolding entry_at
  unused_none {es} {l} p h n e =
      ap (take n) (sym (drop-drop (1024 * length es) 9524 l) ∙ ap (drop (1024 * length es)) p.bytes)
      ∙ zeros_behind 262144 (1024 * length es) n (entries_bytes es) (entries_end p) (omega arith)
      ∙ sym (entry_none m n few e)

  -- one more
  module _ {es : List (List ℕ)} {l l' origins cuts : List ℕ} {from to : ℕ} (p : EntriesIn m es l) (h : length es < 256) where
    pub entry_noted : NotedAt (length es) origins cuts from to l l' → ((k : ℕ) → k < length (part from to origins) → get_or (part from to origins) k 0 < m)
        → (cs : List ℕ) → entered (part from to origins) (part from to cuts) (replicate m 0) ≡ cs → EntryFits m cs → EntriesIn m (cs ∷ es) l'
    unfolding entries_bytes entry_at
    entry_noted n inside cs e f =
        let long = length-replicate {A = ℕ} m 0 in
        let is_entry : n.entry ≡ entry_bytes cs
        = n.noted.each (replicate m 0) (omega (arith, long)) (λ k j. omega (arith, inside k j, long)) (unused_none p h 1024 refl) ∙ ap entry_bytes e in
        let at : 1024 * length es ≡ length (entries_bytes es) = sym (entries_end p) in
        let room : length (entries_bytes es) + length (entry_bytes cs) ≤ 262144 = omega (arith, length_entry few cs f.0) in
        record {
          size = ap length n.bytes ∙ length-sets l (9524 + 1024 * length es) n.entry ∙ p.size;
          fit = (f, p.fit);
          bytes = ap (drop 9524) n.bytes ∙ drop-sets-add n.entry l 9524 (1024 * length es)
              ∙ ap₂ (λ (x y : List ℕ). sets x (1024 * length es) y) p.bytes is_entry
              ∙ ap (λ (k : ℕ). sets (padded 262144 (entries_bytes es)) k (entry_bytes cs)) at
              ∙ sets-padded 262144 (entries_bytes es) (entry_bytes cs) room;
        }

  -- the last dropped
  pub entry_dropped : {cs : List ℕ} {es : List (List ℕ)} {l l' : List ℕ} → EntriesIn m (cs ∷ es) l → length es < 256 → l' ≡ cleared (entry_at (length es)) entry_size l → EntriesIn m es l'
  unfolding entries_bytes entry_at
  entry_dropped {cs} {es} {l} p h e =
      let at : 1024 * length es ≡ length (entries_bytes es) = sym (length_entries few es p.fit.1) in
      let own = length_entry few cs p.fit.0.0 in
      let n : length (take 1024 (drop (9524 + 1024 * length es) l)) ≡ length (entry_bytes cs) = length_part l (9524 + 1024 * length es) 1024 (omega (arith, p.size)) ∙ sym own in
      let room : length (entries_bytes es) + length (entry_bytes cs) ≤ 262144 = omega (arith, own) in
      record {
        size = ap length e ∙ length-sets l (9524 + 1024 * length es) (replicate (length (take 1024 (drop (9524 + 1024 * length es) l))) 0) ∙ p.size;
        fit = p.fit.1;
        bytes = ap (drop 9524) e ∙ drop-sets-add (replicate (length (take 1024 (drop (9524 + 1024 * length es) l))) 0) l 9524 (1024 * length es)
            ∙ ap₂ (λ (x : List ℕ) (k : ℕ). sets x (1024 * length es) (replicate k 0)) p.bytes n
            ∙ ap (λ (k : ℕ). sets (padded 262144 (entries_bytes es ++ entry_bytes cs)) k (replicate (length (entry_bytes cs)) 0)) at
            ∙ sets_zeros 262144 (entries_bytes es) (entry_bytes cs) room;
      }

  -- all dropped
  pub entries_dropped : {es : List (List ℕ)} {l l' : List ℕ} → EntriesIn m es l → length es ≤ 256 → l' ≡ cleared entries_at (entry_size * length es) l → EntriesIn m [] l'
  unfolding entries_bytes
  entries_dropped {es} {l} p h e =
      let own = entries_end p in
      let n : length (take (1024 * length es) (drop 9524 l)) ≡ length (entries_bytes es) = length_part l 9524 (1024 * length es) (omega (arith, p.size)) ∙ sym own in
      record {
        size = ap length e ∙ length-sets l 9524 (replicate (length (take (1024 * length es) (drop 9524 l))) 0) ∙ p.size;
        fit = tt;
        bytes = ap (drop 9524) e ∙ drop-sets-add (replicate (length (take (1024 * length es) (drop 9524 l))) 0) l 9524 0
            ∙ ap₂ (λ (x : List ℕ) (k : ℕ). sets x 0 (replicate k 0)) p.bytes n
            ∙ sets_zeros 262144 [] (entries_bytes es) (omega (arith, own));
      }

-- ---- the log with the book that it holds

pub log_sealed : {m : ℕ} {es : List (List ℕ)} {l l' : List ℕ} {count : ℕ} (s : List ℕ) → EntriesIn m es l → count ≡ length es → l' ≡ sealed count s l → l' ≡ log_bytes es s
unfolding log_bytes
log_sealed s p e k =
    k ∙ ap₂ (λ (n : ℕ) (x : List ℕ). log_head n (length s) ++ (padded held_room s ++ x)) e p.bytes
