-- A log part by part: its 12 first bytes, the held book with its zeros, the entries with theirs. The parts make the log, and the log has the parts. Assumes nothing.
use Rattle.base.specs.Basics.{◌≡◌, refl, sym, ap, ap₂, subst, ◌∙◌, List, [], ◌∷◌, ◌++◌, ℕ, zero, ◌*◌, ◌≤◌, ◌<◌, arith, length, get_or, take, drop, length-append}
use Rattle.base.specs.Basics.{take-append-drop, drop_at, drop-drop, take_at, take-take}
use Rattle.fields.proofs.{Field.length_to_bytes, Pack.fields_at_pack, Pack.length-pack, Pack.pack_fields_at, Records.length-bytes_of_records}
use Rattle.fields.specs.{Field.AllBytes, Field.to_bytes, Layout.Every, Layout.fields_at, Layout.pack, Layout.size}
use Rattle.log_format.proofs.Padded.{length-padded, take-padded}
use Rattle.log_format.specs.Fits.{LogOf}
use Rattle.log_format.specs.Log.{cut_bytes, entries_bytes, entries_room, entry_bytes, count_of_entries, held_at, held_length, held_of, held_room, log_bytes, log_head}
use Rattle.log_format.specs.Log.{log_mark, log_mark_of, log_zero, padded}

-- ---- the first 12 bytes

pub length_head : (count held : ℕ) → length (log_head count held) ≡ 12
unfolding log_head size
length_head count held = length-pack (3 ∷ 1 ∷ 4 ∷ 4 ∷ []) (log_mark ∷ 0 ∷ count ∷ held ∷ []) refl

-- bytes that begin with them
pub record Headed (n k : ℕ) (l : List ℕ) : Type 0 where
  pub mark : log_mark_of l ≡ log_mark
  pub zero : log_zero l ≡ 0
  pub count : count_of_entries l ≡ n
  pub held : held_length l ≡ k

pub head_read : (count held : ℕ) (q : List ℕ) → count < 4294967296 → held < 4294967296 → Headed count held (log_head count held ++ q)
unfolding log_head log_mark_of log_zero count_of_entries held_length fields_at log_mark
head_read count held q c h =
    let e : fields_at (3 ∷ 1 ∷ 4 ∷ 4 ∷ []) 0 (pack (3 ∷ 1 ∷ 4 ∷ 4 ∷ []) (log_mark ∷ 0 ∷ count ∷ held ∷ []) ++ q) ≡ log_mark ∷ 0 ∷ count ∷ held ∷ []
    = fields_at_pack (3 ∷ 1 ∷ 4 ∷ 4 ∷ []) (log_mark ∷ 0 ∷ count ∷ held ∷ []) [] q 0 refl (omega arith, (omega arith, (c, (h, tt)))) in
    record {
      mark = ap (λ (vs : List ℕ). get_or vs 0 0) e;
      zero = ap (λ (vs : List ℕ). get_or vs 1 0) e;
      count = ap (λ (vs : List ℕ). get_or vs 2 0) e;
      held = ap (λ (vs : List ℕ). get_or vs 3 0) e;
    }

-- and the other way round: what they hold makes them
pub head_made : {count held : ℕ} {l : List ℕ} → AllBytes l → 12 ≤ length l → Headed count held l → take held_at l ≡ log_head count held
unfolding log_head log_mark_of log_zero count_of_entries held_length fields_at size
head_made {count} {held} {l} b n d =
    sym (pack_fields_at (3 ∷ 1 ∷ 4 ∷ 4 ∷ []) 0 l n b)
    ∙ λ i. pack (3 ∷ 1 ∷ 4 ∷ 4 ∷ []) (d.mark i ∷ d.zero i ∷ d.count i ∷ d.held i ∷ [])

-- ---- entries

-- an entry: as many cuts as trades, each in 32 bits
abbrev pub EntryFits : ℕ → List ℕ → Type 0
EntryFits m cs = (length cs ≡ m) × Every (λ c. c < 4294967296) cs

pub length_cuts : (cs : List ℕ) → length (cut_bytes cs) ≡ 4 * length cs
unfolding cut_bytes
length_cuts cs = length-bytes_of_records (to_bytes 4) 4 (length_to_bytes 4) cs

module _ {m : ℕ} (k : m ≤ 256) where
  pub length_entry : (cs : List ℕ) → length cs ≡ m → length (entry_bytes cs) ≡ 1024
  unfolding entry_bytes
  length_entry cs e = length-padded 1024 (cut_bytes cs) (omega (arith, length_cuts cs))

  pub length_entries : (es : List (List ℕ)) → Every (EntryFits m) es → length (entries_bytes es) ≡ 1024 * length es
  unfolding entries_bytes
  length_entries [] f = refl
  length_entries (cs ∷ es) f = rw length-append (omega (arith, length_entry cs f.0.0, length_entries es f.1))

-- ---- the parts and the log

-- the parts make the log
pub logged_bytes : {es : List (List ℕ)} {s l : List ℕ} → LogOf es s l → l ≡ log_bytes es s
unfolding log_bytes
logged_bytes {es} {s} {l} p =
    sym (take-append-drop held_at l)
    ∙ ap₂ (λ (x y : List ℕ). x ++ y) p.head
    (sym (take-append-drop held_room (drop held_at l)) ∙ ap₂ (λ (x y : List ℕ). x ++ y) p.held (drop-drop held_room held_at l ∙ p.entries))

-- the log has the parts
pub bytes_logged : (es : List (List ℕ)) (s : List ℕ) → length s ≤ 9512 → LogOf es s (log_bytes es s)
unfolding log_bytes
bytes_logged es s h =
    let head = log_head (length es) (length s) in
    let rest = padded held_room s ++ padded entries_room (entries_bytes es) in
    let n = length_head (length es) (length s) in
    let d : drop held_at (head ++ rest) ≡ rest = drop_at head rest held_at n in
    let k = length-padded held_room s h in
    record {
      head = take_at head rest held_at n;
      held = ap (take held_room) d ∙ take_at (padded held_room s) (padded entries_room (entries_bytes es)) held_room k;
      entries = sym (drop-drop held_room held_at (head ++ rest)) ∙ ap (drop held_room) d ∙ drop_at (padded held_room s) (padded entries_room (entries_bytes es)) held_room k;
    }

-- its length, what its first bytes hold, the held book
module _ {es : List (List ℕ)} {s l : List ℕ} (h : length s ≤ 9512) (n : length (entries_bytes es) ≤ 262144) (p : LogOf es s l) where
  pub logged_length : length l ≡ 271668
  unfolding log_bytes
  logged_length =
      ap length (logged_bytes p)
      ∙ rw (length-append, length-append, length_head (length es) (length s), length-padded 9512 s h, length-padded 262144 (entries_bytes es) n)

module _ {es : List (List ℕ)} {s l : List ℕ} (h : length s ≤ 9512) (n : length es ≤ 256) (p : LogOf es s l) where
  pub logged_head : Headed (length es) (length s) l
  logged_head =
      subst (λ (x : List ℕ). Headed (length es) (length s) x) (ap (λ (x : List ℕ). x ++ drop held_at l) (sym p.head) ∙ take-append-drop held_at l)
      (head_read (length es) (length s) (drop held_at l) (omega arith) (omega arith))

  pub logged_held : held_of l ≡ s
  unfolding held_of
  logged_held =
      ap (λ (k : ℕ). take k (drop held_at l)) logged_head.held
      ∙ sym (take-take (length s) held_room (drop held_at l) h)
      ∙ ap (take (length s)) p.held
      ∙ take-padded held_room (length s) s refl
