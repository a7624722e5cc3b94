-- A log that is written reads back: its entries are those that were written, it passes question 19 for the book that it holds, and so do the logs that calls leave. Assumes nothing.
use Rattle.base.specs.Basics.{◌≡◌, refl, sym, ap, ap₂, subst, ◌∙◌, ◌&&◌, List, [], ◌∷◌, ◌++◌, append_assoc, ℕ, ◌+◌, ◌-◌, ◌*◌, ◌≤◌, ◌<◌, arith, T, eqb, eqb_refl}
use Rattle.base.specs.Basics.{leb, le→leb, length, take, drop, replicate, length-replicate, drop_at, drop-drop, take_all, take_at}
use Rattle.base.proofs.Tests.{and_i, eqb_of}
use Rattle.fields.proofs.{Field.from_bytes_to_bytes, Field.length_to_bytes, Records.records_of-bytes_of_records, Sets.take_of_drop}
use Rattle.fields.specs.{Field.field, Field.from_bytes, Field.to_bytes, Layout.Every, Layout.bytes_of_records, Layout.records_of}
use Rattle.book_format.specs.Book.{count_of_trades, trades_of}
use Rattle.log_format.proofs.Padded.{drop-padded, zeros-replicate}
use Rattle.log_format.proofs.Parts.{EntryFits, length_cuts, length_entries, logged_head, logged_held, logged_length}
use Rattle.log_format.specs.Fits.{LogOf, all_cuts, cuts_rest, entries_rest, held_rest, log_holds_book, log_fits, log_is_formed, raises_within, rests_zero, same_bytes}
use Rattle.log_format.specs.Fits.{unused_zero, zeros}
use Rattle.log_format.specs.Log.{cut_bytes, cut_size, cuts_at, entries_at, entries_bytes, entries_in, entries_of, entries_room, entry_at, entry_bytes, count_of_entries}
use Rattle.log_format.specs.Log.{entry_size, held_at, held_length, held_of, held_room, log_mark, log_mark_of, log_size, log_zero, most_entries, padded}

-- ---- one entry

-- a cut written and read again
cut_read : (c : ℕ) → c < 4294967296 → (field 4 0 (to_bytes 4 c) ≡ c) × (length (to_bytes 4 c) ≡ 4)
unfolding field
cut_read c h =
    (ap from_bytes (take_all 4 (to_bytes 4 c) (omega (arith, length_to_bytes 4 c))) ∙ from_bytes_to_bytes 4 c h, length_to_bytes 4 c)

cuts_read : (cs : List ℕ) → Every (λ c. c < 4294967296) cs → Every (λ c. (field 4 0 (to_bytes 4 c) ≡ c) × (length (to_bytes 4 c) ≡ 4)) cs
cuts_read [] f = tt
cuts_read (c ∷ cs) f = (cut_read c f.0, cuts_read cs f.1)

module _ {m : ℕ} (k : m ≤ 256) where
  -- an entry's cuts, read from bytes that begin with it
  entry_cuts : (cs q : List ℕ) → EntryFits m cs → records_of cut_size (field cut_size 0) m (entry_bytes cs ++ q) ≡ cs
  unfolding entry_bytes padded cut_bytes
  entry_cuts cs q f =
      let z : List ℕ = replicate (entry_size - length (bytes_of_records (to_bytes cut_size) cs)) 0 in
      ap (λ (n : ℕ). records_of cut_size (field cut_size 0) n ((bytes_of_records (to_bytes cut_size) cs ++ z) ++ q)) (sym f.0)
      ∙ ap (records_of cut_size (field cut_size 0) (length cs)) (append_assoc (bytes_of_records (to_bytes cut_size) cs) z q)
      ∙ records_of-bytes_of_records 4 (field 4 0) (to_bytes 4) cs (z ++ q) (cuts_read cs f.1)

  -- and the zeros behind them
  entry_rest : (cs q : List ℕ) → EntryFits m cs → take (entry_size - cut_size * m) (drop (cut_size * m) (entry_bytes cs ++ q)) ≡ replicate (entry_size - cut_size * m) 0
  unfolding entry_bytes padded
  entry_rest cs q f =
      let x = cut_bytes cs in
      let z : List ℕ = replicate (entry_size - length x) 0 in
      let n : length x ≡ cut_size * m = length_cuts cs ∙ ap (λ (j : ℕ). cut_size * j) f.0 in
      let o : length z ≡ entry_size - cut_size * m = length-replicate (entry_size - length x) 0 ∙ ap (λ (j : ℕ). entry_size - j) n in
      ap (λ (y : List ℕ). take (entry_size - cut_size * m) (drop (cut_size * m) y)) (append_assoc x z q)
      ∙ ap (take (entry_size - cut_size * m)) (drop_at x (z ++ q) (cut_size * m) n)
      ∙ take_at z q (entry_size - cut_size * m) o
      ∙ ap (λ (j : ℕ). replicate (entry_size - j) 0) n

  -- ---- all entries

  -- bytes behind the held book's room that begin with entries
  module _ (l : List ℕ) where
    -- where the entry behind the others begins
    entry_begins : (cs : List ℕ) (es : List (List ℕ)) (q : List ℕ) → Every (EntryFits m) es → drop entries_at l ≡ entries_bytes (cs ∷ es) ++ q → drop (entry_at (length es)) l ≡ entry_bytes cs ++ q
    unfolding entry_at entries_bytes
    entry_begins cs es q f e =
        sym (drop-drop (entry_size * length es) entries_at l)
        ∙ ap (drop (entry_size * length es)) (e ∙ append_assoc (entries_bytes es) (entry_bytes cs) q)
        ∙ drop_at (entries_bytes es) (entry_bytes cs ++ q) (entry_size * length es) (length_entries k es f)

    pub entries_read : (es : List (List ℕ)) (q : List ℕ) → Every (EntryFits m) es → drop entries_at l ≡ entries_bytes es ++ q → entries_in m (length es) l ≡ es
    unfolding entries_in cuts_at entries_bytes
    entries_read [] q f e = refl
    entries_read (cs ∷ es) q f e =
        ap₂ (λ (x : List ℕ) (xs : List (List ℕ)). x ∷ xs)
        (ap (records_of cut_size (field cut_size 0) m) (entry_begins cs es q f.1 e) ∙ entry_cuts cs q f.0)
        (entries_read es (entry_bytes cs ++ q) f.1 (e ∙ append_assoc (entries_bytes es) (entry_bytes cs) q))

    pub rests_read : (es : List (List ℕ)) (q : List ℕ) → Every (EntryFits m) es → drop entries_at l ≡ entries_bytes es ++ q → T (rests_zero m (length es) l)
    unfolding rests_zero cuts_rest entries_bytes
    rests_read [] q f e = tt
    rests_read (cs ∷ es) q f e =
        let r : take (entry_size - cut_size * m) (drop (entry_at (length es) + cut_size * m) l) ≡ replicate (entry_size - cut_size * m) 0
        = ap (take (entry_size - cut_size * m)) (sym (drop-drop (cut_size * m) (entry_at (length es)) l) ∙ ap (drop (cut_size * m)) (entry_begins cs es q f.1 e))
        ∙ entry_rest cs q f.0 in
        and_i (zeros (take (entry_size - cut_size * m) (drop (entry_at (length es) + cut_size * m) l))) (rests_zero m (length es) l)
        (subst (λ (c : List ℕ). T (zeros c)) (sym r) (zeros-replicate (entry_size - cut_size * m)))
        (rests_read es (entry_bytes cs ++ q) f.1 (e ∙ append_assoc (entries_bytes es) (entry_bytes cs) q))

-- ---- the whole log

same_refl : (s : List ℕ) → T (same_bytes s s)
unfolding same_bytes
same_refl [] = tt
same_refl (x ∷ s) = and_i (eqb x x) (same_bytes s s) (eqb_refl x) (same_refl s)

-- what a log has to be to read back: a book that fits, as many entries as there is room for, each with a cut for each trade
pub record Writable (es : List (List ℕ)) (s : List ℕ) : Type 0 where
  pub size : length s ≤ 9512
  pub count : length es ≤ 256
  pub trades : count_of_trades s ≤ 256
  pub entries : Every (EntryFits (count_of_trades s)) es
  pub within : T (raises_within (all_cuts (count_of_trades s) es) (trades_of s))

module _ {es : List (List ℕ)} {s l : List ℕ} (w : Writable es s) (p : LogOf es s l) where
  entries_size : length (entries_bytes es) ≡ 1024 * length es
  entries_size = length_entries w.trades es w.entries

  begins : drop entries_at l ≡ entries_bytes es ++ replicate (entries_room - length (entries_bytes es)) 0
  unfolding padded
  begins = p.entries

  -- its entries
  pub logged_entries : entries_of s l ≡ es
  unfolding entries_of
  logged_entries =
      ap (λ (n : ℕ). entries_in (count_of_trades s) n l) (logged_head w.size w.count p).count
      ∙ entries_read w.trades l es (replicate (entries_room - length (entries_bytes es)) 0) w.entries begins

  formed : T (log_is_formed l)
  unfolding log_is_formed
  formed =
      let h = logged_head w.size w.count p in
      let n = logged_length w.size (omega (arith, entries_size, w.count)) p in
      and_i (eqb (length l) log_size) ((eqb (log_mark_of l) log_mark && eqb (log_zero l) 0) && (leb (count_of_entries l) most_entries && leb (held_length l) held_room)) (eqb_of (length l) log_size n)
      (and_i (eqb (log_mark_of l) log_mark && eqb (log_zero l) 0) (leb (count_of_entries l) most_entries && leb (held_length l) held_room)
      (and_i (eqb (log_mark_of l) log_mark) (eqb (log_zero l) 0) (eqb_of (log_mark_of l) log_mark h.mark) (eqb_of (log_zero l) 0 h.zero))
      (and_i (leb (count_of_entries l) most_entries) (leb (held_length l) held_room) (le→leb (count_of_entries l) most_entries (rw h.count w.count)) (le→leb (held_length l) held_room (rw h.held w.size))))

  holds_book_lem : T (log_holds_book l s)
  unfolding log_holds_book
  holds_book_lem =
      and_i (eqb (held_length l) (length s)) (same_bytes (held_of l) s) (eqb_of (held_length l) (length s) (logged_head w.size w.count p).held)
      (subst (λ (c : List ℕ). T (same_bytes c s)) (sym (logged_held w.size w.count p)) (same_refl s))

  held_rest_lem : held_rest l ≡ replicate (held_room - length s) 0
  unfolding held_rest
  held_rest_lem =
      let n = length s in
      let e : n + (held_room - n) ≡ held_room = omega (arith, w.size) in
      ap (λ (j : ℕ). take (held_room - j) (drop (held_at + j) l)) (logged_head w.size w.count p).held
      ∙ ap (take (held_room - n)) (sym (drop-drop n held_at l))
      ∙ take_of_drop n (held_room - n) (drop held_at l)
      ∙ ap (λ (j : ℕ). drop n (take j (drop held_at l))) e
      ∙ ap (drop n) p.held
      ∙ drop-padded held_room n s refl

  entries_rest_lem : entries_rest l ≡ replicate (entries_room - entry_size * length es) 0
  unfolding entries_rest entry_at
  entries_rest_lem =
      ap (λ (n : ℕ). drop (entries_at + entry_size * n) l) (logged_head w.size w.count p).count
      ∙ sym (drop-drop (entry_size * length es) entries_at l)
      ∙ ap (drop (entry_size * length es)) p.entries
      ∙ drop-padded entries_room (entry_size * length es) (entries_bytes es) entries_size

  unused : T (unused_zero (count_of_trades s) l)
  unfolding unused_zero
  unused =
      and_i (zeros (held_rest l)) (rests_zero (count_of_trades s) (count_of_entries l) l && zeros (entries_rest l)) (subst (λ (c : List ℕ). T (zeros c)) (sym held_rest_lem) (zeros-replicate (held_room - length s)))
      (and_i (rests_zero (count_of_trades s) (count_of_entries l) l) (zeros (entries_rest l))
      (subst (λ (n : ℕ). T (rests_zero (count_of_trades s) n l)) (sym (logged_head w.size w.count p).count) (rests_read w.trades l es (replicate (entries_room - length (entries_bytes es)) 0) w.entries begins))
      (subst (λ (c : List ℕ). T (zeros c)) (sym entries_rest_lem) (zeros-replicate (entries_room - entry_size * length es))))

  -- it passes question 19 for the book that it holds
  pub logged_fits : T (log_fits l s)
  unfolding log_fits
  logged_fits =
      let sums = raises_within (all_cuts (count_of_trades s) (entries_of s l)) (trades_of s) in
      and_i (log_is_formed l) (log_holds_book l s && (unused_zero (count_of_trades s) l && sums)) formed
      (and_i (log_holds_book l s) (unused_zero (count_of_trades s) l && sums) holds_book_lem
      (and_i (unused_zero (count_of_trades s) l) sums unused
      (subst (λ (x : List (List ℕ)). T (raises_within (all_cuts (count_of_trades s) x) (trades_of s))) (sym logged_entries) w.within)))
