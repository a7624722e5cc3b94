-- A log that passes question 19 is the log of its entries and its book, part by part: what the writers start from. And what its entries and cuts are, one by one. Assumes nothing.
use Rattle.base.specs.Basics.{◌≡◌, refl, sym, ap, ap₂, subst, ◌∙◌, List, [], ◌∷◌, ◌++◌, ℕ, zero, suc, ◌+◌, ◌-◌, ◌*◌, ◌≤◌, ◌<◌, arith, T, eqb, eqb→eq, leb}
use Rattle.base.specs.Basics.{leb→le, ltb, length, take, drop, length-drop, length-replicate, drop-drop, length-take-le, take-add, take_all, take-take}
use Rattle.base.proofs.Tests.{and_l, and_r}
use Rattle.laws.proofs.Cuts.{length-together}
use Rattle.fields.proofs.Field.{all_bytes_drop, all_bytes_take, field_lt, to_bytes_field}
use Rattle.fields.proofs.{Records.bytes_of_records-records_of, Records.length-records_of, Records.mul-suc_front, Sets.take_of_drop}
use Rattle.fields.specs.{Field.AllBytes, Field.field, Field.to_bytes, Layout.Every, Layout.EveryPart, Layout.bytes_of_records, Layout.records_of}
use Rattle.rules.specs.{Book.Trade}
use Rattle.book_format.specs.Book.{count_of_trades, trades_of}
use Rattle.log_format.proofs.{Padded.padded_of, Parts.EntryFits, Parts.Headed, Parts.head_made, Raises.raises_first}
use Rattle.log_format.specs.Fits.{LogOf, all_cuts, cuts_rest, entries_rest, held_rest, log_holds_book, log_fits, log_is_formed, raises_within, rests_zero, same_bytes}
use Rattle.log_format.specs.Fits.{unused_zero, zeros}
use Rattle.log_format.specs.Log.{cut_bytes, cut_size, cuts_at, entries_at, entries_bytes, entries_in, entries_of, entry_at, entry_bytes, count_of_entries, entry_size}
use Rattle.log_format.specs.Log.{held_at, held_length, held_of, held_room, log_mark, log_mark_of, log_size, log_zero, most_entries, padded}
use Rattle.log_format.specs.Noted.{last_entry}

-- ---- entries and cuts, one by one

length_cuts_at : (m : ℕ) (l : List ℕ) (place : ℕ) → length (cuts_at m l place) ≡ m
unfolding cuts_at
length_cuts_at m l place = length-records_of cut_size (field cut_size 0) m (drop (entry_at place) l)

pub length_entries_in : (m n : ℕ) (l : List ℕ) → length (entries_in m n l) ≡ n
unfolding entries_in
length_entries_in m zero l = refl
length_entries_in m (suc n) l = ap suc (length_entries_in m n l)

cuts_small : (k : ℕ) (s : List ℕ) → AllBytes s → Every (λ c. c < 4294967296) (records_of cut_size (field cut_size 0) k s)
unfolding records_of
cuts_small zero s c = tt
cuts_small (suc k) s c = (field_lt 4 0 (take cut_size s) (all_bytes_take cut_size s c), cuts_small k (drop cut_size s) (all_bytes_drop cut_size s c))

module _ (m : ℕ) (l : List ℕ) where
  pub length_all_cuts : (n : ℕ) → length (all_cuts m (entries_in m n l)) ≡ m
  unfolding all_cuts entries_in
  length_all_cuts zero = length-replicate m 0
  length_all_cuts (suc n) =
      length-together (cuts_at m l n) (all_cuts m (entries_in m n l)) (length_all_cuts n ∙ sym (length_cuts_at m l n)) ∙ length_cuts_at m l n

  -- each entry has a cut of 32 bits for each trade
  pub entries_fit : AllBytes l → (n : ℕ) → Every (EntryFits m) (entries_in m n l)
  unfolding entries_in cuts_at
  entries_fit b zero = tt
  entries_fit b (suc n) = ((length_cuts_at m l n, cuts_small m (drop (entry_at n) l) (all_bytes_drop (entry_at n) l b)), entries_fit b n)

-- ---- the bytes of the entries

-- where an entry begins
begins : (l : List ℕ) (i : ℕ) → drop (entries_at + entry_size * i) l ≡ drop (entry_at i) l
unfolding entry_at
begins l i = refl

-- what holds of bytes of one length holds of each part
parts_hold : (Q : List ℕ → Type 0) (len n : ℕ) (s : List ℕ) → ((c : List ℕ) → length c ≡ len → AllBytes c → Q c) → len * n ≤ length s → AllBytes s → EveryPart Q len n s
parts_hold Q len zero s f l b = tt
parts_hold Q len (suc n) s f l b =
    let k : len * n ≤ length (drop len s) = rw length-drop (omega (arith, mul-suc_front len n)) in
    let e : length (take len s) ≡ len = length-take-le len s (omega (arith, mul-suc_front len n)) in
    (f (take len s) e (all_bytes_take len s b), parts_hold Q len n (drop len s) f k (all_bytes_drop len s b))

-- a cut read and written again
cut_written : (c : List ℕ) → length c ≡ 4 → AllBytes c → to_bytes 4 (field 4 0 c) ≡ c
cut_written c e b = to_bytes_field 4 0 c (omega arith) b ∙ take_all 4 c (omega arith)

module _ {m : ℕ} (k : m ≤ 256) (l : List ℕ) (b : AllBytes l) (size : length l ≡ 271668) where
  -- an entry and its zeros are its cuts, padded
  entry_written : (n : ℕ) → n < 256 → T (zeros (cuts_rest m l n)) → take entry_size (drop (entry_at n) l) ≡ entry_bytes (cuts_at m l n)
  unfolding entry_bytes cut_bytes cuts_at cuts_rest entry_at
  entry_written n h z =
      let d = drop (entries_at + entry_size * n) l in
      let w = take entry_size d in
      let long : 1024 ≤ length d = rw (length-drop, size) (omega arith) in
      let e : length w ≡ 1024 = length-take-le entry_size d long in
      let j : cut_size * m + (entry_size - cut_size * m) ≡ entry_size = omega arith in
      let rest : drop (cut_size * m) w ≡ take (entry_size - cut_size * m) (drop (entries_at + entry_size * n + cut_size * m) l)
      = sym (take_of_drop (cut_size * m) (entry_size - cut_size * m) d ∙ ap (λ (i : ℕ). drop (cut_size * m) (take i d)) j) ∙ ap (take (entry_size - cut_size * m)) (drop-drop (cut_size * m) (entries_at + entry_size * n) l) in
      let cuts : bytes_of_records (to_bytes cut_size) (records_of cut_size (field cut_size 0) m d) ≡ take (cut_size * m) d
      = bytes_of_records-records_of 4 (field 4 0) (to_bytes 4) m d (parts_hold (λ c. to_bytes 4 (field 4 0 c) ≡ c) 4 m d cut_written (omega arith) (all_bytes_drop (entries_at + entry_size * n) l b)) in
      padded_of (cut_size * m) w (omega arith) (subst (λ (c : List ℕ). T (zeros c)) (sym rest) z)
      ∙ ap₂ padded e (take-take (cut_size * m) entry_size d (omega arith) ∙ sym cuts)

  entries_written : (n : ℕ) → n ≤ 256 → T (rests_zero m n l) → take (entry_size * n) (drop entries_at l) ≡ entries_bytes (entries_in m n l)
  unfolding entries_bytes entries_in rests_zero
  entries_written zero h z = refl
  entries_written (suc n) h z =
      let e : entry_size * suc n ≡ entry_size * n + entry_size = omega arith in
      ap (λ (i : ℕ). take i (drop entries_at l)) e
      ∙ take-add (entry_size * n) entry_size (drop entries_at l)
      ∙ ap₂ (λ (x y : List ℕ). x ++ y) (entries_written n (omega arith) (and_r (zeros (cuts_rest m l n)) (rests_zero m n l) z))
      (ap (take entry_size) (drop-drop (entry_size * n) entries_at l ∙ begins l n) ∙ entry_written n (omega arith) (and_l (zeros (cuts_rest m l n)) (rests_zero m n l) z))

-- ---- the whole log

same_is : (x y : List ℕ) → T (same_bytes x y) → x ≡ y
unfolding same_bytes
same_is [] [] h = refl
same_is [] (b ∷ y) h = absurd h
same_is (a ∷ x) [] h = absurd h
same_is (a ∷ x) (b ∷ y) h =
    ap₂ (λ (c : ℕ) (z : List ℕ). c ∷ z) (eqb→eq a b (and_l (eqb a b) (same_bytes x y) h)) (same_is x y (and_r (eqb a b) (same_bytes x y) h))

-- what question 19 tells
pub record FitLog (l s : List ℕ) : Type 0 where
  pub size : length l ≡ 271668
  pub headed : Headed (count_of_entries l) (length s) l
  pub count : count_of_entries l ≤ 256
  pub held : held_of l ≡ s
  pub room : length s ≤ 9512
  pub rest : T (zeros (held_rest l))
  pub rests : T (rests_zero (count_of_trades s) (count_of_entries l) l)
  pub unused : T (zeros (entries_rest l))
  pub within : T (raises_within (all_cuts (count_of_trades s) (entries_of s l)) (trades_of s))

pub fits_facts : (l s : List ℕ) → T (log_fits l s) → FitLog l s
unfolding log_fits log_is_formed log_holds_book unused_zero
fits_facts l s h =
    let size : T (eqb (length l) log_size) = search (and_l, and_r) in
    let mark : T (eqb (log_mark_of l) log_mark) = search (and_l, and_r) in
    let zero : T (eqb (log_zero l) 0) = search (and_l, and_r) in
    let count : T (leb (count_of_entries l) most_entries) = search (and_l, and_r) in
    let room : T (leb (held_length l) held_room) = search (and_l, and_r) in
    let held : T (eqb (held_length l) (length s)) = search (and_l, and_r) in
    let same : T (same_bytes (held_of l) s) = search (and_l, and_r) in
    let e = eqb→eq (held_length l) (length s) held in
    record {
      size = eqb→eq (length l) log_size size;
      headed = record { mark = eqb→eq (log_mark_of l) log_mark mark; zero = eqb→eq (log_zero l) 0 zero; count = refl; held = e };
      count = leb→le (count_of_entries l) most_entries count;
      held = same_is (held_of l) s same;
      room = subst (λ (n : ℕ). n ≤ 9512) e (leb→le (held_length l) held_room room);
      rest = search (and_l, and_r);
      rests = search (and_l, and_r);
      unused = search (and_l, and_r);
      within = search (and_l, and_r);
    }

-- a log that passes is the log of its entries and the book
pub fits_logged : {l s : List ℕ} → AllBytes l → count_of_trades s ≤ 256 → T (log_fits l s) → LogOf (entries_of s l) s l
unfolding entries_of held_of held_rest entries_rest
fits_logged {l} {s} b k h =
    let f = fits_facts l s h in
    let n = length s in
    let x = drop held_at l in
    let y = take held_room x in
    let z = drop entries_at l in
    let c = entry_size * count_of_entries l in
    let ylong : length y ≡ 9512 = length-take-le held_room x (rw (length-drop, f.size) (omega arith)) in
    let zlong : length z ≡ 262144 = rw (length-drop, f.size) in
    let e : n + (held_room - n) ≡ held_room = omega (arith, f.room) in
    let rest : drop n y ≡ take (held_room - held_length l) (drop (held_at + held_length l) l)
    = sym (take_of_drop n (held_room - n) x ∙ ap (λ (i : ℕ). drop n (take i x)) e)
    ∙ ap (take (held_room - n)) (drop-drop n held_at l)
    ∙ ap (λ (i : ℕ). take (held_room - i) (drop (held_at + i) l)) (sym f.headed.held) in
    let book : take n y ≡ s = take-take n held_room x f.room ∙ ap (λ (i : ℕ). take i x) (sym f.headed.held) ∙ f.held in
    let last : drop c z ≡ drop (entry_at (count_of_entries l)) l = drop-drop c entries_at l ∙ begins l (count_of_entries l) in
    record {
      head = head_made b (rw f.size (omega arith)) (record { mark = f.headed.mark; zero = f.headed.zero; count = sym (length_entries_in (count_of_trades s) (count_of_entries l) l); held = f.headed.held });
      held = padded_of n y (omega (arith, f.room)) (subst (λ (v : List ℕ). T (zeros v)) (sym rest) f.rest) ∙ ap₂ padded ylong book;
      entries = padded_of c z (omega (arith, f.count)) (subst (λ (v : List ℕ). T (zeros v)) (sym last) f.unused) ∙ ap₂ padded zlong (entries_written k l b f.size (count_of_entries l) f.count f.rests);
    }

-- ---- the last entry

-- where all entries fit a book's trades, the last one can be withdrawn
pub last_within : (m n : ℕ) (l : List ℕ) (ts : List Trade) → T (ltb 0 (length (entries_in m n l))) → T (raises_within (all_cuts m (entries_in m n l)) ts) → T (raises_within (last_entry (entries_in m n l)) ts)
unfolding entries_in last_entry all_cuts
last_within m zero l ts k h = absurd k
last_within m (suc n) l ts k h =
    raises_first (cuts_at m l n) (all_cuts m (entries_in m n l)) ts (length_all_cuts m l n ∙ sym (length_cuts_at m l n)) h
