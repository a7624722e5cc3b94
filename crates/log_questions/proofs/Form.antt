-- What a log that has passed the first part of question 19 is like, and its parts as slices have them. Assumes nothing.
use Rattle.base.specs.Basics.{◌≡◌, sym, ap, ap₂, ◌∙◌, Bool, true, false, ◌&&◌, List, ℕ, ◌+◌, ◌-◌, ◌*◌, arith, eqb, eqb→eq, leb, leb→le, length, take, drop}
use Rattle.base.specs.Basics.{length-drop, take_all, eq-eqb, ne_eqb}
use Rattle.base.proofs.Tests.{and_l, and_r, holds}
use Rattle.log_format.specs.Log.{entry_at, count_of_entries, held_length, held_of, held_room, log_mark, log_mark_of, log_size, log_zero, most_entries}
use Rattle.log_format.specs.Fits.{cuts_rest, entries_rest, held_rest, log_holds_book, log_is_formed, same_bytes}
use Rattle.log_questions.specs.Form.{LogFormed}

pub formed_facts : (l : List ℕ) → log_is_formed l ≡ true → LogFormed l
unfolding log_is_formed
formed_facts l e =
    let size = eqb (length l) log_size in
    let mark = eqb (log_mark_of l) log_mark && eqb (log_zero l) 0 in
    let few = leb (count_of_entries l) most_entries in
    let fits = leb (held_length l) held_room in
    let counts = and_r mark (few && fits) (and_r size (mark && (few && fits)) (holds e)) in
    record {
      size = eqb→eq (length l) log_size (and_l size (mark && (few && fits)) (holds e));
      count = leb→le (count_of_entries l) most_entries (and_l few fits counts);
      held = leb→le (held_length l) held_room (and_r few fits counts);
    }

-- the held book, compared where its length is the given one's
pub held_same : (l s : List ℕ) (held : ℕ) {r : Bool} → held ≡ held_length l → held ≡ length s → r ≡ same_bytes (take ((12 + held) - 12) (drop 12 l)) s → r ≡ log_holds_book l s
unfolding log_holds_book held_of
held_same l s held e k h =
    let long : (12 + held) - 12 ≡ held_length l = omega arith in
    h ∙ rw (long, eq-eqb (held_length l) (length s) (sym e ∙ k))

-- where it has another length
pub held_apart : (l s : List ℕ) (held : ℕ) → held ≡ held_length l → (held ≡ length s → ⊥) → false ≡ log_holds_book l s
unfolding log_holds_book
held_apart l s held e h = rw (ne_eqb (held_length l) (length s) (λ k. h (e ∙ k)))

module _ {l : List ℕ} (f : LogFormed l) where
  -- the bytes behind the held book
  pub held_rest_lem : (held : ℕ) → held ≡ held_length l → take (9524 - (12 + held)) (drop (12 + held) l) ≡ held_rest l
  unfolding held_rest
  held_rest_lem held e =
      let long : 9524 - (12 + held) ≡ 9512 - held_length l = omega arith in
      ap₂ (λ (n : ℕ) (k : ℕ). take n (drop (12 + k) l)) long e

  -- those behind the last entry
  pub entries_rest_lem : (at : ℕ) → at ≡ entry_at (count_of_entries l) → take (length l - at) (drop at l) ≡ entries_rest l
  unfolding entries_rest
  entries_rest_lem at e = take_all (length l - at) (drop at l) (omega (arith, length-drop at l)) ∙ ap (λ (k : ℕ). drop k l) e

-- those behind the cuts of m trades in an entry
pub cuts_rest_lem : (m : ℕ) (l : List ℕ) (place at : ℕ) → at ≡ entry_at place → take ((at + 1024) - (at + 4 * m)) (drop (at + 4 * m) l) ≡ cuts_rest m l place
unfolding cuts_rest
cuts_rest_lem m l place at e =
    let long : (at + 1024) - (at + 4 * m) ≡ 1024 - 4 * m = omega arith in
    ap₂ (λ (n : ℕ) (k : ℕ). take n (drop (k + 4 * m) l)) long e
