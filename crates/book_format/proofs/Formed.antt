-- What the questions 1 to 3 tell of bytes: the mark, the version, the counts and the length. Assumes nothing.
use Rattle.base.specs.Basics.{◌≡◌, sym, some, List, ◌≤◌, ℕ, T, eqb, eqb→eq, leb, leb→le, length}
use Rattle.book_format.specs.Book.{mark, length_by, length_of, mark_of, count_of_trades, trades_at, place_of_user, count_of_users}
use Rattle.book_format.specs.Questions.{about_bytes, about_fields, about_form, book_number, form_number_of, marked, sized, versioned, Formed}
use Rattle.laws.proofs.Refusals.{after_nonzero, first_yes, refusal-append, refusal_next}
use Rattle.base.proofs.Tests.{and_l, and_r}
use Rattle.rules.specs.Questions.{refusal}

pub marked_head : (s : List ℕ) → T (marked s) → 32 ≤ length s
unfolding marked
marked_head s t = leb→le 32 (length s) (and_l (leb 32 (length s)) (eqb (mark_of s) mark) t)

pub formed_of : (s : List ℕ) → refusal (about_form s) ≡ 0 → Formed s
unfolding about_form marked versioned sized length_of length_by trades_at place_of_user
formed_of s h =
    let q1 = first_yes _ _ h tt in
    let q2 = first_yes _ _ q1.1 tt in
    let q3 = first_yes _ _ q2.1 tt in
    let t1 = q1.0 in
    let t2 = q2.0 in
    let t3 = q3.0 in
    record {
      head = marked_head s q1.0;
      mark = eqb→eq (mark_of s) mark (search (and_l, and_r));
      version = t2;
      some = leb→le 1 (count_of_users s) (search (and_l, and_r));
      users = leb→le (count_of_users s) 64 (search (and_l, and_r));
      trades = leb→le (count_of_trades s) 256 (search (and_l, and_r));
      whole = eqb→eq (length s) (length_of s) (search (and_l, and_r));
    }

-- ---- the numbers

pub formed : (s : List ℕ) → form_number_of s ≡ 0 → Formed s
unfolding form_number_of
formed s h = formed_of s h

-- where the form is refused, so is the book
pub form_refused : (s : List ℕ) (n : ℕ) → n ≡ form_number_of s → (n ≡ 0 → ⊥) → n ≡ book_number s
unfolding form_number_of book_number about_bytes
form_refused s n e h = rw (refusal-append (about_form s) (about_fields s), ← e) (sym (after_nonzero (λ k. k) (refusal (about_fields s)) h))

-- where it is not, the fields are asked
pub form_passed : (s : List ℕ) → form_number_of s ≡ 0 → book_number s ≡ refusal (about_fields s)
unfolding form_number_of book_number about_bytes
form_passed s h = refusal_next (about_form s) (about_fields s) h

-- the book as a whole
pub book_passed : (s : List ℕ) → book_number s ≡ 0 → refusal (about_bytes s) ≡ 0
unfolding book_number
book_passed s h = h
