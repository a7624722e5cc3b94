-- The form of an accepted book is accepted and yields that book, and bytes that are accepted are the form of the book that they yield. Assumes nothing.
use Rattle.base.specs.Basics.{◌≡◌, refl, sym, ap, ◌∙◌, Bool, true, false, ◌&&◌, List, [], ℕ, ◌<◌, ◌≤◌, arith, T, eqb, eqb→eq, leb, leb→le}
use Rattle.base.specs.Basics.{le→leb, length, lt-leb}
use Rattle.base.proofs.Tests.{and_i, and_l, and_r, eqb_of, holds}
use Rattle.rules.specs.Questions.{after, refusal}
use Rattle.laws.proofs.Refusals.{refusal_next, yes_first}
use Rattle.fields.specs.Field.{AllBytes}
use Rattle.book_format.specs.Book.{length_by, length_of, mark, mark_of, count_of_trades, trades_at, place_of_user, count_of_users}
use Rattle.book_format.specs.Questions.{Formed, about_bytes, book_number, sized, versioned}
use Rattle.book_format.proofs.Formed.{book_passed}
use Rattle.book_format.proofs.Passed.{passed}
use Rattle.outputs.specs.Output.{accepted, refused, written}
use Rattle.book_columns.specs.Form.{Laid, book_from, form_mark, form_of, rearranged, shaped, yields}
use Rattle.book_columns.specs.Calls.{about_form, about_room, restored, stored}
use Rattle.book_columns.specs.Statements.{FieldWise}
use Rattle.book_columns.proofs.Rearranged.{laid_rearranged, length_rearranged, new_mark_lem, rearranged-back}

-- ---- the tests as facts

true_of : (c : Bool) → T c → c ≡ true
true_of true h = refl
true_of false h = absurd h

-- a book's bytes, and a form's
pub formed_laid : {s : List ℕ} → Formed s → Laid s
formed_laid f =
    record { head = f.head; version = f.version; some = f.some; users = f.users; trades = f.trades; whole = f.whole }

pub shaped_mark : (f : List ℕ) → T (shaped f) → mark_of f ≡ form_mark
unfolding shaped
shaped_mark f h =
    let a = leb 32 (length f) in
    let b = eqb (mark_of f) form_mark in
    eqb→eq (mark_of f) form_mark (and_r a b (and_l (a && b) (versioned f && sized f) h))

pub shaped_laid : (f : List ℕ) → T (shaped f) → Laid f
unfolding shaped versioned sized length_of length_by trades_at place_of_user
shaped_laid f h =
    let marked = leb 32 (length f) && eqb (mark_of f) form_mark in
    let t1 = and_l marked (versioned f && sized f) h in
    let t2 = and_r marked (versioned f && sized f) h in
    let t3 = and_l (versioned f) (sized f) t2 in
    let t4 = and_r (versioned f) (sized f) t2 in
    record {
      head = leb→le 32 (length f) (and_l (leb 32 (length f)) (eqb (mark_of f) form_mark) t1);
      version = t3;
      some = leb→le 1 (count_of_users f) (search (and_l, and_r));
      users = leb→le (count_of_users f) 64 (search (and_l, and_r));
      trades = leb→le (count_of_trades f) 256 (search (and_l, and_r));
      whole = eqb→eq (length f) (length_of f) (search (and_l, and_r));
    }

pub laid_shaped : (f : List ℕ) → Laid f → mark_of f ≡ form_mark → T (shaped f)
unfolding shaped versioned sized length_of length_by trades_at place_of_user
laid_shaped f l m =
    let n = count_of_users f in
    let k = count_of_trades f in
    and_i (leb 32 (length f) && eqb (mark_of f) form_mark) (versioned f && sized f)
    (and_i (leb 32 (length f)) (eqb (mark_of f) form_mark) (le→leb 32 (length f) l.head) (eqb_of (mark_of f) form_mark m))
    (and_i (versioned f) (sized f) l.version
    (and_i (leb 1 n && leb n 64) (leb k 256 && eqb (length f) (length_of f)) (and_i (leb 1 n) (leb n 64) (le→leb 1 n l.some) (le→leb n 64 l.users))
    (and_i (leb k 256) (eqb (length f) (length_of f)) (le→leb k 256 l.trades) (eqb_of (length f) (length_of f) l.whole))))

-- ---- books to forms, and back

module _ (s : List ℕ) (b : AllBytes s) (h : book_number s ≡ 0) where
  laid : Laid s
  laid = formed_laid (passed s h).form

  form_long : length (form_of s) ≡ length s
  unfolding form_of
  form_long = length_rearranged laid false form_mark

  form_back : book_from (form_of s) ≡ s
  unfolding book_from form_of
  form_back =
      ap (λ (m : ℕ). rearranged true m (rearranged false form_mark s)) (sym (passed s h).form.mark) ∙ rearranged-back laid false form_mark b

  form_shaped : T (shaped (form_of s))
  unfolding form_of form_mark
  form_shaped = laid_shaped (form_of s) (laid_rearranged laid false form_mark) (new_mark_lem laid false form_mark (omega arith))

  form_yields : T (yields (form_of s))
  unfolding yields
  form_yields =
      and_i (shaped (form_of s)) (eqb (book_number (book_from (form_of s))) 0) form_shaped
      (eqb_of (book_number (book_from (form_of s))) 0 (ap book_number form_back ∙ h))

module _ (f : List ℕ) (b : AllBytes f) (h : T (yields f)) where
  yields_shaped : T (shaped f)
  unfolding yields
  yields_shaped = and_l (shaped f) (eqb (book_number (book_from f)) 0) h

  yields_accepted : book_number (book_from f) ≡ 0
  unfolding yields
  yields_accepted = eqb→eq (book_number (book_from f)) 0 (and_r (shaped f) (eqb (book_number (book_from f)) 0) h)

  yields_only : form_of (book_from f) ≡ f
  unfolding book_from form_of
  yields_only =
      ap (λ (m : ℕ). rearranged false m (rearranged true mark f)) (sym (shaped_mark f yields_shaped)) ∙ rearranged-back (shaped_laid f yields_shaped) true mark b

-- ---- the two calls

-- where there is room, nothing is left to refuse
pub room_given : (bytes out : List ℕ) → length bytes ≤ length out → refusal (about_room bytes out) ≡ 0
unfolding about_room refusal after
room_given bytes out k = yes_first 30 (leb (length bytes) (length out)) [] (le→leb (length bytes) (length out) k)

-- where there is none, 30 is
pub no_room : (bytes out : List ℕ) → length out < length bytes → refusal (about_room bytes out) ≡ 30
unfolding about_room refusal after
no_room bytes out h = rw (lt-leb (length bytes) (length out) h)

module _ (s out : List ℕ) (b : AllBytes s) (h : book_number s ≡ 0) (k : length s ≤ length out) where
  book_stored : stored s out ≡ accepted (form_of s) out
  unfolding stored written after
  book_stored =
      rw (refusal_next (about_bytes s) (about_room (form_of s) out) (book_passed s h), room_given (form_of s) out (rw (form_long s b h) k))

  book_given : restored (form_of s) out ≡ accepted s out
  unfolding restored written after about_form
  book_given =
      rw (yes_first 29 (yields (form_of s)) (about_room (book_from (form_of s)) out) (form_yields s b h), form_back s b h, room_given s out k)

-- a form is asked for its book, and then the output for room
module _ (f out : List ℕ) where
  form_refused : yields f ≡ false → restored f out ≡ refused out 29
  unfolding restored written about_form refusal after
  form_refused e = rw e

  module _ (e : yields f ≡ true) where
    -- the book of a form has its length
    pub length-book_from : length (book_from f) ≡ length f
    unfolding book_from yields
    length-book_from = length_rearranged (shaped_laid f (and_l (shaped f) (eqb (book_number (book_from f)) 0) (holds e))) true mark

    pub room_asked_lem : refusal (about_form f out) ≡ refusal (about_room (book_from f) out)
    unfolding about_form
    room_asked_lem = yes_first 29 (yields f) (about_room (book_from f) out) (holds e)

    form_short : length out < length f → restored f out ≡ refused out 30
    unfolding restored written after
    form_short k = rw (room_asked_lem, no_room (book_from f) out (rw length-book_from k))

pub field_wise_lem : FieldWise
field_wise_lem =
    record {
      long = form_long;
      accepts = λ s b h. true_of (yields (form_of s)) (form_yields s b h);
      back = form_back;
      only = λ f b h. (yields_accepted f b (holds h), yields_only f b (holds h));
      stores = book_stored;
      gives = book_given;
      refuses = form_refused;
      narrow = form_short;
    }
