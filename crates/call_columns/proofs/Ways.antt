-- The ways out of the two calls. Assumes nothing.
use Rattle.base.specs.Basics.{◌≡◌, refl, sym, ap, ◌∙◌, Bool, true, false, List, ◌++◌, ℕ, ◌<◌, ◌≤◌, mul-le-mul_left, arith, T, eqb, length, take, drop}
use Rattle.base.specs.Basics.{length-append, length-drop, ne_eqb, take_at, take-length}
use Rattle.std.specs.Prelude.{Ok, Err, Result, is_ok}
use Rattle.refusals.specs.Refusal.{number_in, number_of}
use Rattle.refusals.specs.declared.Refusal.{Refusal}
use Rattle.refusals.proofs.Numbers.{refused-nonzero}
use Rattle.base.proofs.Tests.{holds}
use Rattle.book_format.specs.Book.{mark, trades_at, place_of_user, count_of_users, version_of}
use Rattle.book_format.specs.Questions.{book_number}
use Rattle.book_format.proofs.Offsets.{header_range, size_most}
use Rattle.book_format.proofs.Passed.{passed}
use Rattle.outputs.specs.Output.{Wrote, accepted, refused, written}
use Rattle.outputs.proofs.Ways.{wrote_all, wrote_refused}
use Rattle.book_columns.specs.Form.{Laid, book_from, form_mark, form_of, rearranged, shaped, yields}
use Rattle.book_columns.specs.Calls.{about_room, restored, stored_after}
use Rattle.book_columns.proofs.Rearranged.{length_rearranged}
use Rattle.book_columns.proofs.Forms.{field_wise_lem, formed_laid, length-book_from, no_room, room_asked_lem, room_given, shaped_laid}
use Rattle.call_columns.specs.Rebuilt.{Rebuilt, longest}
use Rattle.rules.specs.Questions.{after}

-- ---- a book to its form

pub book_laid : (s : List ℕ) → book_number s ≡ 0 → Laid s
book_laid s h = formed_laid (passed s h).form

length_form_of : (s : List ℕ) → book_number s ≡ 0 → length (form_of s) ≡ length s
unfolding form_of
length_form_of s h = length_rearranged (book_laid s h) false form_mark

module _ (s out : List ℕ) {number : ℕ} (e : number ≡ 0) (h : book_number s ≡ 0) where
  pub form_short : length out < length s → Wrote (stored_after number s out) 30 out
  unfolding stored_after
  form_short k = wrote_refused (about_room (form_of s) out) (form_of s) out e (no_room (form_of s) out (rw (length_form_of s h) k)) tt

  pub form_written : {part : List ℕ} → length s ≤ length out → part ≡ rearranged false 0x46_44_47 s → Wrote (stored_after number s out) 0 (part ++ drop (length s) out)
  unfolding stored_after form_of form_mark
  form_written {part} k q =
      let l = length_form_of s h in
      wrote_all (about_room (form_of s) out) (form_of s) out e (room_given (form_of s) out (rw l k))
      (rw (l, q) refl)

-- ---- a form to its book

-- it fits the room for the longest book
pub shaped_fits : (f : List ℕ) → T (shaped f) → length f ≤ longest
unfolding trades_at place_of_user
shaped_fits f h =
    let l = shaped_laid f h in
    let v = version_of f in
    let u = size_most v (count_of_users f) 64 l.users in
    omega (arith, l.whole, header_range v, mul-le-mul_left 20 l.trades)

-- what is rearranged lies at the front of the room
pub rebuilt_fits : (f room : List ℕ) {part : List ℕ} → shaped f ≡ true → part ≡ rearranged true 0x42_44_47 f → length f ≤ length (part ++ drop (length f) room)
rebuilt_fits f room {part} e q =
    let same : length part ≡ length f = ap length q ∙ length_rearranged (shaped_laid f (holds e)) true 0x42_44_47 in
    rw length-append (omega arith)

-- a book passes the questions where they have no number
pub passes_number : {A : Type 0} (asked : Result A Refusal) → is_ok asked ≡ eqb (number_in asked) 0
passes_number (Ok value) = refl
passes_number (Err refusal) = sym (ne_eqb (number_of refusal) 0 (refused-nonzero refusal))

pub rebuilt_not : (f room : List ℕ) → shaped f ≡ false → Rebuilt f false room
unfolding yields
rebuilt_not f room e = record { answer = rw e; fits = λ t. absurd t; book = λ t. absurd t }

pub rebuilt : (f room : List ℕ) {part : List ℕ} {number : ℕ} {passes : Bool} → shaped f ≡ true → length room ≡ longest → part ≡ rearranged true 0x42_44_47 f
    → number ≡ book_number (take (length f) (part ++ drop (length f) room)) → passes ≡ eqb number 0 → Rebuilt f passes (part ++ drop (length f) room)
unfolding yields book_from mark
rebuilt f room {part} {number} e k q n p =
    let l = shaped_laid f (holds e) in
    let same : length part ≡ length f = ap length q ∙ length_rearranged l true 0x42_44_47 in
    let front = take_at part (drop (length f) room) (length f) same in
    record {
      answer = rw (p, e, n, front, q) refl;
      fits = λ t. rw (length-append, length-drop) (omega (arith, shaped_fits f (holds e)));
      book = λ t. front ∙ q;
    }

module _ (f out : List ℕ) where
  -- what a refusal leaves
  left : {n : ℕ} → restored f out ≡ refused out n → Wrote (restored f out) n out
  unfolding refused
  left e = rw e (record { answer = refl; output = refl })

  pub restored_not : yields f ≡ false → Wrote (restored f out) 29 out
  restored_not e = left (field_wise_lem.refuses f out e)

  module _ (e : yields f ≡ true) where
    pub restored_short : length out < length f → Wrote (restored f out) 30 out
    restored_short k = left (field_wise_lem.narrow f out e k)

    pub restored_written : {part book : List ℕ} → length f ≤ length out → part ≡ book_from f → book ≡ take (length part) part ++ drop (length part) out → Wrote (restored f out) 0 book
    unfolding restored written after accepted
    restored_written {part} k q w =
        rw (room_asked_lem f out e, room_given (book_from f) out (rw (length-book_from f out e) k))
        (record { answer = refl; output = w ∙ (rw (take-length part, q) refl) })
