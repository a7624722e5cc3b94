-- An accepted posting on a book in bytes, as facts: what its questions tell, and the bytes that it leaves; and the way back. Assumes nothing.
use Rattle.base.specs.Basics.{◌≡◌, refl, sym, ap, ◌∙◌, Bool, true, false, ◌&&◌, Option, List, [], ◌∷◌, ℕ, ◌<◌, T, ltb, ltb→lt, suc, zero}
use Rattle.base.specs.Basics.{lt→ltb, ℤ, ◌+ℤ◌}
use Rattle.book_format.proofs.Formed.{book_passed}
use Rattle.book_format.proofs.Passed.{passed_of}
use Rattle.book_format.proofs.Written.{book_of_bytes_of}
use Rattle.book_format.specs.After.{CalledAfter}
use Rattle.book_format.specs.Book.{book_of, bytes_of}
use Rattle.book_format.specs.Questions.{about_bytes, book_number}
use Rattle.book_format.specs.Steps.{in_bytes}
use Rattle.laws.proofs.Posting.{posting_sound}
use Rattle.laws.proofs.Refusals.{first_yes}
use Rattle.laws.specs.Sound.{Sound}
use Rattle.base.proofs.Tests.{and_i, and_l, and_r}
use Rattle.log_format.proofs.Noted.{posting_empties}
use Rattle.requests.proofs.Emptied.{accepted_with, log_off, log_on, with_opening}
use Rattle.requests.proofs.Opened.{opening-zero}
use Rattle.requests.proofs.Passed.{passed_called, passed_carried}
use Rattle.requests.specs.Carried.{Carried}
use Rattle.requests.specs.Request.{call, act_of, limits_on, opening_with, setting_of}
use Rattle.rules.specs.Book.{Book, at, find}
use Rattle.rules.specs.Calls.{posting, Answer, about, call_after, effect, entry_in_range, id_known, only, result_in, unchanged}
use Rattle.rules.specs.Changes.{change, posted, with_users}
use Rattle.rules.specs.Levels.{Limits}
use Rattle.rules.specs.Questions.{after, known, refusal}
use Rattle.rules.specs.Signed.{within}

-- the book after a posting
unfoldable pub posted_book : ℕ → ℕ → ℤ → Book → Book
posted_book id area z b = with_users b (change id (posted area z) b.users)

-- what the questions of an accepted posting tell
pub record Accepted (s : List ℕ) (id a : ℕ) (z : ℤ) : Type 0 where
  pub book : refusal (about_bytes s) ≡ 0
  pub user : T (known (book_of s).users id)
  pub area : a < 3
  pub range : T (within 1000000 (at (find (book_of s).users id).physical a +ℤ z))

-- the book after it is sound
pub sound_after : {s : List ℕ} {id area : ℕ} {z : ℤ} → Accepted s id area z → Sound (posted_book id area z (book_of s))
unfolding posted_book
sound_after {s} {id} {area} {z} q = posting_sound (book_of s) id area z (passed_of s q.book).sound q.user q.area q.range

-- the number of the step is the refusal's
number_is : (limits : Limits) (s : List ℕ) (id area : ℕ) (z : ℤ) (n : ℕ)
    → (after n (unchanged s) (result_in in_bytes (effect limits (book_of s) (posting id area z)))).answer.number ≡ n
unfolding after unchanged result_in effect only
number_is limits s id area z zero = refl
number_is limits s id area z (suc n) = refl

-- two questions that are answered by yes
both_yes : (m n : ℕ) (c d : Bool) → T c → T d → refusal (record { number = m; holds = c } ∷ (record { number = n; holds = d } ∷ [])) ≡ 0
unfolding refusal after
both_yes m n true true h k = refl
both_yes m n true false h k = absurd k
both_yes m n false d h k = absurd h

-- ---- by the contract of the inner call

module _ (limits : Limits) {s : List ℕ} {id area : ℕ} {z : ℤ} where
  module _ {a : Answer} {t : List ℕ} (k : CalledAfter 0 limits s (posting id area z) a t) (h : a.number ≡ 0) where
    -- no question refuses it
    none_refuses : refusal (about limits (book_of s) (posting id area z)) ≡ 0
    unfolding call_after after
    none_refuses =
        sym (number_is limits s id area z (refusal (about limits (book_of s) (posting id area z)))) ∙ sym (ap (λ (r : Answer). r.number) k.answer) ∙ h

    -- so each was answered by yes
    call_accepted : refusal (about_bytes s) ≡ 0 → Accepted s id area z
    unfolding about id_known entry_in_range
    call_accepted e =
        let q8 = first_yes _ _ none_refuses tt in
        let q10 = first_yes _ _ q8.1 tt in
        let ok = within 1000000 (at (find (book_of s).users id).physical area +ℤ z) in
        record { book = e; user = q8.0; area = ltb→lt area 3 (and_l (ltb area 3) ok q10.0); range = and_r (ltb area 3) ok q10.0 }

    -- the bytes that it leaves
    call_bytes : t ≡ bytes_of (posted_book id area z (book_of s))
    unfolding call_after after result_in effect posted_book
    call_bytes = k.bytes ∙ rw none_refuses

  -- where every question is answered by yes, the posting is accepted
  call_made : Accepted s id area z → CalledAfter 0 limits s (posting id area z) (only 0) (bytes_of (posted_book id area z (book_of s)))
  unfolding call_after after result_in effect posted_book about id_known entry_in_range
  call_made q =
      let ok = within 1000000 (at (find (book_of s).users id).physical area +ℤ z) in
      let e : refusal (about limits (book_of s) (posting id area z)) ≡ 0
      = both_yes 8 10 (known (book_of s).users id) (ltb area 3 && ok) q.user (and_i (ltb area 3) ok (lt→ltb area 3 q.area) q.range) in
      record { answer = rw e; bytes = rw e }

-- ---- with a store and a log, or none of them

module _ (store : Option (List ℕ)) {log : Option (List ℕ)} {s : List ℕ} {id area : ℕ} {z : ℤ} where
  module _ {a : Answer} {t : List ℕ} (k : Carried (act_of store log (call (posting id area z))) s a t) (h : a.number ≡ 0) where
    -- the book, the store and the log pass their questions
    pub opened : opening_with (book_number s) (setting_of store) log s ≡ 0
    opened = accepted_with (posting_empties id area z) (setting_of store) s k h

    as_called : CalledAfter 0 (limits_on (setting_of store) (book_of s)) s (posting id area z) a t
    as_called =
        passed_called (setting_of store) (posting id area z) s (with_opening (book_number s) (setting_of store) log s opened) (log_off (posting_empties id area z) (setting_of store) s opened k)

    pub accepted : Accepted s id area z
    accepted =
        call_accepted (limits_on (setting_of store) (book_of s)) as_called h
        (book_passed s (opening-zero (book_number s) (setting_of store) s (with_opening (book_number s) (setting_of store) log s opened)))

    -- the bytes that it leaves
    pub bytes_left : t ≡ bytes_of (posted_book id area z (book_of s))
    bytes_left = call_bytes (limits_on (setting_of store) (book_of s)) as_called h

    -- the book that they hold
    pub book_left : book_of t ≡ posted_book id area z (book_of s)
    book_left = ap book_of bytes_left ∙ book_of_bytes_of (posted_book id area z (book_of s)) (sound_after accepted)

  -- where every question is answered by yes, the posting is accepted
  pub carried : opening_with (book_number s) (setting_of store) log s ≡ 0 → Accepted s id area z → Carried (act_of store log (call (posting id area z))) s (only 0) (bytes_of (posted_book id area z (book_of s)))
  carried e q =
      log_on (posting_empties id area z) (setting_of store) s e
      (passed_carried (setting_of store) (posting id area z) s (with_opening (book_number s) (setting_of store) log s e) (call_made (limits_on (setting_of store) (book_of s)) q))
