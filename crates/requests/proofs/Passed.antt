-- Where the opening questions are passed a request is the inner call by the figures of its setting; where they are not, it is refused with their number. Assumes nothing.
use Rattle.base.specs.Basics.{◌≡◌, ◌∙◌, ap, sym, List, ℕ, suc}
use Rattle.rules.specs.Calls.{Answer, Call, call_after, only, unchanged}
use Rattle.rules.specs.Questions.{after}
use Rattle.book_format.specs.After.{CalledAfter}
use Rattle.book_format.specs.Book.{book_of}
use Rattle.book_format.specs.Questions.{book_number}
use Rattle.book_format.specs.Steps.{in_bytes}
use Rattle.requests.proofs.Opened.{request_opened}
use Rattle.requests.specs.Carried.{Carried}
use Rattle.requests.specs.Request.{Outcome, Setting, call_in, limits_on, opening, outcome, request}

module _ (g : Setting) (c : Call) (s : List ℕ) where
  -- ---- passed

  request_passed : opening (book_number s) g s ≡ 0 → request (call_in g c) s ≡ outcome (call_after in_bytes 0 (limits_on g (book_of s)) s c)
  request_passed e = request_opened g s c ∙ ap (λ (n : ℕ). outcome (call_after in_bytes n (limits_on g (book_of s)) s c)) e

  pub passed_called : {a : Answer} {t : List ℕ} → opening (book_number s) g s ≡ 0 → Carried (call_in g c) s a t → CalledAfter 0 (limits_on g (book_of s)) s c a t
  unfolding outcome
  passed_called e k =
      let h = request_passed e in
      record { answer = k.answer ∙ ap (λ (x : Outcome (List ℕ)). x.answer) h; bytes = k.bytes ∙ ap (λ (x : Outcome (List ℕ)). x.book) h }

  pub passed_carried : {a : Answer} {t : List ℕ} → opening (book_number s) g s ≡ 0 → CalledAfter 0 (limits_on g (book_of s)) s c a t → Carried (call_in g c) s a t
  unfolding outcome
  passed_carried e k =
      let h = sym (request_passed e) in
      record { answer = k.answer ∙ ap (λ (x : Outcome (List ℕ)). x.answer) h; bytes = k.bytes ∙ ap (λ (x : Outcome (List ℕ)). x.book) h }

  -- ---- refused

  -- a number alone, and the bytes as they were
  pub opening_refused : {a : Answer} {t : List ℕ} {n : ℕ} → opening (book_number s) g s ≡ suc n → Carried (call_in g c) s a t → (a ≡ only (suc n)) × (t ≡ s)
  unfolding outcome call_after after unchanged
  opening_refused {n = n} e k =
      let limits = limits_on g (book_of s) in
      let h = request_opened g s c ∙ ap (λ (m : ℕ). outcome (call_after in_bytes m limits s c)) e in
      (k.answer ∙ ap (λ (x : Outcome (List ℕ)). x.answer) h, k.bytes ∙ ap (λ (x : Outcome (List ℕ)). x.book) h)
