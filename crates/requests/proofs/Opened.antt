-- The opening questions by their numbers, one after the other; a call after them, by the figures that the setting gives. Assumes nothing.
use Rattle.base.specs.Basics.{◌≡◌, ◌∙◌, ap, refl, List, ℕ, suc, zero}
use Rattle.rules.specs.Calls.{Answer, Call, Result, call_after}
use Rattle.rules.specs.Levels.{Limits}
use Rattle.rules.specs.Questions.{after}
use Rattle.book_format.specs.After.{CalledAfter}
use Rattle.book_format.specs.Book.{book_of}
use Rattle.book_format.specs.Questions.{book_number}
use Rattle.book_format.specs.Steps.{in_bytes}
use Rattle.store.specs.Store.{store_number}
use Rattle.requests.specs.Carried.{Admitted, CarriedAfter}
use Rattle.requests.specs.Request.{Setting, act_by, act_in, call_in, limits_on, opening, opening_in, outcome, request, request_in, step_in}
use Rattle.laws.proofs.Refusals.{first_zero}

-- who passes the opening questions passes those before them
pub opening-zero : (n : ℕ) (g : Setting) (s : List ℕ) → opening n g s ≡ 0 → n ≡ 0
unfolding opening_in
opening-zero n g s e = first_zero n (store_number g.store (book_of s).header.date) e

-- ---- calls

pub request_opened : (g : Setting) (s : List ℕ) (c : Call) → request (call_in g c) s ≡ outcome (call_after in_bytes (opening (book_number s) g s) (limits_on g (book_of s)) s c)
unfolding request_in act_by act_in step_in
request_opened g s c = refl

-- a refused call gives the same whatever the figures
step_same : (n : ℕ) {l m : Limits} (s : List ℕ) (c : Call) → (n ≡ 0 → l ≡ m) → call_after in_bytes n l s c ≡ call_after in_bytes n m s c
unfolding call_after after
step_same zero s c h = ap (λ (k : Limits). call_after in_bytes 0 k s c) (h refl)
step_same (suc n) s c h = refl

-- a public call, from what asked its opening questions and the contract of the inner call
pub carried : {n : ℕ} {g : Setting} {s t : List ℕ} {c : Call} {a : Answer} {number : ℕ} {limits : Limits} → Admitted n g s number limits → CalledAfter number limits s c a t
    → CarriedAfter n (call_in g c) s a t
unfolding request_in act_by act_in step_in outcome
carried {n} {g} {s} {c = c} {number = number} d k =
    let limits = limits_on g (book_of s) in
    let e = step_same number s c d.taken ∙ ap (λ (m : ℕ). call_after in_bytes m limits s c) d.asked in
    record { answer = k.answer ∙ ap (λ (x : Result (List ℕ)). x.answer) e; bytes = k.bytes ∙ ap (λ (x : Result (List ℕ)). x.book) e }
