-- The operator's requests and queries are those without a party; every act of a shipper is refused with 26 and changes nothing; what returns 0 is the operator's.
-- Assumes nothing.
use Rattle.base.specs.Basics.{◌≡◌, ◌∙◌, ap, refl, sym, List, ◌++◌, ℕ, suc, zero, arith}
use Rattle.rules.specs.Calls.{only}
use Rattle.rules.specs.Queries.{Query}
use Rattle.rules.specs.Questions.{Question, after}
use Rattle.book_columns.specs.Calls.{about_room, stored, stored_after}
use Rattle.book_columns.specs.Form.{form_of}
use Rattle.book_format.specs.Questions.{about_bytes, book_number}
use Rattle.book_tables.specs.Book.{blank_book}
use Rattle.book_tables.specs.declared.Book.{Book}
use Rattle.outputs.specs.Output.{Output, Wrote, accepted, refused, written, written_after}
use Rattle.requests.specs.Cancellation.{Cancellation, cancellation, cancellation_in, not_cancelled}
use Rattle.requests.specs.Request.{Outcome, Request, Setting, enquiry, enquiry_after, refused_given, request, request_after}
use Rattle.rights.proofs.Entered.{cancellation_stopped, request_stopped}
use Rattle.rights.specs.Acting.{cancellation_by, enquiry_by, entering_number, request_by}
use Rattle.rights.specs.Outputs.{stored_by, written_by}
use Rattle.rights.specs.Party.{Matter, Party, matter_of, may_do, operator, operators, right_number, shipper_of}
use Rattle.rights.specs.Claim.{AcceptedClaim, ForbiddenClaim, OperatorClaim}
use Rattle.rights.specs.Read.{ReadBy}
use Rattle.laws.proofs.Refusals.{after-append, after_passed, after_refused, first_alone}

-- what a call that writes to an output promises, from the number of its questions up to 26 and the contract of the inner function
pub wrote_by : (actor : Party) (s : List ℕ) (qs : List Question) (xs out : List ℕ) {number result : ℕ} {left : List ℕ} → number ≡ entering_number actor operators s
    → Wrote (written_after number qs xs out) result left → Wrote (written_by actor s qs xs out) result left
unfolding written_by
wrote_by actor s qs xs out e w = rw (← e) w

-- of the field-wise form
pub stored_by_lem : (actor : Party) (s out : List ℕ) {number result : ℕ} {left : List ℕ} → number ≡ entering_number actor operators s
    → Wrote (stored_after number s out) result left → Wrote (stored_by actor s out) result left
unfolding stored_by stored_after
stored_by_lem actor s out e w = wrote_by actor s (about_room (form_of s) out) (form_of s) out e w

-- ---- the operator

-- is asked what is asked without a party
pub operator_asked : (m : Matter) (s : List ℕ) → entering_number operator m s ≡ book_number s
unfolding entering_number right_number may_do
operator_asked m s = first_alone (book_number s)

pub operator-request : (r : Request) (s : List ℕ) → request_by operator r s ≡ request r s
operator-request r s = ap (λ (n : ℕ). request_after n r s) (operator_asked operators s)

operator-cancellation : (g : Setting) (s : List ℕ) (id tries : ℕ) → cancellation_by operator g s id tries ≡ cancellation g s id tries
operator-cancellation g s id tries = ap (λ (n : ℕ). cancellation_in n g s id tries) (operator_asked operators s)

operator-enquiry : (g : Setting) (s : List ℕ) (q : Query) → enquiry_by operator g s q ≡ enquiry g s q
operator-enquiry g s q = ap (λ (n : ℕ). enquiry_after n g s q) (operator_asked (matter_of q) s)

operator_output : (s : List ℕ) (qs : List Question) (xs out : List ℕ) → written_by operator s qs xs out ≡ written (about_bytes s ++ qs) xs out
unfolding written_by written_after written book_number
operator_output s qs xs out =
    ap (λ (n : ℕ). written_after n qs xs out) (operator_asked operators s) ∙ sym (after-append (about_bytes s) qs (refused out) (accepted xs out))

operator_form : (s out : List ℕ) → stored_by operator s out ≡ stored s out
unfolding stored_by stored
operator_form s out = operator_output s (about_room (form_of s) out) (form_of s) out

pub operator_claim : OperatorClaim
operator_claim =
    record { request = operator-request; query = operator-enquiry; cancellation = operator-cancellation; output = operator_output; form = operator_form }

-- ---- a shipper

-- 26 is the number where the book passes its own
pub shipper_number : (party : ℕ) (s : List ℕ) → book_number s ≡ 0 → entering_number (shipper_of party) operators s ≡ 26
unfolding entering_number right_number may_do
shipper_number party s e = after_passed (λ n. n) 26 e

shipper_read : (party : ℕ) (s : List ℕ) → book_number s ≡ 0 → {n : ℕ} {b : Book} → ReadBy (shipper_of party) s n b → (n ≡ 26) × (b ≡ blank_book)
shipper_read party s e {n} r =
    let h : n ≡ 26 = r.asked ∙ shipper_number party s e in
    (h, r.blank (λ z. omega (arith, h, z)))

shipper_output : (party : ℕ) (s : List ℕ) → book_number s ≡ 0 → (qs : List Question) (xs out : List ℕ) → written_by (shipper_of party) s qs xs out ≡ refused out 26
unfolding written_by written_after
shipper_output party s e qs xs out = after_refused (refused out) (written qs xs out) (shipper_number party s e)

pub forbidden_claim : ForbiddenClaim
forbidden_claim party s e =
    let stopped = shipper_number party s e in
    record {
      act = λ r. ap (λ (n : ℕ). request_after n r s) stopped ∙ request_stopped r s 25;
      cancel = λ g id tries. ap (λ (n : ℕ). cancellation_in n g s id tries) stopped ∙ cancellation_stopped g s id tries 25;
      write = shipper_output party s e;
      read = λ r. shipper_read party s e r;
    }

-- ---- what returns 0

-- no shipper passes the questions up to 26, so it has no number 0 from what refuses by their number
pub shipper_stopped : {R : Type 0} (party : ℕ) (s : List ℕ) (by : ℕ → R) (number : R → ℕ) → ((n : ℕ) → number (by (suc n)) ≡ suc n)
    → number (by (entering_number (shipper_of party) operators s)) ≡ 0 → ⊥
unfolding entering_number right_number may_do after
shipper_stopped party s by number h e = go (book_number s) e
  where
    go : (n : ℕ) → number (by (after n (λ k. k) 26)) ≡ 0 → ⊥
    go zero z = omega (arith, h 25, z)
    go (suc n) z = omega (arith, h n, z)

accepted_act : (actor : Party) (r : Request) (s : List ℕ) → (request_by actor r s).answer.number ≡ 0 → (actor ≡ operator) × (request_by actor r s ≡ request r s)
unfolding refused_given only
accepted_act operator r s e = (refl, operator-request r s)
accepted_act (shipper_of party) r s e =
    absurd (shipper_stopped party s (λ n. request_after n r s) (λ (o : Outcome (List ℕ)). o.answer.number) (λ n. ap (λ (o : Outcome (List ℕ)). o.answer.number) (request_stopped r s n)) e)

accepted_cancellation : (actor : Party) (g : Setting) (s : List ℕ) (id tries : ℕ) → (cancellation_by actor g s id tries).number ≡ 0
    → (actor ≡ operator) × (cancellation_by actor g s id tries ≡ cancellation g s id tries)
unfolding not_cancelled
accepted_cancellation operator g s id tries e = (refl, operator-cancellation g s id tries)
accepted_cancellation (shipper_of party) g s id tries e =
    absurd (shipper_stopped party s (λ n. cancellation_in n g s id tries) (λ (c : Cancellation). c.number) (λ n. ap (λ (c : Cancellation). c.number) (cancellation_stopped g s id tries n)) e)

accepted_output : (actor : Party) (s : List ℕ) (qs : List Question) (xs out : List ℕ) → (written_by actor s qs xs out).number ≡ 0
    → (actor ≡ operator) × (written_by actor s qs xs out ≡ written (about_bytes s ++ qs) xs out)
unfolding written_by written_after refused after
accepted_output operator s qs xs out e = (refl, operator_output s qs xs out)
accepted_output (shipper_of party) s qs xs out e =
    absurd (shipper_stopped party s (λ n. written_after n qs xs out) (λ (o : Output). o.number) (λ n. refl) e)

pub accepted_claim : AcceptedClaim
accepted_claim = record { act = accepted_act; cancel = accepted_cancellation; write = accepted_output }
