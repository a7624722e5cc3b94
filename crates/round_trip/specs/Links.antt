-- Demand 3 for a caller in C: a call of the C interface that can change a book is a deed of a sequence, whoever makes it, and so has the sequence's claim; and ask 10, how long a run can
-- be. By the contracts of `exports`, where the store and the log are `given` by a flag and a part. Assumes nothing.
use Rattle.std.specs.Prelude.{◌≡◌, ◌∷◌, ◌≤◌}
use Rattle.base.specs.Basics.{Bool, not, Option, some, List, ℕ, T, ℤ, get_or, length}
use Rattle.book_format.specs.Book.{trades_of}
use Rattle.exports.specs.Answers.{Answered}
use Rattle.exports.specs.Lent.{wrong_length}
use Rattle.exports_answers.specs.Numbers.{run_numbers}
use Rattle.fields.specs.Field.{AllBytes}
use Rattle.requests.specs.Request.{call, withdrawal, Request, act_of}
use Rattle.rights.specs.Acting.{request_by}
use Rattle.rights.specs.Logged.{LoggedBy, PostedBy}
use Rattle.rights.specs.Party.{Party}
use Rattle.rules.specs.Calls.{Answer, Call, cuttable, only, run}
use Rattle.sequence.specs.Acting.{Deed, LinkedBy}
use Rattle.sequence.specs.ContractLinks.{call_link, list_link, withdrawal_link}
use Rattle.sequence.specs.Links.{accepted_number}
use Rattle.store.specs.Store.{given}

-- ---- calls with a part for their numbers

-- such a call on bytes s, with a part of the length that it asks for, is the call of the Rattle contracts: an answer of which the number was returned and the numbers were stored
pub record Made (numbers : Answer → List ℕ) (actor : Party) (r : Request) (s t after l m : List ℕ) (result : ℕ) (a : Answer) : Type 0 where
  pub number : result ≡ a.number
  pub told : after ≡ numbers a
  pub logged : LoggedBy actor r s a t l m

-- a part of another length: 255 is returned, and nothing is changed, so that a sequence goes on where it was
pub record NotMade (s t part after l m : List ℕ) (result : ℕ) : Type 0 where
  pub number : result ≡ wrong_length
  pub told : after ≡ part
  pub book : t ≡ s
  pub log : m ≡ l

-- ---- links

-- each with the answer of the rules, before any sequence from the bytes that it left
pub record CallMade (numbers : Answer → List ℕ) (actor : Party) (store : Option (List ℕ)) (lent : Bool) (c : Call) (s t after l m : List ℕ) (result : ℕ) (a : Answer) : Type 0 where
  pub made : Made numbers actor (act_of store (given lent l) (call c)) s t after l m result a
  pub linked : {u : List ℕ} {ds : List Deed} → LinkedBy store t ds u → LinkedBy store s (record { actor = actor; link = call_link store lent c s a t l m } ∷ ds) u

pub record WithdrawalMade (numbers : Answer → List ℕ) (actor : Party) (store : Option (List ℕ)) (s t after l m : List ℕ) (result : ℕ) (a : Answer) : Type 0 where
  pub made : Made numbers actor (act_of store (some l) withdrawal) s t after l m result a
  pub linked : {u : List ℕ} {ds : List Deed} → LinkedBy store t ds u → LinkedBy store s (record { actor = actor; link = withdrawal_link store s a t l m } ∷ ds) u

pub record LinksInC (store : Option (List ℕ)) : Type 0 where
  pub posting_links : {actor : Party} {s t u l m : List ℕ} {c : Call} {ds : List Deed} (lent : Bool) (number : ℕ) → LoggedBy actor (act_of store (given lent l) (call c)) s (only number) t l m
      → LinkedBy store t ds u → LinkedBy store s (record { actor = actor; link = call_link store lent c s (only number) t l m } ∷ ds) u
  pub list_links : {actor : Party} {s t u ids areas places left l m : List ℕ} {amounts : List ℤ} {number : ℕ} {ds : List Deed} (lent : Bool)
      → PostedBy actor store (given lent l) ids areas amounts places s number t left l m
      → LinkedBy store t ds u → LinkedBy store s (record { actor = actor; link = list_link store lent ids areas amounts places s number t left l m } ∷ ds) u
  -- a guarantee call, a reduction and a run
  pub call_links : {n result : ℕ} {numbers : Answer → List ℕ} {actor : Party} {s t part after l m : List ℕ} {c : Call} (lent : Bool)
      → Answered n numbers actor (act_of store (given lent l) (call c)) s part result after t l m
      → length part ≡ n → CallMade numbers actor store lent c s t after l m result (request_by actor (act_of store (given lent l) (call c)) s).answer
  pub withdrawal_links : {n result : ℕ} {numbers : Answer → List ℕ} {actor : Party} {s t part after l m : List ℕ} → Answered n numbers actor (act_of store (some l) withdrawal) s part result after t l m
      → length part ≡ n → WithdrawalMade numbers actor store s t after l m result (request_by actor (act_of store (some l) withdrawal) s).answer
  -- any of these with a part of another length
  pub other_length : {n result : ℕ} {numbers : Answer → List ℕ} {actor : Party} {r : Request} {s t part after l m : List ℕ} → Answered n numbers actor r s part result after t l m → (length part ≡ n → ⊥)
      → NotMade s t part after l m result

-- ---- how long a run can be

-- A run that was given the bytes s and a part of 3 numbers, with a store and a log, or none of them: it returned a number, stored the reductions first, and left the bytes t.
pub record RunLengthInC (store : Option (List ℕ)) : Type 0 where
  -- "The number of reductions that a run reports is at most the MWh standing, at its start, in trades of kind 0 and day 0."
  pub most : {log : Option (List ℕ)} {result : ℕ} {actor : Party} {s t part after l m : List ℕ} → Answered 3 run_numbers actor (act_of store log (call run)) s part result after t l m → length part ≡ 3
      → get_or after 0 0 ≤ cuttable (trades_of s)
  -- "A run that reports none leaves the book byte for byte", and the log
  pub none : {log : Option (List ℕ)} {result : ℕ} {actor : Party} {s t part after l m : List ℕ} → AllBytes s → Answered 3 run_numbers actor (act_of store log (call run)) s part result after t l m → length part ≡ 3
      → get_or after 0 0 ≡ 0 → t ≡ s
  pub log : {result : ℕ} {actor : Party} {s t part after l m : List ℕ} → AllBytes l → AllBytes s → Answered 3 run_numbers actor (act_of store (some l) (call run)) s part result after t l m → length part ≡ 3
      → get_or after 0 0 ≡ 0 → m ≡ l
  -- a refused run reports none and leaves the bytes
  pub refused : {log : Option (List ℕ)} {result : ℕ} {actor : Party} {s t part after l m : List ℕ} → Answered 3 run_numbers actor (act_of store log (call run)) s part result after t l m → length part ≡ 3
      → T (not (accepted_number (call run) result)) → (get_or after 0 0 ≡ 0) × (t ≡ s)
