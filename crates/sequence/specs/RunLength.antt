-- Ask 10, "How long a run can be": of a run on a book in bytes with a store and a log, or none of them, by the contract of the public function, accepted, stopped by a full log
-- or refused. Assumes nothing.
use Rattle.std.specs.Prelude.{◌≡◌, ◌≤◌}
use Rattle.base.specs.Basics.{not, Option, some, List, ℕ, T}
use Rattle.fields.specs.Field.{AllBytes}
use Rattle.book_format.specs.Book.{trades_of}
use Rattle.requests.specs.Carried.{Carried}
use Rattle.requests.specs.Request.{act_of, call, request}
use Rattle.rules.specs.Calls.{Answer, cuttable, run}
use Rattle.sequence.specs.Links.{accepted_number}

-- A run that was given the bytes s, answered a and left the bytes t.
pub record RunLength (store log : Option (List ℕ)) : Type 0 where
  -- "The number of reductions that a run reports is at most the MWh standing, at its start, in trades of kind 0 and day 0."
  pub most : {s t : List ℕ} {a : Answer} → Carried (act_of store log (call run)) s a t → a.reductions ≤ cuttable (trades_of s)
  -- "A run that reports none leaves the book byte for byte." That s are bytes holds of every part that is lent.
  pub none : {s t : List ℕ} {a : Answer} → AllBytes s → Carried (act_of store log (call run)) s a t → a.reductions ≡ 0 → t ≡ s
  -- a refused run reports none and leaves the bytes
  pub refused : {s t : List ℕ} {a : Answer} → Carried (act_of store log (call run)) s a t → T (not (accepted_number (call run) a.number)) → (a.reductions ≡ 0) × (t ≡ s)

-- A run that reports none leaves the log too, where one is given.
pub record RunLeavesLog (store : Option (List ℕ)) : Type 0 where
  pub leaves : {l s t : List ℕ} {a : Answer} → AllBytes l → AllBytes s → Carried (act_of store (some l) (call run)) s a t → a.reductions ≡ 0
      → (request (act_of store (some l) (call run)) s).log ≡ some l
