-- Document 02, asks 7 and 9: the converter by an acting party, which is the operator's, and what is claimed of it; a party's calls on a converted book. Assumes nothing.
use Rattle.std.specs.Prelude.{◌≡◌}
use Rattle.base.specs.Basics.{Option, none, List, ℕ}
use Rattle.rules.specs.Queries.{Query}
use Rattle.book_format.specs.Questions.{book_number}
use Rattle.outputs.specs.Output.{Output, refused}
use Rattle.requests.specs.Request.{Act, Setting, act_of}
use Rattle.rights.specs.Acting.{cancellation_by, enquiry_by, request_by}
use Rattle.rights.specs.Outputs.{written_by}
use Rattle.rights.specs.Party.{Party, operator, shipper_of}
use Rattle.rights.specs.Seen.{Agree}
use Rattle.rights.specs.Trades.{Asking, told_by}
use Rattle.conversions.specs.Conversion.{about_conversion, conversion, converted}
use Rattle.conversions.specs.Statements.{Alike, Convertible}
use Rattle.user_levels.specs.Levels.{all_levels_by}

-- "All else is the operator's": 26 "directly after question 7", before 23
unfoldable pub conversion_by : Party → ℕ → List ℕ → List ℕ → Output
conversion_by actor version s out = written_by actor s (about_conversion version s out) (converted version s) out

pub record ConversionsBy : Type 0 where
  -- the operator's is the one without a party
  pub of_operator : (version : ℕ) (s out : List ℕ) → conversion_by operator version s out ≡ conversion version s out
  -- a shipper's leaves the output
  pub of_shipper : (party version : ℕ) (s out : List ℕ) → book_number s ≡ 0 → conversion_by (shipper_of party) version s out ≡ refused out 26
  -- and tells nothing of what it may not see
  pub agreed : (party version : ℕ) (s t out : List ℕ) → book_number s ≡ 0 → book_number t ≡ 0 → Agree party s t
      → conversion_by (shipper_of party) version s out ≡ conversion_by (shipper_of party) version t out
  -- "no level, call, warning, reduction or run without a log may answer otherwise", whoever asks
  pub requests : (version : ℕ) (s : List ℕ) → Convertible version s → (actor : Party) (store : Option (List ℕ)) (a : Act)
      → Alike version (request_by actor (act_of store none a) (converted version s)) (request_by actor (act_of store none a) s)
  pub enquiries : (version : ℕ) (s : List ℕ) → Convertible version s → (actor : Party) (g : Setting) (q : Query) → enquiry_by actor g (converted version s) q ≡ enquiry_by actor g s q
  pub told : (version : ℕ) (s : List ℕ) → Convertible version s → (actor : Party) (g : Setting) (a : Asking) → told_by actor g (converted version s) a ≡ told_by actor g s a
  pub levels : (version : ℕ) (s : List ℕ) → Convertible version s → (actor : Party) (g : Setting) → all_levels_by actor g (converted version s) ≡ all_levels_by actor g s
  pub cancellations : (version : ℕ) (s : List ℕ) → Convertible version s → (actor : Party) (g : Setting) (id tries : ℕ)
      → cancellation_by actor g (converted version s) id tries ≡ cancellation_by actor g s id tries
