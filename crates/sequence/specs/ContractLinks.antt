-- The contracts of the public functions give the links of a sequence: who has them of calls, withdrawals and lists of postings that follow one another has the sequence, and
-- with it its claim. Assumes nothing.
use Rattle.std.specs.Prelude.{◌∷◌}
use Rattle.base.specs.Basics.{Bool, Option, some, List, [], ℕ, ℤ, length}
use Rattle.requests.specs.Logged.{Logged, Posted, list_with}
use Rattle.requests.specs.Request.{call, withdrawal, act_of}
use Rattle.rules.specs.Calls.{Answer, Call, only}
use Rattle.rules.specs.Questions.{after}
use Rattle.store.specs.Store.{given}
use Rattle.sequence.specs.Links.{Link, Linked}

-- a call as it happened: given the bytes s and, where one is lent and given, the log l, it answered a and left the bytes t and the log m; it has no lines
unfoldable pub call_link : Option (List ℕ) → Bool → Call → List ℕ → Answer → List ℕ → List ℕ → List ℕ → Link
call_link store lent c s a t l m =
    record { asked = act_of store (given lent l) (call c); given = s; gave = record { answer = a; numbers = []; book = t; log = given lent m } }

-- a withdrawal as it happened, which always has a log
unfoldable pub withdrawal_link : Option (List ℕ) → List ℕ → Answer → List ℕ → List ℕ → List ℕ → Link
withdrawal_link store s a t l m =
    record { asked = act_of store (some l) withdrawal; given = s; gave = record { answer = a; numbers = []; book = t; log = some m } }

-- a list as it happened: it returned a number and left the bytes t and, in its places, what they hold afterwards. Those are its lines' numbers; "a refused call leaves those
-- places unchanged", so what they then hold is no line's number
unfoldable pub list_link : Option (List ℕ) → Bool → List ℕ → List ℕ → List ℤ → List ℕ → List ℕ → ℕ → List ℕ → List ℕ → List ℕ → List ℕ → Link
list_link store lent ids areas amounts places s number t left l m =
    record {
      asked = list_with store (given lent l) ids areas amounts (length places);
      given = s;
      gave = record { answer = only number; numbers = after number (λ n. []) left; book = t; log = given lent m };
    }

-- by the contract of a public function, before any sequence from the bytes that it left
pub record ContractsLink (store : Option (List ℕ)) : Type 0 where
  -- a posting, a guarantee call, a reduction and a run
  pub carried_links : {s t u l m : List ℕ} {c : Call} {a : Answer} {ls : List Link} (lent : Bool) → Logged (act_of store (given lent l) (call c)) s a t l m
      → Linked store t ls u → Linked store s (call_link store lent c s a t l m ∷ ls) u
  -- a withdrawal
  pub withdrawn_links : {s t u l m : List ℕ} {a : Answer} {ls : List Link} → Logged (act_of store (some l) withdrawal) s a t l m
      → Linked store t ls u → Linked store s (withdrawal_link store s a t l m ∷ ls) u
  -- a list of postings, by what stands in its places
  pub posted_links : {s t u ids areas places left l m : List ℕ} {amounts : List ℤ} {number : ℕ} {ls : List Link} (lent : Bool)
      → Posted store (given lent l) ids areas amounts places s number t left l m
      → Linked store t ls u → Linked store s (list_link store lent ids areas amounts places s number t left l m ∷ ls) u
