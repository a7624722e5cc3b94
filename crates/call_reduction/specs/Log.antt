-- A reduction with a lent log, given or not. Assumes nothing.
use Rattle.std.specs.Prelude.{◌≡◌, ◌∷◌}
use Rattle.base.specs.Basics.{Bool, true, false, cond, List, ℕ}
use Rattle.book_format.specs.After.{CalledAfter}
use Rattle.log_format.specs.Log.{entries_of, log_bytes}
use Rattle.requests.specs.Logged.{GivesLogged}
use Rattle.requests.specs.Request.{as_bytes, logged_after}
use Rattle.rules.specs.Calls.{Answer}
use Rattle.rules.specs.Levels.{Limits}
use Rattle.rules.specs.Questions.{after}
use Rattle.call_reduction.specs.Call.{reduction_of}

-- a lent log after a reduction by its number: "A reduction adds an entry", what each trade of the book s loses, and the log holds the book t that it leaves;
-- "a refused call leaves it"
unfoldable pub noted_by : Bool → ℕ → List ℕ → List ℕ → List ℕ → List ℕ → List ℕ
noted_by lent number loss s t l = cond lent (after number (λ n. l) (log_bytes (loss ∷ entries_of s l) t)) l

-- the contract of the function `reduction`: the call without a log, or with the one that is given
pub record ReducedWith (lent : Bool) (number : ℕ) (limits : Limits) (l s : List ℕ) (id : ℕ) (a : Answer) (t m : List ℕ) : Type 0 where
  pub without : lent ≡ false → CalledAfter number limits s (reduction_of id) a t
  pub stays : lent ≡ false → m ≡ l
  pub within : lent ≡ true → GivesLogged (logged_after as_bytes number limits l s (reduction_of id)) a t m
