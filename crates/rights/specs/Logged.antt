-- Document 02, ask 9: the contracts of the public calls that a log is lent to, given or not, by an acting party. Every call that is given a log is the operator's. Assumes nothing.
use Rattle.std.specs.Prelude.{◌≡◌}
use Rattle.base.specs.Basics.{Option, List, ℕ, ℤ, length}
use Rattle.rules.specs.Calls.{Answer, only}
use Rattle.rules.specs.Questions.{after}
use Rattle.requests.specs.Logged.{lent_log, list_with}
use Rattle.requests.specs.Request.{Request}
use Rattle.rights.specs.Acting.{CarriedBy, request_by}
use Rattle.rights.specs.Party.{Party}

-- a call or a withdrawal: bytes before, answer, bytes after; the lent log before and after
pub record LoggedBy (actor : Party) (r : Request) (s : List ℕ) (a : Answer) (t l m : List ℕ) : Type 0 where
  pub carried : CarriedBy actor r s a t
  pub log : m ≡ lent_log (request_by actor r s).log l

-- a list of postings, its places with it: "a refused call leaves those places unchanged"
pub record PostedBy (actor : Party) (store log : Option (List ℕ)) (ids areas : List ℕ) (amounts : List ℤ) (places s : List ℕ) (number : ℕ) (t left l m : List ℕ) : Type 0 where
  pub logged : LoggedBy actor (list_with store log ids areas amounts (length places)) s (only number) t l m
  pub beside : left ≡ after number (λ n. places) (request_by actor (list_with store log ids areas amounts (length places)) s).numbers
