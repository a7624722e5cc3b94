-- A sequence of requests as it happened: each with the bytes that it was given and what it gave. Assumes nothing.
use Rattle.std.specs.Prelude.{◌≡◌, ◌||◌, ◌∷◌}
use Rattle.base.specs.Basics.{Bool, Option, List, [], map, ℕ, eqb}
use Rattle.requests.specs.Carried.{Carried}
use Rattle.requests.specs.Request.{call, postings, withdrawal, Act, Outcome, Request, request}
use Rattle.rules.specs.Calls.{posting, morning_call_of, afternoon_call_of, reduction, run}

-- one request
pub record Link : Type 0 where
  pub asked : Request
  pub given : List ℕ
  pub gave : Outcome (List ℕ)

-- "Accepted means that the number returned is 0." A run that meets a full log "stops with 20 and its totals, keeps its cuts and counts as accepted".
unfoldable pub accepted_number : Act → ℕ → Bool
accepted_number (call (posting id area amount)) n = eqb n 0
accepted_number (call (morning_call_of id)) n = eqb n 0
accepted_number (call (afternoon_call_of id)) n = eqb n 0
accepted_number (call (reduction id)) n = eqb n 0
accepted_number (call run) n = eqb n 0 || eqb n 20
accepted_number (postings v) n = eqb n 0
accepted_number withdrawal n = eqb n 0

unfoldable pub is_accepted : Link → Bool
is_accepted l = accepted_number l.asked.act l.gave.answer.number

-- the requests alone
unfoldable pub requests_of : List Link → List Request
requests_of ls = map (λ l. l.asked) ls

-- From bytes s to bytes t, all requests given one store, or none, and "whatever log": each is as the contract of its public function says, with the numbers of a list's
-- lines and the log that it leaves, and is given the bytes that the last one left. The contracts give such links: Contracts.antt.
pub data Linked (store : Option (List ℕ)) : List ℕ → List Link → List ℕ → Type 0 where
  ended : {s : List ℕ} → Linked store s [] s
  then : {s t : List ℕ} {l : Link} {ls : List Link} → l.given ≡ s → l.asked.setting.store ≡ store
      → Carried l.asked l.given l.gave.answer l.gave.book → l.gave.numbers ≡ (request l.asked l.given).numbers
      → l.gave.log ≡ (request l.asked l.given).log → Linked store l.gave.book ls t → Linked store s (l ∷ ls) t
