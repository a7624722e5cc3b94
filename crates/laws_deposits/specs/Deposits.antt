-- What deposit stops the cuts, as statements. A deposit raises the assigned guarantee, which no call changes: so it is made before a run, to stop it. Each statement holds for every
-- book, amounts and set of limits, of every version: of a group only the assigned guarantee of who bears its risk counts, since nobody else is short of cover for it. None but
-- the last asks for an accepted book. The proofs stand in proofs/Deposits.antt.
use Rattle.std.specs.Prelude.{◌≡◌, ◌&&◌, ◌+◌, ◌<◌}
use Rattle.base.specs.Basics.{Bool, cond, none, Memᴰ, map, ℕ, T, leb}
use Rattle.base.specs.Lists.{all}
use Rattle.laws.specs.Statements.{AllCovered}
use Rattle.rules.specs.Book.{Book, User}
use Rattle.rules.specs.Calls.{effect, next_reduced, only, run, run_for, step}
use Rattle.rules.specs.Changes.{with_users}
use Rattle.rules.specs.Levels.{Limits, short_of_cover}
use Rattle.rules.specs.Questions.{accepted}
use Rattle.rules.specs.Reduction.{has_eligible, target}

-- a user after a deposit: its assigned guarantee is higher by the amount, all else as it was
unfoldable pub deposited : ℕ → User → User
deposited amount u =
    let p = u.party in
    record {
      party = record { id = p.id; role = p.role; charges = p.charges; assigned = p.assigned + amount; managers = p.managers };
      physical = u.physical;
      position = u.position;
      blocked = u.blocked;
    }

-- the book after each user's deposit
unfoldable pub with_deposits : (User → ℕ) → Book → Book
with_deposits amounts b = with_users b (map (λ u. deposited (amounts u) u) b.users)

-- what a user lacks: its target, "afternoon level − assigned", where it is short of cover and has an eligible trade; else nothing
unfoldable pub lacking : Limits → Book → User → ℕ
lacking limits b u = cond (short_of_cover limits b u && has_eligible b u) (target limits b u) 0

-- Where each user deposits what it lacks, no user is short of cover with an eligible trade: a run of however many reductions makes none, and leaves the book.
pub record DepositsSuffice (limits : Limits) : Type 0 where
  pub covered : (b : Book) → AllCovered limits (with_deposits (lacking limits b) b)
  pub next : (b : Book) → next_reduced limits (with_deposits (lacking limits b) b) (with_deposits (lacking limits b) b).users ≡ none
  pub run : (n : ℕ) (b : Book) → run_for limits n (with_deposits (lacking limits b) b) ≡ record { answer = only 0; book = with_deposits (lacking limits b) b }

-- No less will do: a user that is short of cover and has an eligible trade is and has so after any deposit below its target, whatever the others deposit: some user is due, and a run
-- that may reduce at all does, so the call does.
pub record DepositsLeast (limits : Limits) : Type 0 where
  pub short : (amounts : User → ℕ) (b : Book) (u : User) → T (short_of_cover limits b u) → T (has_eligible b u) → amounts u < target limits b u
      → T (short_of_cover limits (with_deposits amounts b) (deposited (amounts u) u)) × T (has_eligible (with_deposits amounts b) (deposited (amounts u) u))
  pub next : (amounts : User → ℕ) (b : Book) (u : User) → Memᴰ u b.users → T (short_of_cover limits b u) → T (has_eligible b u) → amounts u < target limits b u
      → next_reduced limits (with_deposits amounts b) (with_deposits amounts b).users ≡ none → ⊥
  pub runs : (n : ℕ) (amounts : User → ℕ) (b : Book) (u : User) → Memᴰ u b.users → T (short_of_cover limits b u) → T (has_eligible b u) → amounts u < target limits b u
      → 0 < n → 0 < (run_for limits n (with_deposits amounts b)).answer.reductions
  pub called : (amounts : User → ℕ) (b : Book) (u : User) → Memᴰ u b.users → T (short_of_cover limits b u) → T (has_eligible b u) → amounts u < target limits b u
      → 0 < (effect limits (with_deposits amounts b) run).answer.reductions

-- every assigned guarantee is at most 10^12 after its deposit, as question 5 asks
unfoldable pub deposits_valid : (User → ℕ) → Book → Bool
deposits_valid amounts b = all (λ u. leb (u.party.assigned + amounts u) 1000000000000) b.users

-- An accepted book is accepted after the deposits exactly where these are valid; a run on it, as a call, is then accepted, and does nothing where each is what the user lacks.
pub record DepositsAccepted (limits : Limits) : Type 0 where
  pub accepts : (amounts : User → ℕ) (b : Book) → T (accepted b) → accepted (with_deposits amounts b) ≡ deposits_valid amounts b
  pub steps : (b : Book) → T (accepted b) → T (deposits_valid (lacking limits b) b)
      → step limits (with_deposits (lacking limits b) b) run ≡ record { answer = only 0; book = with_deposits (lacking limits b) b }
