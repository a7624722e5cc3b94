-- The public calls by a party with a lent log, given or not, are requests after the questions up to 26. A party that passes 26 has what the call gives without a party; one that
-- does not has its number, and book and log stay. Assumes nothing.
use Rattle.base.specs.Basics.{◌≡◌, ◌∙◌, ap, sym, Option, List, ℕ, suc, ℤ}
use Rattle.rules.specs.Calls.{Answer}
use Rattle.requests.specs.Logged.{LoggedAfter, PostedAfter}
use Rattle.requests.specs.Request.{Request, refused_given, request, request_after}
use Rattle.rights.proofs.Entered.{entering_book, request_stopped}
use Rattle.rights.specs.Acting.{entering_number, request_by}
use Rattle.rights.specs.Logged.{LoggedBy, PostedBy}
use Rattle.rights.specs.Party.{Party, operators}

module _ (actor : Party) (r : Request) (s : List ℕ) where
  pub passed_request : entering_number actor operators s ≡ 0 → request_by actor r s ≡ request r s
  passed_request e = ap (λ (n : ℕ). request_after n r s) (e ∙ sym (entering_book actor operators s e))

  pub stopped_request : (n : ℕ) → entering_number actor operators s ≡ suc n → request_by actor r s ≡ refused_given r.log s (suc n)
  stopped_request n e = ap (λ (k : ℕ). request_after k r s) e ∙ request_stopped r s n

-- ---- what the public calls cite

pub logged_by : {actor : Party} {r : Request} {s : List ℕ} {a : Answer} {t l m : List ℕ} → LoggedAfter (entering_number actor operators s) r s a t l m → LoggedBy actor r s a t l m
logged_by k = record { carried = record { answer = k.carried.answer; bytes = k.carried.bytes }; log = k.log }

pub posted_by : {actor : Party} {store log : Option (List ℕ)} {ids areas : List ℕ} {amounts : List ℤ} {places s : List ℕ} {number : ℕ} {t left l m : List ℕ}
    → PostedAfter (entering_number actor operators s) store log ids areas amounts places s number t left l m → PostedBy actor store log ids areas amounts places s number t left l m
posted_by k = record { logged = logged_by k.logged; beside = k.beside }
