-- A book that fails one of the questions 1 to 7 gives its number, whoever asks and whatever for. Assumes nothing.
use Rattle.base.specs.Basics.{◌≡◌, ◌∙◌, ap, List, ℕ, suc}
use Rattle.book_format.specs.Book.{book_of}
use Rattle.book_format.specs.Questions.{book_number}
use Rattle.outputs.specs.Output.{refused, written, written_after}
use Rattle.requests.specs.Cancellation.{cancellation_in}
use Rattle.rights.proofs.Entered.{cancellation_stopped, told_stopped}
use Rattle.rights.proofs.Logged.{stopped_request}
use Rattle.rights.proofs.Replied.{stopped_enquiry}
use Rattle.rights.specs.Acting.{entering_number}
use Rattle.rights.specs.Claim.{BookFirst}
use Rattle.rights.specs.Outputs.{written_by}
use Rattle.rights.specs.Party.{Matter, Party, matter_of, operators, own, right_number}
use Rattle.rights.specs.Trades.{id_of, told_in}
use Rattle.laws.proofs.Refusals.{after_refused}

failing : (actor : Party) (m : Matter) (s : List ℕ) (n : ℕ) → book_number s ≡ suc n → entering_number actor m s ≡ suc n
unfolding entering_number
failing actor m s n e = after_refused (λ k. k) (right_number (book_of s) actor m) e

pub book_first_claim : BookFirst
unfolding written_by written_after
book_first_claim =
    record {
      act = λ actor r s n e. stopped_request actor r s n (failing actor operators s n e);
      query = λ actor g s q n e. stopped_enquiry actor g s q n (failing actor (matter_of q) s n e);
      told = λ actor g s a n e. ap (λ (k : ℕ). told_in k g s a) (failing actor (own (id_of a)) s n e) ∙ told_stopped g s a n;
      cancel = λ actor g s id tries n e. ap (λ (k : ℕ). cancellation_in k g s id tries) (failing actor operators s n e) ∙ cancellation_stopped g s id tries n;
      write = λ actor s qs xs out n e. after_refused (refused out) (written qs xs out) (failing actor operators s n e);
    }
