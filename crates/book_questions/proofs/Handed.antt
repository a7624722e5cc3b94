-- What a refusal that a `?` hands on says: the number of the question, and how many trades were read. Assumes nothing.
use Rattle.base.specs.Basics.{◌≡◌, ap, ℕ}
use Rattle.std.specs.Prelude.{Ok, Err, Result}
use Rattle.std.specs.Result.{IsErrAnd}
use Rattle.refusals.specs.Refusal.{number_of}
use Rattle.refusals.specs.declared.Refusal.{Refusal}
use Rattle.book_questions.specs.declared.Refused.{Refused}
use Rattle.book_questions.specs.Refused.{number_asked, read_of}

-- it was made of a refusal before any trade was read
pub refused_before : (r : Result ℕ Refused) (refusal : Refusal) → IsErrAnd r (λ x. x ≡ record { refusal = refusal; read = 0 })
    → (number_asked r ≡ number_of refusal) × (read_of r ≡ 0)
refused_before (Ok read) refusal h = absurd h
refused_before (Err x) refusal h = (ap (λ (y : Refused). number_of y.refusal) h, ap (λ (y : Refused). y.read) h)
