-- Question 26 after those of the book and before those of the setting; what is asked after a refusal changes nothing. Assumes nothing.
use Rattle.base.specs.Basics.{◌≡◌, refl, Option, none, some, List, ℕ, suc}
use Rattle.book_format.specs.Book.{book_of}
use Rattle.book_format.specs.Questions.{book_number}
use Rattle.rules.specs.Calls.{call_after, unchanged}
use Rattle.rules.specs.Queries.{Query, only_number, reply_after}
use Rattle.rules.specs.Questions.{after}
use Rattle.requests.specs.Cancellation.{cancellation_after, cancellation_in, not_cancelled}
use Rattle.requests.specs.Request.{call, postings, withdrawal, Act, Request, Setting, act_by, act_in, act_with, as_bytes, enquiry_after, logged_after, opening_in, opening_lines, opening_with_in, outcome, refused_given, request_after, request_in, step_in, withdrawal_after}
use Rattle.rights.specs.Acting.{entering_number}
use Rattle.rights.specs.Party.{Matter, Party, right_number}
use Rattle.rights.specs.Trades.{Asking, told_after, told_in, told_number}
use Rattle.laws.proofs.Refusals.{first_zero}

module _ (actor : Party) (m : Matter) (s : List ℕ) where
  -- where the questions up to 26 are passed, those of the book are
  pub entering_book : entering_number actor m s ≡ 0 → book_number s ≡ 0
  unfolding entering_number
  entering_book e = first_zero (book_number s) (right_number (book_of s) actor m) e

-- ---- a refusal by the questions up to 26

-- book and log as they were
pub request_stopped : (r : Request) (s : List ℕ) (n : ℕ) → request_after (suc n) r s ≡ refused_given r.log s (suc n)
unfolding request_in act_by act_in act_with step_in call_after unchanged outcome opening_in opening_lines opening_with_in logged_after withdrawal_after refused_given after
request_stopped r s n = go r.setting r.log r.act
  where
    go : (g : Setting) (log : Option (List ℕ)) (a : Act) → act_by as_bytes (suc n) g log s a ≡ refused_given log s (suc n)
    go g none (call c) = refl
    go g none (postings v) = refl
    go g none withdrawal = refl
    go g (some l) (call c) = refl
    go g (some l) (postings v) = refl
    go g (some l) withdrawal = refl

pub enquiry_stopped : (g : Setting) (s : List ℕ) (q : Query) (n : ℕ) → enquiry_after (suc n) g s q ≡ only_number (suc n)
unfolding enquiry_after reply_after opening_in after
enquiry_stopped g s q n = refl

pub told_stopped : (g : Setting) (s : List ℕ) (a : Asking) (n : ℕ) → told_in (suc n) g s a ≡ told_number (suc n)
unfolding told_in told_after opening_in after
told_stopped g s a n = refl

pub cancellation_stopped : (g : Setting) (s : List ℕ) (id tries n : ℕ) → cancellation_in (suc n) g s id tries ≡ not_cancelled (suc n)
unfolding cancellation_in cancellation_after opening_in after
cancellation_stopped g s id tries n = refl
