-- `raise` goes out where the questions 11 and 12 refuse; else the record that comes back is stored in its place. Assumes nothing.
use Rattle.base.specs.Basics.{List, ℕ, sym, ap, ◌∙◌, sets}
use Rattle.rules.specs.Calls.{Result, of_level}
use Rattle.book_records.specs.User.{as_user, user_bytes}
use Rattle.book_format.specs.Book.{place_of_user}
use Rattle.rules.specs.Book.{User}
use Rattle.call_guarantee.proofs.Ways.{raised_undue, raised_short, raised_full}
use Rattle.call_guarantee.proofs.raise.Goals as goal

pub returns-then-not-due : goal.returns-then-not-due
returns-then-not-due c = let a = c.args in
    let e = raised_undue a.book.now a.place (as_user a.user) a.level.0 c.if-not-due.true in
    record { result_value = sym (ap (λ (x : Result (List ℕ)). x.answer) e); book_after = sym (ap (λ (x : Result (List ℕ)). x.book) e) }

pub returns-then-user-level : goal.returns-then-user-level
unfolding as_user
returns-then-user-level c = let a = c.args in
    let e = raised_short a.book.now a.place (as_user a.user) a.level.0 c.if-not-due.false c.if-user-level.true in
    record { result_value = sym (ap (λ (x : Result (List ℕ)). x.answer) e); book_after = sym (ap (λ (x : Result (List ℕ)). x.book) e) }

pub returns : goal.returns
unfolding of_level as_user
returns c = let a = c.args in
    let e = raised_full a.book.now a.place (as_user a.user) a.level.0 c.if-not-due.false c.if-user-level.false in record {
      result_value = ap
          (of_level a.level.0) c.blocked_user-blocking.ensures.added_is ∙ sym (ap (λ (x : Result (List ℕ)). x.answer) e);
      book_after = c.put_user.ensures ∙ ap
          (λ (v : User). sets a.book.now (place_of_user a.book.now a.place) (user_bytes v)) c.blocked_user-blocking.ensures.user_is ∙ sym (ap (λ (x : Result (List ℕ)). x.book) e);
    }
