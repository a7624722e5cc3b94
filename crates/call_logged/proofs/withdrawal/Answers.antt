-- `withdrawal` is refused by an opening question, has no entry to withdraw, or withdraws the last. Assumes nothing.
use Rattle.base.specs.Basics.{◌≡◌, refl, sym, ◌∙◌, arith, T}
use Rattle.std.proofs.lemmas.Result.{IfOk-at_ok}
use Rattle.refusals.proofs.Numbers.{handed_on, refused-nonzero}
use Rattle.refusals.specs.Refusal.{number_of}
use Rattle.book_questions.specs.Opened.{OpenedParties}
use Rattle.log_format.proofs.Read.{FitLog, fits_facts}
use Rattle.log_format.specs.Fits.{log_fits}
use Rattle.log_format.specs.Log.{count_of_entries}
use Rattle.call_logged.proofs.LastEntry.{some_left, withdrawal_none, withdrawal_refused}
use Rattle.call_logged.proofs.withdrawal.Goals as goal
use Rattle.call_logged.proofs.withdrawal.Goals.{After-get_u32-count, In_ok-opened}

fits : (c : goal.In_ok-opened) → T (log_fits c.args.log.now c.args.book.now)
fits c = IfOk-at_ok (λ limits. T (log_fits c.args.log.now c.args.book.now)) c.in_ok-opened.was c.requires.t

facts : (c : goal.In_ok-opened) → FitLog c.args.log.now c.args.book.now
facts c = fits_facts c.args.log.now c.args.book.now (fits c)

count : (c : goal.After-get_u32-count) → c.get_u32-count.result ≡ count_of_entries c.args.log.now
unfolding count_of_entries
count c = c.get_u32-count.ensures

pub returns-in_err-opened : goal.returns-in_err-opened
returns-in_err-opened c = let a = c.args in let e = c.in_err-opened.field-0.0 in
    rw (c.in_err-opened.was, handed_on c.from_residual.ensures.1) (withdrawal_refused a.book.now a.log.now (number_of e) (refused-nonzero e) refl)

pub get_u32-count-requires : goal.get_u32-count-requires
get_u32-count-requires c = omega (arith, (facts c).size)

pub returns-then-count-eq0 : goal.returns-then-count-eq0
returns-then-count-eq0 c = let a = c.args in
    rw c.in_ok-opened.was (withdrawal_none a.book.now a.log.now refl (sym (count (goal.at.returns-then-count-eq0 c).After-get_u32-count) ∙ c.if-count-eq0.true) refl)

pub overflow_sub-count : goal.overflow_sub-count
overflow_sub-count c = some_left c.if-count-eq0.false

pub withdraw_last-requires : goal.withdraw_last-requires
withdraw_last-requires c = let a = c.args in (
  (IfOk-at_ok (λ limits. OpenedParties a.book.now a.sellers.now a.buyers.now) c.in_ok-opened.was c.requires.opened_parties).book,
  fits (goal.at.withdraw_last-requires c).In_ok-opened,
  (let l = some_left c.if-count-eq0.false in omega (arith, count (goal.at.withdraw_last-requires c).After-get_u32-count, l)),
)

pub returns : goal.returns
returns c = rw c.in_ok-opened.was c.withdraw_last.ensures
