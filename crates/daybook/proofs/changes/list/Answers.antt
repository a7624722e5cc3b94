-- `daybook::list` asks whether the list fits, asks its opening questions, and posts its lines; a log that is given is emptied. Assumes nothing.
use Rattle.base.specs.Basics.{◌≡◌, ◌∙◌, sym, ℕ, length}
use Rattle.book_format.specs.Questions.{book_number}
use Rattle.call_admission.proofs.Log.{lines_with, list_entered}
use Rattle.call_list.proofs.Opened.{list_book, list_even, list_posted}
use Rattle.requests.specs.Request.{lines_of, opening_lines, opening_with, setting_of}
use Rattle.rights.proofs.Entered.{entering_book}
use Rattle.rights.proofs.Logged.{posted_by}
use Rattle.rights.specs.Acting.{entering_number}
use Rattle.call_rights.specs.Acting.{as_party}
use Rattle.rights.specs.Party.{operators}
use Rattle.refusals.specs.Refusal.{number_in}
use Rattle.store.specs.Asked.{lent}
use Rattle.store.specs.Store.{given}
use Rattle.daybook.proofs.Logs.{emptiable}
use Rattle.daybook.proofs.Opened.{when_ok}
use Rattle.daybook.proofs.changes.list.Goals as goal
use Rattle.daybook.proofs.changes.list.Goals.{After-by_log-opened, Start}

-- the number of the questions up to 26, and of the opening questions
abbrev entered : goal.Start → ℕ
entered s = entering_number (as_party s.args.party) operators s.args.book.now

asked : (c : goal.After-by_log-opened) → let a = c.args in
    number_in c.by_log-opened.result ≡ opening_with (opening_lines (entered (goal.at.After-by_log-opened c).Start) (lines_of a.ids.now a.areas.now a.amounts.now (length a.places.now))) (setting_of (lent a.store)) (given a.with_log a.log.now) a.book.now
asked c = let a = c.args in
    let v = lines_of a.ids.now a.areas.now a.amounts.now (length a.places.now) in
    lines_with (entered (goal.at.After-by_log-opened c).Start) (setting_of (lent a.store)) v a.with_log c.fits-fits.ensures c.admit_list-admission.ensures.asked c.by_log-opened.ensures.asked

pub by_log-opened-requires : goal.by_log-opened-requires
by_log-opened-requires c = let a = c.args in
    list_entered (as_party a.party) operators (setting_of (lent a.store)) c.fits-fits.result a.book.now c.admit_list-admission.ensures.asked

book : (c : goal.After-by_log-opened) → number_in c.by_log-opened.result ≡ 0 → book_number c.args.book.now ≡ 0
book c = let a = c.args in
    list_book (entered (goal.at.After-by_log-opened c).Start) (lent a.store) a.ids.now a.areas.now a.amounts.now a.places.now a.book.now a.with_log a.log.now
    (entering_book (as_party a.party) operators a.book.now) (asked c)

pub list-outcome-requires : goal.list-outcome-requires
list-outcome-requires c = let a = c.args in record {
  book_value = when_ok _ c.by_log-opened.result (book (goal.at.list-outcome-requires c).After-by_log-opened);
  even = when_ok _ c.by_log-opened.result (list_even (entered (goal.at.list-outcome-requires c).Start) (lent a.store) a.ids.now a.areas.now a.amounts.now a.places.now a.book.now a.with_log a.log.now
      (entering_book (as_party a.party) operators a.book.now) (asked (goal.at.list-outcome-requires c).After-by_log-opened));
}

pub empty-requires : goal.empty-requires
empty-requires c = let posted = c.list-outcome in
    λ e z. emptiable c.by_log-opened.ensures.asked (book (goal.at.empty-requires c).After-by_log-opened) (sym posted.ensures.asked ∙ z) posted.auto.book e

pub returns : goal.returns
returns c = let a = c.args in
    posted_by (list_posted (entered (goal.at.returns c).Start) (lent a.store) a.ids.now a.areas.now a.amounts.now a.places.now a.book.now
    a.with_log a.log.now (entering_book (as_party a.party) operators a.book.now) (asked (goal.at.returns c).After-by_log-opened) c.list-outcome.ensures c.empty.ensures)
