-- `count` is refused by the entry, or counts the trades. Assumes nothing.
use Rattle.base.specs.Basics.{◌∙◌, ap, false, refl, subst, [], ℕ}
use Rattle.std.proofs.Common.{IfOk}
use Rattle.refusals.proofs.Numbers.{handed_on, refused-nonzero}
use Rattle.book_questions.specs.Opened.{OpenedParties}
use Rattle.rights.specs.Trades.{count_of, id_of, tells, told_number}
use Rattle.call_told.proofs.Asked.{found_above, told_found, told_refused}
use Rattle.call_told.proofs.count.Goals as goal

pub returns-in_err-seek_shipper : goal.returns-in_err-seek_shipper
unfolding told_number id_of
returns-in_err-seek_shipper c = λ limits.
    rw (handed_on c.from_residual.ensures.1) (told_refused _ c.args.book.now (count_of c.args.id) c.in_err-seek_shipper.ensures.asked limits (refused-nonzero c.in_err-seek_shipper.field-0.0))

pub count_seen-requires : goal.count_seen-requires
count_seen-requires c = let a = c.args in
    let f = c.in_ok-seek_shipper.ensures.found in
    let o = subst (λ o. IfOk o (λ limits. OpenedParties a.book.now a.sellers.now a.buyers.now)) f.0 c.requires in
    (o.book, found_above f.1)

pub returns : goal.returns
unfolding tells id_of
returns c = λ limits. ap (λ (n : ℕ). record { number = 0; flagged = false; count = n; part = [] }) c.count_seen.ensures
    ∙ told_found _ c.args.book.now (count_of c.args.id) c.in_ok-seek_shipper.ensures.asked limits refl
