-- `flag` is refused by the entry, or tells whether the user at its place is flagged. Assumes nothing.
use Rattle.base.specs.Basics.{◌∙◌, ap, refl, Bool, []}
use Rattle.refusals.proofs.Numbers.{handed_on, refused-nonzero}
use Rattle.rules.specs.Levels.{flagged}
use Rattle.units.specs.Limits.{as_limits}
use Rattle.book_format.specs.Book.{book_of}
use Rattle.call_entry.proofs.Calls.{found_at}
use Rattle.rights.specs.Trades.{flag_of, id_of, tells, told_number}
use Rattle.call_told.proofs.Asked.{told_found, told_refused}
use Rattle.call_told.proofs.flag.Goals as goal

pub returns-in_err-entry : goal.returns-in_err-entry
unfolding told_number id_of
returns-in_err-entry c = rw (handed_on c.from_residual.ensures.1) (told_refused _ c.args.book.now (flag_of c.args.id) c.in_err-entry.ensures.asked _ (refused-nonzero c.in_err-entry.field-0.0))

pub returns : goal.returns
unfolding tells id_of
returns c = let s = c.args.book.now in
    let f = c.in_ok-entry.ensures.found in
    let limits = as_limits c.in_ok-entry.entry.limits in
    rw f.0 (ap (λ (x : Bool). record { number = 0; flagged = x; count = 0; part = [] }) (c.is_flagged.ensures ∙ ap (flagged limits (book_of s)) (found_at f.1))
    ∙ told_found 0 s (flag_of c.args.id) (rw f.0 at c.in_ok-entry.ensures.asked) limits refl)
