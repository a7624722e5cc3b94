-- `form` asks for room after the opening questions, and writes the form over the front of the output. Assumes nothing.
use Rattle.base.specs.Basics.{◌≡◌, sym, ap, length-take-le}
use Rattle.refusals.specs.Refusal.{number_in}
use Rattle.refusals.proofs.Numbers.{handed_on, refused-nonzero}
use Rattle.book_format.specs.Questions.{book_number}
use Rattle.outputs.proofs.Ways.{wrote_before}
use Rattle.book_columns.specs.Form.{form_of}
use Rattle.book_columns.specs.Calls.{about_room, stored_after}
use Rattle.call_columns.proofs.Ways.{book_laid, form_short, form_written}
use Rattle.call_columns.proofs.form.Goals as goal
use Rattle.call_columns.proofs.form.Goals.{In_ok-opened}

pub returns-in_err-opened : goal.returns-in_err-opened
unfolding stored_after
returns-in_err-opened c = let a = c.args in
    rw (handed_on c.from_residual.ensures.1, ap number_in c.in_err-opened.was)
    (wrote_before (about_room (form_of a.book.now) a.out.now) (form_of a.book.now) a.out.now _ (refused-nonzero _))

-- past the opening questions the book is accepted
opened : (c : goal.In_ok-opened) → number_in c.args.opened ≡ 0
opened c = ap number_in c.in_ok-opened.was

accepted : (c : goal.In_ok-opened) → book_number c.args.book.now ≡ 0
accepted c = c.requires (opened c)

pub returns-then-out-size : goal.returns-then-out-size
returns-then-out-size c = let a = c.args in
    form_short a.book.now a.out.now (opened (goal.at.returns-then-out-size c).In_ok-opened) (accepted (goal.at.returns-then-out-size c).In_ok-opened) c.if-out-size.true

pub slice_bounds-rearrange-end-2 : goal.slice_bounds-rearrange-end-2
slice_bounds-rearrange-end-2 c = sym (length-take-le _ _ c.if-out-size.false)

pub rearrange-requires : goal.rearrange-requires
rearrange-requires c = (book_laid c.args.book.now (accepted (goal.at.rearrange-requires c).In_ok-opened), length-take-le _ _ c.if-out-size.false)

pub returns : goal.returns
returns c = let a = c.args in
    form_written a.book.now a.out.now (opened (goal.at.returns c).In_ok-opened) (accepted (goal.at.returns c).In_ok-opened) c.if-out-size.false c.rearrange.ensures
