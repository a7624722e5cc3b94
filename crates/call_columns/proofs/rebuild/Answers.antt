-- `rebuild` rearranges only bytes of the shape of a form, and asks the book that they yield. Assumes nothing.
use Rattle.base.specs.Basics.{◌≡◌, sym, ◌∙◌, true, ◌≤◌, arith, length, length-take-le}
use Rattle.base.proofs.Tests.{holds}
use Rattle.book_columns.specs.Form.{shaped}
use Rattle.book_columns.proofs.Forms.{shaped_laid}
use Rattle.call_columns.proofs.Ways.{passes_number, rebuilt, rebuilt_fits, rebuilt_not, shaped_fits}
use Rattle.call_columns.proofs.rebuild.Goals as goal
use Rattle.call_columns.proofs.rebuild.Goals.{Else-not-is_shaped}

pub returns-then-not-is_shaped : goal.returns-then-not-is_shaped
returns-then-not-is_shaped c = let a = c.args in
    rebuilt_not a.form.now a.room.now (sym c.is_shaped.ensures ∙ c.if-not-is_shaped.true)

is-shaped : (c : goal.Else-not-is_shaped) → shaped c.args.form.now ≡ true
is-shaped c = sym c.is_shaped.ensures ∙ c.if-not-is_shaped.false

-- the form fits the room
fits : (c : goal.Else-not-is_shaped) → let a = c.args in length a.form.now ≤ length a.room.now
fits c = omega (arith, shaped_fits c.args.form.now (holds (is-shaped c)), c.requires)

pub slice_bounds-rearrange-end : goal.slice_bounds-rearrange-end
slice_bounds-rearrange-end c = fits c

pub slice_bounds-rearrange-end-2 : goal.slice_bounds-rearrange-end-2
slice_bounds-rearrange-end-2 c = sym (length-take-le _ _ (fits (goal.at.slice_bounds-rearrange-end-2 c).Else-not-is_shaped))

pub rearrange-requires : goal.rearrange-requires
rearrange-requires c = (shaped_laid c.args.form.now (holds (is-shaped (goal.at.rearrange-requires c).Else-not-is_shaped)), length-take-le _ _ (fits (goal.at.rearrange-requires c).Else-not-is_shaped))

pub slice_bounds-check-end : goal.slice_bounds-check-end
slice_bounds-check-end c = let a = c.args in
    rebuilt_fits a.form.now a.room.now (is-shaped (goal.at.slice_bounds-check-end c).Else-not-is_shaped) c.rearrange.ensures

pub slice_bounds-check-end-2 : goal.slice_bounds-check-end-2
slice_bounds-check-end-2 c = let a = c.args in
    sym (length-take-le _ _ (rebuilt_fits a.form.now a.room.now (is-shaped (goal.at.slice_bounds-check-end-2 c).Else-not-is_shaped) c.rearrange.ensures))

pub returns : goal.returns
returns c = rebuilt c.args.form.now c.args.room.now (is-shaped (goal.at.returns c).Else-not-is_shaped) c.requires c.rearrange.ensures c.check-asked.ensures (c.is_ok.ensures.value ∙ passes_number c.check-asked.result)
