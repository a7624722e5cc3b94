-- `store_rows` stores the numbers of one user more at each turn. Assumes nothing.
use Rattle.base.specs.Basics.{◌≡◌, ◌+◌, ◌-◌, ◌*◌, ◌≤◌, ◌∙◌, ap, refl, arith, length, sets, List, ℕ}
use Rattle.fields.proofs.Sets.{part_sets}
use Rattle.exports_users.specs.Numbers.{row_numbers}
use Rattle.exports_users.proofs.Rows.{stored_all, stored_next, stored_start}
use Rattle.exports_users.proofs.store_rows.Goals as goal

pub loop-i-init : goal.loop-i-init
loop-i-init c = stored_start (omega (arith, c.well_formed)) c.requires

pub loop-i-preserved : goal.loop-i-preserved
unfolding row_numbers
loop-i-preserved c = let l = c.loop-i in
    let size : 4 * l.i + 4 - 4 * l.i ≡ 4 = omega arith in
    let four : length c.numbers_of.result ≡ 4 = rw c.numbers_of.ensures refl in
    let inside : 4 * l.i + 4 ≤ length l.answer = omega (arith, l.invariant.long, c.loop-i-test.true) in
    stored_next l.invariant _ c.loop-i-test.true
    (rw (size, c.copy_from_slice.ensures.after) (part_sets l.answer c.numbers_of.result (4 * l.i) 4 four inside) ∙ ap (λ (ns : List ℕ). sets l.answer (4 * l.i) ns) c.numbers_of.ensures)

pub returns : goal.returns
returns c = stored_all c.loop-i.invariant c.requires (omega (arith, c.loop-i-test.false))
