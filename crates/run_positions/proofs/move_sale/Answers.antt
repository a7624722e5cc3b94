-- `move_sale`: the two stores of the definition. Assumes nothing.
use Rattle.base.specs.Basics.{ap, ◌∙◌, ℕ, ◌+◌, ◌*◌, ◌-◌, arith, get_or, set}
use Rattle.run_state.proofs.Moves.{raised_le}
use Rattle.run_state.specs.Asked.{moved_one}
use Rattle.run_positions.proofs.move_sale.Goals as goal

pub fallen-requires : goal.fallen-requires
fallen-requires c = let a = c.args in
    let up = 3 * a.place + a.area in
    omega (arith, c.requires.cut_bound.1, raised_le a.positions.now up a.cut (3 * a.buyer + a.area), ap (λ (x : ℕ). get_or (set a.positions.now up x) (3 * a.buyer + a.area) 0) c.risen.ensures)

pub returns : goal.returns
unfolding moved_one
returns c = let a = c.args in
    let up = 3 * a.place + a.area in
    let down = 3 * a.buyer + a.area in
    let ps = a.positions.now in
    ap (set (set ps up c.risen.result) down) c.fallen.ensures
    ∙ ap (λ (x : ℕ). set (set ps up x) down (get_or (set ps up x) down 0 - a.cut)) c.risen.ensures
