-- `look_again`: who is asked anew at the sales that are left gives all. Assumes nothing.
use Rattle.base.specs.Basics.{sym, ◌∙◌, ◌≤◌, arith, length}
use Rattle.run_targets.proofs.Looking.{looked_end, looked_more, looked_skip, looked_start}
use Rattle.run_targets.proofs.look_again.Goals as goal
use Rattle.run_targets.proofs.look_again.Goals.{then-cuts-i-gt0, else-cuts-i-gt0}

pub loop-i-init : goal.loop-i-init
loop-i-init c = (omega arith, looked_start c.requires.4)

pub look_at-low-requires : goal.look_at-low-requires
look_at-low-requires c = let inside = c.requires.1.inside c.loop-i.i c.loop-i.invariant.0 c.loop-i-test.true in
    (c.requires.0, record { form = c.requires.1.form; inside = omega (arith, inside, c.index-place.ensures.0) }, c.requires.2)

pub loop-i-preserved : goal.loop-i-preserved
loop-i-preserved c = let a = c.args in
    let h = c.loop-i-test.true in
    let b-room : a.to ≤ length a.sale_buyers.now = omega (arith, c.requires.1.few, c.requires.1.room) in
    let c-room : a.to ≤ length a.cuts.now = omega (arith, c.requires.1.few, c.requires.3) in
    let inside = c.requires.1.inside c.loop-i.i c.loop-i.invariant.0 h in (
      omega (arith, c.loop-i.invariant.0),
      elim c.if-cuts-i-gt0.branch [
        | then-cuts-i-gt0 w ↦ looked_more b-room c-room h c.loop-i.invariant.1 w.if-cuts-i-gt0.true w.index-place.result (sym w.index-place.ensures.0)
            (omega (arith, inside, w.index-place.ensures.0, c.requires.1.form.users)) (w.targets-is ∙ w.look_at-low.ensures.0) (w.low-is ∙ w.look_at-low.ensures.1)
        | else-cuts-i-gt0 w ↦ looked_skip b-room c-room h c.loop-i.invariant.1 w.if-cuts-i-gt0.false w.targets-is w.low-is
      ],
    )

pub returns : goal.returns
returns c = looked_end c.loop-i-test.false c.loop-i.invariant.1
