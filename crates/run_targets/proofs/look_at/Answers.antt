-- `look_at`: asked where it has an eligible trade. Assumes nothing.
use Rattle.run_targets.proofs.Looking.{no, yes}
use Rattle.base.specs.Basics.{sym, ap, ◌∙◌, set}
use Rattle.run_targets.proofs.look_at.Goals as goal

pub returns-then-eligible-place : goal.returns-then-eligible-place
returns-then-eligible-place c = let a = c.args in
    let told = a.targets.now in
    let e = c.if-eligible-place.true in
    (ap (set told a.place) c.target_at-target.ensures ∙ sym (yes e _ told), c.lesser.ensures ∙ sym (yes e _ a.least))

pub returns : goal.returns
returns c = let a = c.args in
    let e = c.if-eligible-place.false in
    (sym (no e _ a.targets.now), sym (no e _ a.least))
