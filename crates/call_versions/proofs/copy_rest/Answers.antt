-- `copy_rest` lends what stands behind two places. Assumes nothing.
use Rattle.base.specs.Basics.{sym, ◌∙◌, ◌-◌, arith, length, take, drop, length-take, length-drop}
use Rattle.fields.proofs.Sets.{all_copied}
use Rattle.call_versions.proofs.Whole.{rest_copied}
use Rattle.call_versions.proofs.copy_rest.Goals as goal

pub returns : goal.returns
returns c = let a = c.args in
    rest_copied a.s.now a.out.now a.from a.to c.requires.0 c.requires.1 (c.copy_from_slice.ensures.after ∙ sym (all_copied (take (length a.s.now - a.from) (drop a.from a.s.now)) (take (length a.out.now - a.to) (drop a.to a.out.now)) (simp (length-take, length-drop) (omega arith))))
