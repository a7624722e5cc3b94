-- `through`: from one better set to the next, in whatever search they are. Assumes nothing.
use Rattle.base.specs.Basics.{refl, inl, inr, arith}
use Rattle.cut_sets.proofs.Counting.{going_end, going_first, going_skip, going_take}
use Rattle.cut_sets.proofs.through.Goals as goal

pub first_better-requires : goal.first_better-requires
first_better-requires c = record { few = c.requires.few; inside = c.loop-best.invariant.inside; most = λ k h m. c.requires.most k (omega (arith, c.loop-best.invariant.on, h)) m }

pub returns-in_default : goal.returns-in_default
returns-in_default c = going_end (going_skip c.loop-best.invariant c.if-best-spare.false c.in_default.ensures) (inr refl)

pub loop-best-preserved : goal.loop-best-preserved
loop-best-preserved c = going_take c.loop-best.invariant c.if-best-spare.false c.in-Some.ensures.0 c.in-Some.ensures.1 refl refl refl

pub loop-best-init : goal.loop-best-init
loop-best-init c = going_first c.requires

pub returns-then-best-spare : goal.returns-then-best-spare
returns-then-best-spare c = going_end c.loop-best.invariant (inl c.if-best-spare.true)

pub loop-best-smaller : goal.loop-best-smaller
loop-best-smaller c = omega (arith, c.in-Some.ensures.0.on, c.loop-best-test.true)

pub returns : goal.returns
returns c = going_end c.loop-best.invariant (inr (omega (arith, c.loop-best-test.false, c.loop-best.invariant.inside)))
