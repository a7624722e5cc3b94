-- The two sides of the sum are compared, each without a sign: the entry inside with what flows in, and the offset with what flows out.
use Rattle.std.proofs.Common.{◌≡◌, ◌≤◌, ◌∙◌, sym, ltb-true, ltb-false, ℕ, ◌+◌, ◌^◌, arith}
use Rattle.base.specs.Basics.{ℤ, ◌+ℤ◌}
use Rattle.base.specs.Parts.{pos_part, neg_part}
use Rattle.base.proofs.Linear.{parts_add, pos_part_of, neg_part_of}
use Rattle.base.proofs.Signs.{kept_parts}
use Rattle.units.specs.declared.Net.{Net}
use Rattle.units.specs.Amounts.{net}
use Rattle.units.proofs.Amounts.{parts_net, le-within, lt-within, net-eq}
use Rattle.units.proofs.Net.posted.Goals as goal
use Rattle.units.proofs.Net.posted.Goals.{then-above-below, else-above-below}

-- the parts of the sum, by what flows in and out
sum-parts : (old : Net) (z : ℤ) {i o : ℕ} → (i ≡ pos_part z) × (o ≡ neg_part z)
    → pos_part (net old +ℤ z) + (2 ^ 31 + o) ≡ old.0 + i + neg_part (net old +ℤ z)
sum-parts old z e = omega (arith, parts_net old, parts_add (net old) z)

pub returns-then-below-above : goal.returns-then-below-above
returns-then-below-above c =
    let z = net c.args.self +ℤ c.args.amount in
    let e = sum-parts c.args.self c.args.amount (kept_parts c.args.amount c.ranges.amount c.of-flow.ensures.inflow_value) in
    elim c.if-above-below.branch [
      | then-above-below w ↦ lt-within 1000000 z (omega arith)
      | else-above-below w ↦ lt-within 1000000 z (omega (arith, ltb-true _ _ (sym w.value-is ∙ c.if-below-above.true)))
    ]

pub returns-else-below-above : goal.returns-else-below-above
returns-else-below-above c =
    let z = net c.args.self +ℤ c.args.amount in
    let e = sum-parts c.args.self c.args.amount (kept_parts c.args.amount c.ranges.amount c.of-flow.ensures.inflow_value) in
    let flow = c.of-flow.result in
    let above = c.args.self.0 + flow.inflow.0 in
    let below = 2 ^ 31 + flow.outflow.0 in
    elim c.if-above-below.branch [
      | then-above-below w ↦ absurd (omega (arith, ltb-false _ _ (sym w.value-is ∙ c.if-below-above.false)))
      | else-above-below w ↦
          let low : above ≤ below + 1000000 = ltb-false _ _ (sym w.value-is ∙ c.if-below-above.false) in
          (le-within 1000000 z (omega (arith, pos_part_of z above below e, neg_part_of z above below e)), net-eq _ z (omega arith))
    ]
