-- The field of the record at i is moved; past the last one all are.
use Rattle.std.proofs.Common.{ap, ◌∙◌, ℕ, ◌+◌, ◌*◌, arith}
use Rattle.fields.specs.Field.{set_field}
use Rattle.columns.proofs.Turns.{moving_turn, moving_end}
use Rattle.columns.proofs.move_fields.Goals as goal

pub loop-i-preserved : goal.loop-i-preserved
loop-i-preserved c =
    moving_turn (λ i. (c.type_inv.s i).fits) c.requires.source c.loop-i.invariant c.loop-i-test.true
    (c.put.ensures ∙ ap (λ (v : ℕ). set_field c.args.width (c.args.to.first + c.args.to.step * c.loop-i.i) v c.loop-i.out) c.get-value.ensures.0)

pub returns : goal.returns
returns c = moving_end c.loop-i.invariant (omega arith)
