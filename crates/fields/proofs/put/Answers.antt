-- One byte written is the first of those that were left to write.
use Rattle.std.proofs.Common.{◌≡◌, ◌+◌, ◌-◌, arith}
use Rattle.std.proofs.Math.ListN.{length-set}
use Rattle.fields.specs.Field.{to_bytes, set_field}
use Rattle.fields.proofs.Field.{to_bytes_step}
use Rattle.fields.proofs.put.Goals as goal

pub loop-i-preserved : goal.loop-i-preserved
loop-i-preserved c =
    let e : c.args.at + (c.loop-i.i + 1) ≡ c.args.at + c.loop-i.i + 1 = omega arith in
    let k : c.args.w - (c.loop-i.i + 1) ≡ c.args.w - c.loop-i.i - 1 = omega arith in
    record {
      as_long = simp length-set c.loop-i.invariant.as_long;
      left = rw (e, k, ← to_bytes_step (c.args.w - c.loop-i.i) (c.args.at + c.loop-i.i) c.loop-i.x c.loop-i.s (omega arith)) c.loop-i.invariant.left;
    }

pub returns : goal.returns
unfolding set_field to_bytes
returns c =
    let k : c.args.w - c.loop-i.i ≡ 0 = omega arith in
    rw k at c.loop-i.invariant.left
