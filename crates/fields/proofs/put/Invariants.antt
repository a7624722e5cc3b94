-- The field is written from its first byte up: what is left to write, written, gives what the whole would have given.
use Rattle.std.proofs.Common.{◌≡◌, ◌+◌, ◌-◌, length}
use Rattle.std.proofs.Math.Seq.{sets}
use Rattle.fields.specs.Field.{to_bytes}
use Rattle.fields.proofs.put.Given as goal

abbrev pub invariant-loop-i : goal.invariant-loop-i
invariant-loop-i l = record {
  as_long : length l.s ≡ length l.initial.s;
  left : sets l.s (l.at + l.i) (to_bytes (l.w - l.i) l.x) ≡ sets l.initial.s l.at (to_bytes l.w l.v);
}
