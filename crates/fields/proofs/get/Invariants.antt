-- The field is read from its last byte down: what is read so far is the field of its last k bytes.
use Rattle.std.proofs.Common.{◌≡◌, ◌+◌, ◌-◌}
use Rattle.fields.specs.Field.{field}
use Rattle.fields.proofs.get.Given as goal

abbrev pub invariant-loop-k : goal.invariant-loop-k
invariant-loop-k l = l.n ≡ field l.k (l.at + (l.w - l.k)) l.s
