-- The sales that remain are one fewer in each call.
use Rattle.std.proofs.Common.{◌-◌}
use Rattle.cut_worth.proofs.+worth_from.Given as goal

abbrev pub decreases-worth_from : goal.decreases-worth_from
decreases-worth_from l = l.to - l.from
