-- The energy is taken from the number inside, which is no less because what is below 0 stays within 2^31.
use Rattle.std.proofs.Common.{arith}
use Rattle.base.specs.Basics.{pos, ◌-ℤ◌}
use Rattle.base.proofs.Linear.{pos_part-pos, neg_part-pos, parts_sub}
use Rattle.units.specs.Amounts.{net}
use Rattle.units.proofs.Amounts.{parts_net, net-eq}
use Rattle.units.proofs.Net.lowered.Goals as goal

pub overflow_sub-result : goal.overflow_sub-result
overflow_sub-result c = omega (arith, parts_net c.args.self)

pub returns : goal.returns
returns c =
    let x = net c.args.self in
    let e = c.args.energy.0 in
    net-eq _ (x -ℤ pos e) (omega (arith, parts_net c.args.self, parts_sub x (pos e), pos_part-pos e, neg_part-pos e))
