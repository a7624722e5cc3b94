-- The energy is added to the number inside; the sum fits because what is above 0 stays below 2^31.
use Rattle.std.proofs.Common.{arith}
use Rattle.base.specs.Basics.{pos, ◌+ℤ◌}
use Rattle.base.proofs.Linear.{pos_part-pos, neg_part-pos, parts_add}
use Rattle.units.specs.Amounts.{net}
use Rattle.units.proofs.Amounts.{pos_part-net, parts_net, net-eq}
use Rattle.units.proofs.Net.raised.Goals as goal

pub overflow_cast-result-2 : goal.overflow_cast-result-2
overflow_cast-result-2 c = omega (arith, pos_part-net c.args.self)

pub returns : goal.returns
returns c =
    let x = net c.args.self in
    let e = c.args.energy.0 in
    net-eq _ (x +ℤ pos e) (omega (arith, parts_net c.args.self, parts_add x (pos e), pos_part-pos e, neg_part-pos e))
