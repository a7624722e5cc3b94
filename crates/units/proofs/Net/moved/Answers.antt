-- What the new entry is above the old one is added to the number inside; the ranges of all three keep the sum within 32 bits.
use Rattle.std.proofs.Common.{◌≡◌, true, ◌+◌, ◌-◌, ◌≤◌, ◌<◌, ◌^◌, arith}
use Rattle.base.specs.Basics.{◌+ℤ◌, ◌-ℤ◌}
use Rattle.base.proofs.Linear.{parts_add, parts_sub}
use Rattle.rules.specs.Signed.{within}
use Rattle.units.specs.declared.Net.{Net}
use Rattle.units.specs.Amounts.{net}
use Rattle.units.proofs.Amounts.{parts_net, net-eq, net_bounds}
use Rattle.units.proofs.Net.moved.Goals as goal

-- the sum is no less than the old entry and has 32 bits
sum_fits : (x old new : Net) → within 26600000 (net x) ≡ true → (within 1000000 (net old) ≡ true) × (within 1000000 (net new) ≡ true)
    → (old.0 ≤ x.0 + new.0) × (x.0 + new.0 - old.0 < 2 ^ 32)
sum_fits x old new p e =
    omega (arith, net_bounds 26600000 x p, net_bounds 1000000 old e.0, net_bounds 1000000 new e.1)

pub overflow_sub-result : goal.overflow_sub-result
overflow_sub-result c = (sum_fits c.args.self c.args.old c.args.new c.requires.self_value c.requires.value).0

pub overflow_cast-result-4 : goal.overflow_cast-result-4
overflow_cast-result-4 c = record { fits = (sum_fits c.args.self c.args.old c.args.new c.requires.self_value c.requires.value).1 }

pub returns : goal.returns
returns c =
    let x = c.args.self in
    let old = c.args.old in
    let new = c.args.new in
    let amount = net new -ℤ net old in
    net-eq _ (net x +ℤ amount)
    (omega
    (arith, sum_fits x old new c.requires.self_value c.requires.value, parts_add (net x) amount, parts_sub (net new) (net old), parts_net x, parts_net old, parts_net new))
