-- The offset is added to bits below it and taken from the others, which is reading in two's complement.
use Rattle.std.proofs.Common.{refl, ◌^◌}
use Rattle.units.proofs.TwosComplement.{signed_of_below, signed_of_from}
use Rattle.units.specs.Amounts.{balance}
use Rattle.units.proofs.Balance.of_bits.Goals as goal

pub returns-then-bits-lt-OFFSET : goal.returns-then-bits-lt-OFFSET
unfolding balance
returns-then-bits-lt-OFFSET c = signed_of_below 64 (2 ^ 63) refl c.args.bits c.if-bits-lt-OFFSET.true

pub returns-else-bits-lt-OFFSET : goal.returns-else-bits-lt-OFFSET
unfolding balance
returns-else-bits-lt-OFFSET c = signed_of_from 64 (2 ^ 63) refl c.args.bits c.if-bits-lt-OFFSET.false
