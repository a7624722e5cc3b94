-- The offset is added to bits below it and taken from the others, which is reading in two's complement.
use Rattle.std.proofs.Common.{refl, ◌^◌}
use Rattle.units.proofs.TwosComplement.{signed_of_below, signed_of_from}
use Rattle.units.specs.Amounts.{net}
use Rattle.units.proofs.Net.of_bits.Goals as goal

pub returns-then-bits-lt-OFFSET : goal.returns-then-bits-lt-OFFSET
unfolding net
returns-then-bits-lt-OFFSET c = signed_of_below 32 (2 ^ 31) refl c.args.bits c.if-bits-lt-OFFSET.true

pub returns-else-bits-lt-OFFSET : goal.returns-else-bits-lt-OFFSET
unfolding net
returns-else-bits-lt-OFFSET c = signed_of_from 32 (2 ^ 31) refl c.args.bits c.if-bits-lt-OFFSET.false
