-- The highest bit of the number inside is changed, which is writing in two's complement.
use Rattle.std.proofs.Common.{refl, ◌^◌}
use Rattle.units.proofs.TwosComplement.{bits_of_below, bits_of_from}
use Rattle.units.specs.Amounts.{net}
use Rattle.units.proofs.Net.bits.Goals as goal

pub returns-then-self-lt-OFFSET : goal.returns-then-self-lt-OFFSET
unfolding net
returns-then-self-lt-OFFSET c = bits_of_below 32 (2 ^ 31) refl c.args.self.0 c.if-self-lt-OFFSET.true

pub returns-else-self-lt-OFFSET : goal.returns-else-self-lt-OFFSET
unfolding net
returns-else-self-lt-OFFSET c = bits_of_from 32 (2 ^ 31) refl c.args.self.0 c.if-self-lt-OFFSET.false
