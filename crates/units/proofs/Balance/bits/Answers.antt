-- The highest bit of the number inside is changed, which is writing in two's complement.
use Rattle.std.proofs.Common.{refl, ◌^◌}
use Rattle.units.proofs.TwosComplement.{bits_of_below, bits_of_from}
use Rattle.units.specs.Amounts.{balance}
use Rattle.units.proofs.Balance.bits.Goals as goal

pub returns-then-self-lt-OFFSET : goal.returns-then-self-lt-OFFSET
unfolding balance
returns-then-self-lt-OFFSET c = bits_of_below 64 (2 ^ 63) refl c.args.self.0 c.if-self-lt-OFFSET.true

pub returns-else-self-lt-OFFSET : goal.returns-else-self-lt-OFFSET
unfolding balance
returns-else-self-lt-OFFSET c = bits_of_from 64 (2 ^ 63) refl c.args.self.0 c.if-self-lt-OFFSET.false
