-- `is_version`: a number of more than two bytes is no version. Assumes nothing.
use Rattle.call_conversion.proofs.Ways.{unknown_above}
use Rattle.call_conversion.proofs.is_version.Goals as goal

pub returns-then-version-gt65535 : goal.returns-then-version-gt65535
returns-then-version-gt65535 c = unknown_above _ c.if-version-gt65535.true
