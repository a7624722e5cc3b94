-- `charges_at`: a field of the record, with its sign. Assumes nothing.
use Rattle.base.specs.Basics.{ap, ◌∙◌}
use Rattle.rules.specs.Signed.{signed_of}
use Rattle.risk_user.proofs.Money.{charges_is}
use Rattle.risk_user.proofs.charges_at.Goals as goal

pub returns : goal.returns
returns c = c.of_bits.ensures ∙ ap (signed_of 64) c.get_u64.ensures ∙ charges_is c.requires c.user_offset.ensures.0
