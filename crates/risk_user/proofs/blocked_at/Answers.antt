-- `blocked_at`: a field of the record. Assumes nothing.
use Rattle.base.specs.Basics.{◌∙◌}
use Rattle.risk_user.proofs.Money.{blocked_is}
use Rattle.risk_user.proofs.blocked_at.Goals as goal

pub returns : goal.returns
returns c = c.get_u64.ensures ∙ blocked_is c.requires c.user_offset.ensures.0
