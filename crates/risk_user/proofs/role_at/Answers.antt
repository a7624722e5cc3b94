-- `role_at`: a field of the record. Assumes nothing.
use Rattle.base.specs.Basics.{◌∙◌}
use Rattle.risk_user.proofs.Money.{role_is}
use Rattle.risk_user.proofs.role_at.Goals as goal

pub returns : goal.returns
returns c = c.get_u8.ensures ∙ role_is c.requires c.user_offset.ensures.0
