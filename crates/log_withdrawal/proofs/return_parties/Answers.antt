-- `return_parties`: the fall and the rise are both in range. Assumes nothing.
use Rattle.log_withdrawal.proofs.Bounds.{buyer_can, parties_back, seller_can}
use Rattle.log_withdrawal.proofs.return_parties.Goals as goal

pub returns : goal.returns
returns c = parties_back c.requires c.lower.ensures c.raise.ensures

pub lower-requires : goal.lower-requires
lower-requires c = seller_can c.requires

pub raise-requires : goal.raise-requires
raise-requires c = buyer_can c.requires c.lower.ensures
