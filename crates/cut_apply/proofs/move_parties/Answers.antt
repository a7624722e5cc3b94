-- `move_parties`: the rise and the fall are both in range. Assumes nothing.
use Rattle.cut_apply.proofs.Parties.{buyer_can, parties_moved}
use Rattle.cut_apply.proofs.move_parties.Goals as goal

pub returns : goal.returns
returns c = parties_moved c.requires c.raise.ensures c.lower.ensures

pub lower-requires : goal.lower-requires
lower-requires c = buyer_can c.requires c.raise.ensures
