-- `positions_by`: an area each. Assumes nothing.
use Rattle.base.specs.Basics.{arith}
use Rattle.risk_members.proofs.Holdings.{positions_borne}
use Rattle.risk_members.proofs.positions_by.Goals as goal

pub returns : goal.returns
returns c = positions_borne c.args.book.now c.requires.0 c.requires.2 c.requires.3 c.position_in-pvb.result c.position_in-tvb.result c.position_in-avb.result c.position_in-pvb.ensures c.position_in-tvb.ensures c.position_in-avb.ensures

pub user_count-n-requires : goal.user_count-n-requires
user_count-n-requires c = omega (arith, c.requires.0.held.form.head)
