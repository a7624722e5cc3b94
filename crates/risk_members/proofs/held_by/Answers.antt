-- `held_by`: an area each. Assumes nothing.
use Rattle.base.specs.Basics.{arith}
use Rattle.risk_members.proofs.Holdings.{held_three}
use Rattle.risk_members.proofs.held_by.Goals as goal

pub returns : goal.returns
returns c = held_three c.args.book.now c.requires.0 c.requires.3 c.requires.4 c.user_count-n.ensures
    c.held_in-pvb.result c.held_in-tvb.result c.held_in-avb.result c.held_in-pvb.ensures c.held_in-tvb.ensures c.held_in-avb.ensures

pub user_count-n-requires : goal.user_count-n-requires
user_count-n-requires c = omega (arith, c.requires.0.held.form.head)
