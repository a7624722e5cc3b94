-- `shorts_at`: for each area. Assumes nothing.
use Rattle.run_positions.proofs.Filling.{short_each}
use Rattle.run_positions.proofs.shorts_at.Goals as goal

pub returns : goal.returns
returns c = short_each c.args.positions.now c.args.place c.is_short-pvb.ensures c.is_short-tvb.ensures c.is_short-avb.ensures
