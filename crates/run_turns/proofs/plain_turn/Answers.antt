-- `plain_turn`: the reduction, whose cuts lie in the user's part. Assumes nothing.
use Rattle.base.specs.Basics.{◌<◌, arith}
use Rattle.run_reduction.proofs.Steps.{part_few}
use Rattle.run_turns.proofs.plain_turn.Goals as goal
use Rattle.run_turns.proofs.plain_turn.Goals.{Start}

-- the user's place is one of 64
low : (s : goal.Start) → s.args.place < 64
low s = omega (arith, s.requires.run_of.1, s.requires.run_of.0.risk.opened.accepted.held.form.users)

pub clear-requires : goal.clear-requires
clear-requires c = (c.turn-turned.ensures.cut_in.0, part_few c.requires.run_of.0 c.requires.run_of.1)

pub returns : goal.returns
returns c = record { turned_some = λ b h. record { cuts = _; turned = c.turn-turned.ensures.turned b h }; none_cut = (c.clear.ensures, c.turn-turned.ensures.cut_in.1, c.turn-turned.ensures.cut_in.2) }

pub offset_bounds-starts-place : goal.offset_bounds-starts-place
offset_bounds-starts-place c = omega (arith, low (goal.at.offset_bounds-starts-place c).Start)

pub bounds-starts-place : goal.bounds-starts-place
bounds-starts-place c = omega (arith, low (goal.at.bounds-starts-place c).Start)

pub overflow_add-to : goal.overflow_add-to
overflow_add-to c = omega (arith, low (goal.at.overflow_add-to c).Start)

pub offset_bounds-starts-place-2 : goal.offset_bounds-starts-place-2
offset_bounds-starts-place-2 c = omega (arith, low (goal.at.offset_bounds-starts-place-2 c).Start)

pub bounds-starts-place-2 : goal.bounds-starts-place-2
bounds-starts-place-2 c = omega (arith, low (goal.at.bounds-starts-place-2 c).Start)
