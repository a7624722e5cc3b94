-- `next_turn`: by the cuts that what is kept tells, or as any other. Assumes nothing.
use Rattle.base.specs.Basics.{◌<◌, arith}
use Rattle.run_reduction.proofs.Steps.{part_rises, run_prices, sales_in}
use Rattle.run_turns.proofs.Others.{keeps_nothing}
use Rattle.run_turns.proofs.Sweeps.{sweep_cuts, sweep_end}
use Rattle.run_turns.proofs.Turning.{reached_now}
use Rattle.run_turns.proofs.long.next_turn.Goals as goal
use Rattle.run_turns.proofs.long.next_turn.Goals.{Start}

-- the user's place is one of 64
low : (s : goal.Start) → s.args.place < 64
low s = omega (arith, s.requires.run_of.1, s.requires.run_of.0.risk.opened.accepted.held.form.users)

pub chosen-requires : goal.chosen-requires
chosen-requires c = let q = c.requires.run_of.0 in
    let k = c.requires.run_of.1 in
    record { in_range = (run_prices q, sales_in q k (reached_now c.requires.ongoing.0.going), part_rises q k, c.requires.ongoing.1, c.requires.run_of.2, low (goal.at.chosen-requires c).Start); kept_for = c.requires.keeps.kept }

pub sweep-requires : goal.sweep-requires
sweep-requires c = record { run_of = c.requires.run_of; ongoing = c.requires.ongoing.0; sweepable = c.in-Filled.ensures }

pub returns-in-Filled : goal.returns-in-Filled
returns-in-Filled c = record { turned_some = λ b h. record { cuts = _; turned = c.sweep.ensures.turned b h }; none_cut = (c.sweep.ensures.none_cut.0, c.requires.ongoing.2, c.sweep.ensures.none_cut.1, c.sweep.ensures.none_cut.2) }

pub clear-requires : goal.clear-requires
clear-requires c = let r = c.in-Partial.ensures in
    (sweep_cuts r, sweep_end c.requires.run_of.0 c.requires.run_of.1 r)

pub plain_turn-turned-requires : goal.plain_turn-turned-requires
plain_turn-turned-requires c = record { run_of = c.requires.run_of; ongoing = (c.requires.ongoing.0, c.clear.ensures, c.requires.ongoing.2) }

pub returns-in-Partial : goal.returns-in-Partial
returns-in-Partial c = record { turned_some = c.plain_turn-turned.ensures.turned_some; none_cut = (c.plain_turn-turned.ensures.none_cut.0, c.plain_turn-turned.ensures.none_cut.1, c.plain_turn-turned.ensures.none_cut.2, keeps_nothing) }

pub offset_bounds-starts-place : goal.offset_bounds-starts-place
offset_bounds-starts-place c = omega (arith, low (goal.at.offset_bounds-starts-place c).Start)

pub bounds-starts-place : goal.bounds-starts-place
bounds-starts-place c = omega (arith, low (goal.at.bounds-starts-place c).Start)

pub overflow_add-to : goal.overflow_add-to
overflow_add-to c = omega (arith, low (goal.at.overflow_add-to c).Start)

pub offset_bounds-starts-place-2 : goal.offset_bounds-starts-place-2
offset_bounds-starts-place-2 c = omega (arith, low (goal.at.offset_bounds-starts-place-2 c).Start)

pub bounds-starts-place-2 : goal.bounds-starts-place-2
bounds-starts-place-2 c = omega (arith, low (goal.at.bounds-starts-place-2 c).Start)

pub offset_bounds-targets-place : goal.offset_bounds-targets-place
offset_bounds-targets-place c = omega (arith, low (goal.at.offset_bounds-targets-place c).Start)

pub bounds-targets-place : goal.bounds-targets-place
bounds-targets-place c = omega (arith, low (goal.at.bounds-targets-place c).Start)
