-- `sweep`: each step can be taken, and together they are the reduction. Assumes nothing.
use Rattle.base.specs.Basics.{sym, subst, ◌<◌, arith}
use Rattle.cut_peaks.specs.declared.Kept.{Kept}
use Rattle.std.specs.Prelude.{Some}
use Rattle.units.specs.Prices.{as_prices}
use Rattle.run_reduction.proofs.Steps.{part_few, run_day, run_prices}
use Rattle.run_turns.proofs.Sweeps.{sweep_buyers, sweep_cuts, sweep_end, sweep_keeps, sweep_lost, sweep_others, sweep_room, sweep_settles, sweep_turned}
use Rattle.run_turns.specs.Turns.{Keeps}
use Rattle.run_turns.proofs.long.sweep.Goals as goal
use Rattle.run_turns.proofs.long.sweep.Goals.{Start}

-- the user's place is one of 64
low : (s : goal.Start) → s.args.place < 64
low s = omega (arith, s.requires.run_of.1, s.requires.run_of.0.risk.opened.accepted.held.form.users)

pub settle-tally-requires : goal.settle-tally-requires
settle-tally-requires c = let q = c.requires.run_of.0 in
    let r = sweep_settles q c.requires.run_of.1 c.requires.ongoing.going c.requires.sweepable in
    record { in_range = (run_prices q, r.0, r.1); movable = r.2 }

pub look_again-least-requires : goal.look_again-least-requires
look_again-least-requires c = let q = c.requires.run_of.0 in
    let g = c.requires.ongoing.going in
    (run_day q, sweep_buyers q c.requires.run_of.1 g c.requires.sweepable, q.risk.sums_are.low, c.requires.sweepable.chosen.room, g.rooms.targets)

pub clear-requires : goal.clear-requires
clear-requires c = (sweep_cuts c.requires.sweepable, sweep_end c.requires.run_of.0 c.requires.run_of.1 c.requires.sweepable)

pub any_left-some-requires : goal.any_left-some-requires
any_left-some-requires c = let q = c.requires.run_of.0 in
    (part_few q c.requires.run_of.1, sweep_room q c.requires.run_of.1 c.requires.ongoing.going c.requires.sweepable _ c.settle-tally.ensures.standing_after)

pub owed_at-owed-requires : goal.owed_at-owed-requires
owed_at-owed-requires c = let q = c.requires.run_of.0 in
    (run_day q, record { form = q.risk.opened.accepted.held.form; inside = c.requires.run_of.1 }, q.risk.sums_are.low)

pub swept-requires : goal.swept-requires
swept-requires c = sweep_lost c.requires.run_of.0 c.requires.run_of.1 c.requires.ongoing.going c.requires.sweepable

pub returns : goal.returns
returns c = let q = c.requires.run_of.0 in
    let k = c.requires.run_of.1 in
    let w = c.requires.sweepable in
    let r = c.settle-tally in
    let look = c.look_again-least in
    let left = c.any_left-some in record {
      turned = λ b h.
          sweep_turned q k h w _ r.ensures.standing_after c.requires.run_of.2 _ r.ensures.positions_after _ look.result look.ensures.0 left.result left.ensures r.result r.ensures.result_value
          look.ensures.1 c.owed_at-owed.ensures;
      none_cut = (
        c.clear.ensures,
        sweep_others q k c.requires.ongoing.going w _ r.ensures.standing_after,
        subst (λ (x : Kept). Keeps (as_prices c.args.day.prices) c.args.starts.now r.new.standing c.args.areas.now c.args.place (Some x)) (sym c.swept.ensures)
            (sweep_keeps q k c.requires.ongoing.going w _ r.ensures.standing_after),
      );
    }

pub offset_bounds-starts-place : goal.offset_bounds-starts-place
offset_bounds-starts-place c = omega (arith, low (goal.at.offset_bounds-starts-place c).Start)

pub bounds-starts-place : goal.bounds-starts-place
bounds-starts-place c = omega (arith, low (goal.at.bounds-starts-place c).Start)

pub overflow_add-to : goal.overflow_add-to
overflow_add-to c = omega (arith, low (goal.at.overflow_add-to c).Start)

pub offset_bounds-starts-place-2 : goal.offset_bounds-starts-place-2
offset_bounds-starts-place-2 c = omega (arith, low (goal.at.offset_bounds-starts-place-2 c).Start)

pub bounds-starts-place-2 : goal.bounds-starts-place-2
bounds-starts-place-2 c = omega (arith, low (goal.at.bounds-starts-place-2 c).Start)

pub bounds-eligible-place : goal.bounds-eligible-place
bounds-eligible-place c = omega (arith, low (goal.at.bounds-eligible-place c).Start)

pub offset_bounds-targets-place : goal.offset_bounds-targets-place
offset_bounds-targets-place c = omega (arith, low (goal.at.offset_bounds-targets-place c).Start)

pub bounds-targets-place : goal.bounds-targets-place
bounds-targets-place c = omega (arith, low (goal.at.bounds-targets-place c).Start)
