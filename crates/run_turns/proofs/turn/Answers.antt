-- `turn`: each step can be taken, and together they are the reduction. Assumes nothing.
use Rattle.base.specs.Basics.{◌<◌, arith}
use Rattle.run_reduction.proofs.Steps.{left_only, left_room, part_few, part_rises, reducible, run_day, run_prices, sales_in}
use Rattle.run_turns.proofs.Others.{others_stand}
use Rattle.run_turns.proofs.Turning.{buyers_in, cut_in, reached_now, turn_room, turned}
use Rattle.run_turns.proofs.turn.Goals as goal
use Rattle.run_turns.proofs.turn.Goals.{Start}

-- the user's place is one of 64
low : (s : goal.Start) → s.args.place < 64
low s = omega (arith, s.requires.run_of.1, s.requires.run_of.0.risk.opened.accepted.held.form.users)

pub reduce-tally-requires : goal.reduce-tally-requires
reduce-tally-requires c = let q = c.requires.run_of.0 in
    let k = c.requires.run_of.1 in
    let g = reached_now c.requires.ongoing.0.going in
    let none = c.requires.ongoing.1 in
    record { in_range = (run_prices q, sales_in q k g, reducible q k g); no_cuts = (record { rising = part_rises q k; long = none.room; none = λ i l m. none.none i }, c.requires.ongoing.2) }

pub look_again-least-requires : goal.look_again-least-requires
look_again-least-requires c = let q = c.requires.run_of.0 in
    let k = c.requires.run_of.1 in
    let g = c.requires.ongoing.0.going in
    (run_day q, buyers_in q k g, q.risk.sums_are.low, turn_room q k g c.requires.run_of.2 _ _ c.reduce-tally.ensures.cuts_after c.requires.ongoing.1.room, g.rooms.targets)

pub any_left-left-requires : goal.any_left-left-requires
any_left-left-requires c = let q = c.requires.run_of.0 in
    let k = c.requires.run_of.1 in
    (part_few q k, left_room q k (reached_now c.requires.ongoing.0.going) _ _ c.reduce-tally.ensures.standing_after)

pub owed_at-requires : goal.owed_at-requires
owed_at-requires c = let q = c.requires.run_of.0 in
    (run_day q, record { form = q.risk.opened.accepted.held.form; inside = c.requires.run_of.1 }, q.risk.sums_are.low)

pub returns : goal.returns
returns c = let q = c.requires.run_of.0 in
    let k = c.requires.run_of.1 in
    let none = c.requires.ongoing.1 in
    let r = c.reduce-tally in
    let look = c.look_again-least in
    let left = c.any_left-left in record {
      turned = λ b h.
          turned q k h c.requires.run_of.2 _ _ r.ensures.cuts_after none.room _ r.ensures.standing_after _ r.ensures.positions_after _ look.result look.ensures.0
          left.result left.ensures r.result r.ensures.result_value look.ensures.1 c.owed_at.ensures;
      cut_in = (cut_in q k c.requires.ongoing.0.going c.requires.run_of.2 _ _ r.ensures.cuts_after none.room none.none, r.ensures.rests_len, others_stand q k (left_only q k (reached_now c.requires.ongoing.0.going) _ _ r.ensures.standing_after));
    }

pub bounds-eligible-place : goal.bounds-eligible-place
bounds-eligible-place c = omega (arith, low (goal.at.bounds-eligible-place c).Start)

pub offset_bounds-targets-place-2 : goal.offset_bounds-targets-place-2
offset_bounds-targets-place-2 c = omega (arith, low (goal.at.offset_bounds-targets-place-2 c).Start)

pub bounds-targets-place-2 : goal.bounds-targets-place-2
bounds-targets-place-2 c = omega (arith, low (goal.at.bounds-targets-place-2 c).Start)
