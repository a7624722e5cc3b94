-- `run_long`: what is left of the run, added to the totals so far, is the whole run; what is kept of each user with many sales is that of its sales. Assumes nothing.
use Rattle.base.specs.Basics.{ap, ◌<◌, ◌≤◌, arith}
use Rattle.book_format.specs.Book.{book_of}
use Rattle.laws.specs.Sound.{Sound}
use Rattle.rules.specs.Calls.{Answer, answer_of_run}
use Rattle.run_turns.proofs.Others.{keeps_stand, keeps_start, keeps_turn}
use Rattle.run_turns.proofs.Rounds.{run_end, run_more, run_turn, turn_within}
use Rattle.run_turns.proofs.long.run_long.Goals as goal
use Rattle.run_turns.proofs.long.run_long.Goals.{In-Some, Start}

sound : (s : goal.Start) → Sound (book_of s.args.book.now)
sound s = s.requires.run_of.0.risk.opened.accepted.sound

-- the user that is due is one of the book's, and the run is long
in-book : (c : goal.In-Some) → c.in-Some.place < c.args.n
in-book c = (rw c.in-Some.is at c.loop-next.invariant).many.0

long : (c : goal.In-Some) → 64 ≤ c.loop-next.totals.reductions
long c = (rw c.in-Some.is at c.loop-next.invariant).many.1

low : (c : goal.In-Some) → c.in-Some.place < 64
low c = omega (arith, in-book c, c.requires.run_of.1, c.requires.run_of.0.risk.opened.accepted.held.form.users)

pub loop-next-init : goal.loop-next-init
loop-next-init c = record {
  run = c.requires.run_to.0;
  keeps = keeps_start (omega (arith, c.requires.run_of.1, c.requires.run_of.0.risk.opened.accepted.held.form.users));
  many = c.requires.run_to.1;
}

pub next_turn-turned-requires-clause-keeps : goal.next_turn-turned-requires-clause-keeps
next_turn-turned-requires-clause-keeps c = let at = (goal.at.next_turn-turned-requires-clause-keeps c).In-Some in
    c.loop-next.invariant.keeps.each _ _ (in-book at) (rw c.in-Some.is at c.loop-next.invariant).many.2

pub with-totals-requires-clause-mwh_bound : goal.with-totals-requires-clause-mwh_bound
with-totals-requires-clause-mwh_bound c = let p = (rw c.in-Some.is at c.loop-next.invariant).run in
    let at = goal.at.with-totals-requires-clause-mwh_bound c in
    turn_within c.requires.run_of.1 (sound at.Start) p (in-book at.In-Some) (c.next_turn-turned.ensures.turned_some p.book p.going).turned

pub next_from-first-requires : goal.next_from-first-requires
next_from-first-requires c = let p = (rw c.in-Some.is at c.loop-next.invariant).run in
    let at = goal.at.next_from-first-requires c in
    let t = (c.next_turn-turned.ensures.turned_some p.book p.going).turned in
    (omega (arith, in-book at.In-Some, t.least_most), omega (arith, c.requires.run_of.1, c.requires.run_of.0.risk.opened.accepted.held.form.users))

pub run_plain-stage-requires-clause-run_to : goal.run_plain-stage-requires-clause-run_to
run_plain-stage-requires-clause-run_to c = let p = (rw c.in-Some.is at c.loop-next.invariant).run in
    let at = goal.at.run_plain-stage-requires-clause-run_to c in
    let turned = c.next_turn-turned.ensures in (
      run_turn c.requires.run_of.1 (sound at.Start) p (in-book at.In-Some) (turned.turned_some p.book p.going).turned turned.none_cut.0 turned.none_cut.1 c.with-totals.ensures c.next_from-first.ensures.first,
      c.next_from-first.ensures.inside,
    )

pub loop-next-smaller : goal.loop-next-smaller
unfolding answer_of_run
loop-next-smaller c = let p = (rw c.in-Some.is at c.loop-next.invariant).run in
    let at = goal.at.loop-next-smaller c in
    omega (
      arith,
      run_more c.requires.run_of.1 (sound at.Start) p (in-book at.In-Some),
      ap (λ (z : Answer). z.reductions) c.with-totals.ensures,
      c.run_plain-stage.ensures.so_far_bound.0,
    )

pub loop-next-preserved : goal.loop-next-preserved
unfolding answer_of_run
loop-next-preserved c = let at = (goal.at.loop-next-preserved c).In-Some in
    let more = ap (λ (z : Answer). z.reductions) c.with-totals.ensures in
    let none_cut = c.next_turn-turned.ensures.none_cut in
    let stage = c.run_plain-stage.ensures in record {
      run = stage.run_to_2;
      keeps = keeps_stand (keeps_turn c.loop-next.invariant.keeps c.requires.run_of.1 (low at) none_cut.2 none_cut.3) (stage.so_far_bound.1 (omega (arith, more, long at)));
      many = stage.so_far_bound.2;
    }

pub returns : goal.returns
returns c = run_end c.requires.run_of.1 (sound (goal.at.returns c).Start) (rw c.in_default.is at c.loop-next.invariant).run (omega arith)
