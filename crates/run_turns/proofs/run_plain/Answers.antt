-- `run_plain`: what is left of the run, added to the totals so far, is the whole run; once it is long, users with few sales are reduced alone. Assumes nothing.
use Rattle.base.specs.Basics.{ap, ◌<◌, arith}
use Rattle.book_format.specs.Book.{book_of}
use Rattle.laws.specs.Sound.{Sound}
use Rattle.rules.specs.Calls.{Answer, answer_of_run}
use Rattle.run_reduction.proofs.Steps.{part_rises}
use Rattle.run_turns.proofs.Others.{many_turn}
use Rattle.run_turns.proofs.Rounds.{run_more, run_turn, turn_within}
use Rattle.run_turns.proofs.run_plain.Goals as goal
use Rattle.run_turns.proofs.run_plain.Goals.{In-Some, Start}

sound : (s : goal.Start) → Sound (book_of s.args.book.now)
sound s = s.requires.run_of.0.risk.opened.accepted.sound

-- the user that is due is one of the book's
in-book : (c : goal.In-Some) → c.in-Some.place < c.args.n
in-book c = (rw c.in-Some.is at c.loop-next.invariant).inside

pub is_kept-requires : goal.is_kept-requires
is_kept-requires c = let k = in-book c in
    (omega (arith, k, c.requires.run_of.1, c.requires.run_of.0.risk.opened.accepted.held.form.users), part_rises c.requires.run_of.0 (omega (arith, k, c.requires.run_of.1)))

pub with-totals-requires-clause-mwh_bound : goal.with-totals-requires-clause-mwh_bound
with-totals-requires-clause-mwh_bound c = let p = (rw c.in-Some.is at c.loop-next.invariant).run in
    let at = goal.at.with-totals-requires-clause-mwh_bound c in
    turn_within c.requires.run_of.1 (sound at.Start) p (in-book at.In-Some) (c.plain_turn-turned.ensures.turned_some p.book p.going).turned

pub loop-next-smaller : goal.loop-next-smaller
unfolding answer_of_run
loop-next-smaller c = let p = (rw c.in-Some.is at c.loop-next.invariant).run in
    let at = goal.at.loop-next-smaller c in
    omega (arith, run_more c.requires.run_of.1 (sound at.Start) p (in-book at.In-Some), ap (λ (z : Answer). z.reductions) c.with-totals.ensures)

pub loop-next-preserved : goal.loop-next-preserved
unfolding answer_of_run
loop-next-preserved c = let p = rw c.in-Some.is at c.loop-next.invariant in
    let at = goal.at.loop-next-preserved c in
    let turned = c.plain_turn-turned.ensures in
    let with = c.with-totals.ensures in record {
      run = run_turn c.requires.run_of.1 (sound at.Start) p.run (in-book at.In-Some) (turned.turned_some p.run.book p.run.going).turned turned.none_cut.0 turned.none_cut.1 with c.next_from-next.ensures.first;
      more = omega (arith, p.more, ap (λ (z : Answer). z.reductions) with);
      stand = λ h. many_turn c.requires.run_of.1 (c.is_kept.ensures.1 c.if-is_kept.false (omega (arith, p.more))) (p.stand h) turned.none_cut.2;
      inside = c.next_from-next.ensures.inside;
    }
