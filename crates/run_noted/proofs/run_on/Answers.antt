-- `run_on`: what is left of the run, added to the totals and the entries so far, is the run of as many reductions as the log has room for. Assumes nothing.
use Rattle.base.specs.Basics.{ap, sym, subst, ◌∙◌, true, false, ℕ, ◌<◌, arith, T, length-replicate}
use Rattle.book_format.specs.Book.{book_of, count_of_users}
use Rattle.laws.specs.Sound.{Sound}
use Rattle.rules.specs.Calls.{Answer, answer_of_run}
use Rattle.run_reduction.proofs.Steps.{part_few}
use Rattle.run_turns.proofs.Rounds.{none_cuts, run_more, run_ongoing, run_within_lem, turn_within}
use Rattle.run_noted.proofs.Rounds.{cuts_notable, few_trades, noted_end, noted_more, noted_start, room_left}
use Rattle.run_noted.proofs.run_on.Goals as goal
use Rattle.run_noted.proofs.run_on.Goals.{In-Some, Start}

sound : (s : goal.Start) → Sound (book_of s.args.book.now)
sound s = s.requires.run_of.0.risk.opened.accepted.sound

-- the user that is due is one of the book's, and so one of 64
in-book : (c : goal.In-Some) → c.in-Some.place < c.args.n
in-book c = (rw c.in-Some.is at c.loop-next.invariant).inside

low : (c : goal.In-Some) → c.in-Some.place < 64
low c = omega (arith, in-book c, c.requires.run_of.1, c.requires.run_of.0.risk.opened.accepted.held.form.users)

pub loop-next-init : goal.loop-next-init
loop-next-init c = record {
  noted = noted_start c.requires.run_of.1 c.requires.run_of.0.risk.opened.accepted.sound c.requires.going none_cuts (length-replicate {A = ℕ} 256 0) c.none-totals.ensures c.next_from-next.ensures.first c.requires.origins_in.1;
  inside = c.next_from-next.ensures.inside;
}

pub shape_of-log-then-noted-eq256 : goal.shape_of-log-then-noted-eq256
shape_of-log-then-noted-eq256 c = c.loop-next.invariant.noted.size

pub returns-then-noted-eq256 : goal.returns-then-noted-eq256
returns-then-noted-eq256 c = let at = goal.at.returns-then-noted-eq256 c in
    noted_end c.requires.run_of.1 (sound at.Start) (rw c.in-Some.is at c.loop-next.invariant).noted true (λ f. absurd (subst T f tt)) (λ y. (in-book at.In-Some, c.if-noted-eq256.true))

pub turn-turned-requires : goal.turn-turned-requires
turn-turned-requires c = let q = c.requires.run_of.0 in
    let many = c.requires.run_of.1 in
    let p = (rw c.in-Some.is at c.loop-next.invariant).noted.run in
    let k = in-book (goal.at.turn-turned-requires c).In-Some in
    record { run_of = (q, omega (arith, k, many), p.here k); ongoing = (run_ongoing many q.risk.opened.accepted.sound p, p.none_cut, p.rests_room) }

pub offset_bounds-starts-place : goal.offset_bounds-starts-place
offset_bounds-starts-place c = omega (arith, low (goal.at.offset_bounds-starts-place c).In-Some)

pub bounds-starts-place : goal.bounds-starts-place
bounds-starts-place c = omega (arith, low (goal.at.bounds-starts-place c).In-Some)

pub overflow_add-to : goal.overflow_add-to
overflow_add-to c = omega (arith, low (goal.at.overflow_add-to c).In-Some)

pub offset_bounds-starts-place-in-Some : goal.offset_bounds-starts-place-in-Some
offset_bounds-starts-place-in-Some c = omega (arith, low (goal.at.offset_bounds-starts-place-in-Some c).In-Some)

pub bounds-starts-place-in-Some : goal.bounds-starts-place-in-Some
bounds-starts-place-in-Some c = omega (arith, low (goal.at.bounds-starts-place-in-Some c).In-Some)

pub note-requires : goal.note-requires
note-requires c = let q = c.requires.run_of.0 in
    let p = (rw c.in-Some.is at c.loop-next.invariant).noted in
    let k = in-book (goal.at.note-requires c).In-Some in
    let inside : c.in-Some.place < count_of_users c.args.book.now = omega (arith, k, c.requires.run_of.1) in (
      p.size ∙ c.requires.origins_in.2,
      room_left p.few c.if-noted-eq256.false,
      cuts_notable q inside p.run.going c.requires.origins_in.0 c.turn-turned.ensures.cut_in.0.room (c.turn-turned.ensures.turned p.run.book p.run.going).cuts,
    )

pub clear-requires : goal.clear-requires
clear-requires c = let inside : c.in-Some.place < count_of_users c.args.book.now = omega (arith, in-book (goal.at.clear-requires c).In-Some, c.requires.run_of.1) in
    (c.turn-turned.ensures.cut_in.0, part_few c.requires.run_of.0 inside)

pub with-totals-requires : goal.with-totals-requires
with-totals-requires c = let at = goal.at.with-totals-requires c in
    let p = (rw c.in-Some.is at c.loop-next.invariant).noted.run in
    record {
      within = run_within_lem c.requires.run_of.1 (sound at.Start) p;
      mwh_bound = turn_within c.requires.run_of.1 (sound at.Start) p (in-book at.In-Some) (c.turn-turned.ensures.turned p.book p.going);
    }

pub overflow_add-noted : goal.overflow_add-noted
overflow_add-noted c = omega (arith, c.loop-next.invariant.noted.few)

pub next_from-next-requires-in-Some : goal.next_from-next-requires-in-Some
next_from-next-requires-in-Some c = let p = (rw c.in-Some.is at c.loop-next.invariant).noted.run in
    let k = in-book (goal.at.next_from-next-requires-in-Some c).In-Some in
    (omega (arith, k, (c.turn-turned.ensures.turned p.book p.going).least_most), omega (arith, c.requires.run_of.1, c.requires.run_of.0.risk.opened.accepted.held.form.users))

pub loop-next-smaller : goal.loop-next-smaller
unfolding answer_of_run
loop-next-smaller c = let at = goal.at.loop-next-smaller c in
    let p = (rw c.in-Some.is at c.loop-next.invariant).noted.run in
    omega (arith, run_more c.requires.run_of.1 (sound at.Start) p (in-book at.In-Some), ap (λ (z : Answer). z.reductions) c.with-totals.ensures)

pub loop-next-preserved : goal.loop-next-preserved
loop-next-preserved c = let q = c.requires.run_of.0 in
    let p = (rw c.in-Some.is at c.loop-next.invariant).noted in
    let at = goal.at.loop-next-preserved c in record {
      noted = noted_more c.requires.run_of.1 (sound at.Start) p (in-book at.In-Some) (room_left p.few c.if-noted-eq256.false) (few_trades q) c.requires.origins_in.0
          (c.turn-turned.ensures.turned p.run.book p.run.going) c.note.ensures c.clear.ensures c.turn-turned.ensures.cut_in.1 c.with-totals.ensures
          c.next_from-next-in-Some.ensures.first;
      inside = c.next_from-next-in-Some.ensures.inside;
    }

pub shape_of-log : goal.shape_of-log
shape_of-log c = c.loop-next.invariant.noted.size

pub returns : goal.returns
returns c = noted_end c.requires.run_of.1 (sound (goal.at.returns c).Start) (rw c.in_default.is at c.loop-next.invariant).noted false (λ f. omega arith) (λ y. absurd (subst T (sym y) tt))
