-- `sum_entries`: the entries passed are summed, and the answer so far is theirs. Assumes nothing.
use Rattle.base.specs.Basics.{◌≡◌, ap, ◌∙◌, ◌+◌, ◌≤◌, arith, length}
use Rattle.log_questions.proofs.Form.{cuts_rest_lem}
use Rattle.log_questions.proofs.Entries.{summed_start, summed_next, summed_end}
use Rattle.log_format.specs.Fits.{zeros}
use Rattle.log_format.specs.Log.{log_size}
use Rattle.log_questions.proofs.sum_entries.Goals as goal
use Rattle.log_questions.proofs.sum_entries.Goals.{After-entry_offset-at}

-- the entry at hand lies in the log, and the cuts of the m trades in it
lies : (c : goal.After-entry_offset-at)
    → (c.entry_offset-at.result + 1024 ≤ length c.args.log.now) × (length c.args.log.now ≡ log_size) × (c.args.m ≤ 256)
lies c = (omega (arith, c.requires.log_formed.0.size, c.entry_offset-at.ensures.1, c.loop-place-test.true, c.requires.log_formed.1), c.requires.log_formed.0.size, c.requires.log_formed.2)

pub add_cuts-requires : goal.add_cuts-requires
add_cuts-requires c = let p = c.loop-place.invariant.0 in (
  (lies (goal.at.add_cuts-requires c).After-entry_offset-at).0,
  c.requires.log_formed.2,
  record { room = p.within.room; each = λ k. omega (arith, p.within.each k, c.loop-place-test.true, c.requires.log_formed.1) },
)

pub loop-place-preserved : goal.loop-place-preserved
loop-place-preserved c = let at = c.entry_offset-at in
    let added = c.add_cuts in
    let behind = c.is_zero-so_far.ensures ∙ ap zeros (cuts_rest_lem c.args.m c.args.log.now c.loop-place.place at.result at.ensures.0) in (
      summed_next c.args.m c.args.log.now c.requires.log_formed.2 _ c.loop-place.invariant.0 at.ensures.0 added.ensures.sums_after (added.ensures.by_index _ c.loop-place.invariant.0.within) behind,
      omega arith,
    )

pub returns : goal.returns
returns c = let e = summed_end c.args.m c.args.log.now c.requires.log_formed.2 c.loop-place.invariant.0 (omega (arith, c.loop-place.invariant.1)) c.requires.log_formed.1 in
    record { value = (e.0, e.1); sums = e.2 }

pub loop-place-init : goal.loop-place-init
loop-place-init c = (summed_start c.args.m c.args.log.now c.requires.log_formed.2 c.requires.sums_value, omega arith)

pub overflow_mul-m : goal.overflow_mul-m
overflow_mul-m c = omega (arith, lies (goal.at.overflow_mul-m c).After-entry_offset-at)

pub overflow_add-at : goal.overflow_add-at
overflow_add-at c = omega (arith, lies (goal.at.overflow_add-at c).After-entry_offset-at)

pub overflow_add-at-in-loop-place : goal.overflow_add-at-in-loop-place
overflow_add-at-in-loop-place c = omega (arith, lies (goal.at.overflow_add-at-in-loop-place c).After-entry_offset-at)

pub slice_bounds-is_zero-count : goal.slice_bounds-is_zero-count
slice_bounds-is_zero-count c = omega (arith, lies (goal.at.slice_bounds-is_zero-count c).After-entry_offset-at)

pub slice_bounds-is_zero-start : goal.slice_bounds-is_zero-start
slice_bounds-is_zero-start c = omega (arith, lies (goal.at.slice_bounds-is_zero-start c).After-entry_offset-at)

pub slice_bounds-is_zero-end : goal.slice_bounds-is_zero-end
slice_bounds-is_zero-end c = omega (arith, lies (goal.at.slice_bounds-is_zero-end c).After-entry_offset-at)
