-- `add_cuts`: the sums passed have the entry's cuts added. Assumes nothing.
use Rattle.base.specs.Basics.{arith}
use Rattle.log_questions.proofs.Cuts.{added_start, added_next, added_end, added_most, added_fits}
use Rattle.log_questions.proofs.add_cuts.Goals as goal

pub loop-k-init : goal.loop-k-init
loop-k-init c = added_start c.args.m c.args.at c.args.log.now c.args.sums.now c.requires.1 c.requires.2.room

pub overflow_add-sums : goal.overflow_add-sums
overflow_add-sums c = omega (
  arith,
  added_fits c.args.m c.args.at c.args.log.now c.args.sums.now c.requires.1 c.requires.2.room c.loop-k.invariant c.requires.2 c.loop-k.k,
  c.get_u32.type_inv,
)

pub loop-k-preserved : goal.loop-k-preserved
loop-k-preserved c = added_next c.args.m c.args.at c.args.log.now c.args.sums.now c.requires.1 c.requires.2.room c.loop-k.invariant c.get_u32.result
    c.loop-k-test.true c.get_u32.ensures (omega (arith, c.get_u32.type_inv))

pub returns : goal.returns
returns c = let m = c.args.m in record { sums_after = added_end m c.args.at c.args.log.now c.args.sums.now c.requires.1 c.requires.2.room c.loop-k.invariant c.loop-k-test.false; by_index = added_most m c.args.at c.args.log.now c.args.sums.now c.requires.1 c.requires.2.room c.loop-k.invariant }
