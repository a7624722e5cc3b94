-- `search`: what is left of the search gives the whole. Assumes nothing.
use Rattle.base.specs.Basics.{◌≡◌, sym, ap, subst, ◌∙◌, ⊎_elim, ℕ, ◌+◌, ◌-◌, ◌^◌, ◌/◌, ◌%◌, ◌≤◌, ◌<◌, arith, get_or, take}
use Rattle.cut_sets.specs.Sets.{worth_of_set}
use Rattle.cut_sets.specs.Found.{Table}
use Rattle.cut_sets.specs.Counting.{Counting}
use Rattle.cut_sets.proofs.Given.{count_is, set_most}
use Rattle.cut_sets.proofs.Counting.{Prepared, answered_met, answered_spent, counting_first, left_out}
use Rattle.cut_sets.proofs.search.Goals as goal
use Rattle.cut_sets.proofs.search.Goals.{After-min-in-loop-h, After-through-best}

pub table-low-requires : goal.table-low-requires
table-low-requires c = record {
  given = c.requires.given;
  small = omega arith;
  room = omega (arith, c.min.ensures);
  inside = omega (arith, c.min.ensures, c.min-limit.ensures, c.sets_of-sets.ensures);
}

pub table-high-requires : goal.table-high-requires
table-high-requires c = record {
  given = c.requires.given;
  small = omega arith;
  room = omega (arith, c.min-limit.ensures, c.sets_of-sets.ensures);
  inside = omega (arith, c.min-limit.ensures, c.sets_of-sets.ensures);
}

pub loop-h-init : goal.loop-h-init
loop-h-init c = let a = c.args in
    let ws = take a.n a.worths.now in
    let q : Prepared ws (2 ^ a.n) a.asked a.tries (a.together - a.asked) c.sets_of-sets.result c.min-limit.result c.table-low.result c.table-high.result =
    record {
      all_is = ap (λ (i : ℕ). 2 ^ i) (sym (count_is c.requires.given));
      spare_is = omega (arith, c.requires.reached, c.requires.together_is);
      sets_is = c.sets_of-sets.ensures;
      limit_is = c.min-limit.ensures;
      short = c.requires.few;
      low_is = subst (λ (i : ℕ). Table (worth_of_set ws) 1 i c.table-low.result) c.min.ensures c.table-low.ensures;
      high_is = c.table-high.ensures;
    } in
    (q, counting_first q c.requires.some, omega arith)

-- what the tables give for the sets of a block
block-left : (c : goal.After-min-in-loop-h) → let b = c.loop-h.best in
    (k : ℕ) → b.made ≤ k → k < c.min-in-loop-h.result → get_or c.table-high.result c.loop-h.h 0 + get_or c.table-low.result (k % 256) 0 ≡ worth_of_set (take c.args.n c.args.worths.now) k
block-left c k h m = let same : k / 256 ≡ c.loop-h.h = omega (arith, h, m, c.min-in-loop-h.ensures, c.loop-h.invariant.2, c.loop-h-test.true) in
    ap (λ (i : ℕ). get_or c.table-high.result i 0 + get_or c.table-low.result (k % 256) 0) (sym same) ∙ left_out c.loop-h.invariant.0 k (omega (arith, m, c.min-in-loop-h.ensures))

pub through-best-requires : goal.through-best-requires
through-best-requires c = let q = c.loop-h.invariant.0 in
    record {
      few = omega (arith, c.min-in-loop-h.ensures, q.short, q.limit_is);
      inside = omega (arith, c.min-in-loop-h.ensures, c.loop-h-test.true, c.loop-h.invariant.2, q.limit_is, q.sets_is, c.requires.some, c.loop-h.invariant.1.few);
      most = λ k h m. omega (arith, block-left c k h m, set_most c.requires.given k);
    }

-- where the search stands after a block
block-counts : (c : goal.After-through-best) → let a = c.args in
    Counting (take a.n a.worths.now) (2 ^ a.n) a.asked a.tries (a.together - a.asked) c.through-best.result
block-counts c = let q = c.loop-h.invariant.0 in
    c.through-best.ensures.counts _ _ _ _ (omega (arith, c.min-in-loop-h.ensures, q.limit_is)) (omega (arith, c.min-in-loop-h.ensures, q.limit_is, q.sets_is)) (block-left (goal.at.After-through-best c).After-min-in-loop-h) c.loop-h.invariant.1

-- a block that met no excess of 0 was tried whole
block-done : (c : goal.After-through-best) → (c.through-best.result.out ≡ (let a = c.args in a.together - a.asked) → ⊥) → c.through-best.result.made ≡ c.min-in-loop-h.result
block-done c h = ⊎_elim (λ e. absurd (h e)) (λ e. e) c.through-best.ensures.ended

pub found-requires : goal.found-requires
found-requires c = (omega (arith, c.loop-h.invariant.0.short, (block-counts (goal.at.found-requires c).After-through-best).within), (block-counts (goal.at.found-requires c).After-through-best).low)

pub returns-then-best-spare : goal.returns-then-best-spare
returns-then-best-spare c = answered_met c.loop-h.invariant.0 (block-counts (goal.at.returns-then-best-spare c).After-through-best) c.if-best-spare.true c.found.ensures

pub returns : goal.returns
returns c = answered_spent c.loop-h.invariant.0 c.loop-h.invariant.1 (omega (arith, c.loop-h-test.false, c.loop-h.invariant.2)) c.found-2.ensures

pub loop-h-preserved : goal.loop-h-preserved
loop-h-preserved c = (
  c.loop-h.invariant.0,
  block-counts (goal.at.loop-h-preserved c).After-through-best,
  omega (arith, block-done (goal.at.loop-h-preserved c).After-through-best c.if-best-spare.false, c.min-in-loop-h.ensures, c.loop-h-test.true, c.loop-h.invariant.2),
)

pub found-requires-2 : goal.found-requires-2
found-requires-2 c = (omega (arith, c.loop-h.invariant.0.short, c.loop-h.invariant.1.within), c.loop-h.invariant.1.low)
