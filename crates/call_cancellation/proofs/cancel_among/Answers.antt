-- `cancel_among`: 14 where nothing was gathered, 24 where all of it is worth less than the amount, else the set that the search found. Assumes nothing.
use Rattle.base.specs.Basics.{subst, sym, ℕ, ◌^◌, ◌<◌}
use Rattle.call_cancellation.proofs.Ways.{sales_found, sales_none, sales_short}
use Rattle.call_cancellation.proofs.cancel_among.Goals as goal

pub returns-then-count-eq0 : goal.returns-then-count-eq0
returns-then-count-eq0 c = let a = c.args in
    sym (sales_none c.fill_worths-count.ensures a.asked.0 a.tries c.if-count-eq0.true)

pub returns-then-together-asked : goal.returns-then-together-asked
returns-then-together-asked c = let a = c.args in
    sym (sales_short c.fill_worths-count.ensures a.asked.0 a.tries c.if-count-eq0.false c.total-together.ensures.0 c.if-together-asked.true)

pub marks_of-marks-requires : goal.marks_of-marks-requires
marks_of-marks-requires c = (c.requires.selling.0, subst (λ (n : ℕ). c.search-found.result.left < 2 ^ n) c.fill_worths-count.ensures.count_is c.search-found.ensures.left_few)

pub returns : goal.returns
returns c = let a = c.args in
    sales_found c.fill_worths-count.ensures a.asked.0 a.tries c.if-count-eq0.false c.total-together.ensures.0 c.if-together-asked.false c.search-found.ensures c.marks_of-marks.ensures
