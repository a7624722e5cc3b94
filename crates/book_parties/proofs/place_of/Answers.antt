-- `place_of`: if the id stands at all, it is one of those left, until one is left; there it is, or it is nowhere. Assumes nothing.
use Rattle.base.specs.Basics.{arith}
use Rattle.book_parties.proofs.Search.{search_start, search_turn, search_found, search_none}
use Rattle.book_parties.proofs.place_of.Goals as goal

pub loop-count-init : goal.loop-count-init
loop-count-init c = search_start c.args.ids.now c.args.n c.args.id c.requires

pub loop-count-preserved : goal.loop-count-preserved
loop-count-preserved c = search_turn c.args.ids.now c.args.n c.args.id c.requires _ _ c.after-low.result c.loop-count.invariant
    (omega arith) (omega arith) (omega arith) (omega arith) c.after-low.ensures

pub returns-then-low-n : goal.returns-then-low-n
returns-then-low-n c = search_found c.args.ids.now c.args.n c.args.id c.requires c.loop-count.low c.if-low-n.true

pub returns-else-low-n : goal.returns-else-low-n
returns-else-low-n c = search_none c.args.ids.now c.args.n c.args.id c.requires c.loop-count.invariant (omega arith) c.if-low-n.false
