-- `sets_valid`: the sets that are left have the whole answer, until one fails a test or none is left. Assumes nothing.
use Rattle.base.specs.Basics.{refl, sym, ◌∙◌, arith}
use Rattle.store.specs.Asked.{as_set}
use Rattle.store.proofs.Sets.{sets_date_no, sets_no, sets_turn, sets_end}
use Rattle.store.proofs.sets_valid.Goals as goal

pub returns-then-p-last : goal.returns-then-p-last
unfolding as_set
returns-then-p-last c = sets_date_no c.loop-i.invariant (omega arith) refl c.read_set-p.ensures c.if-p-last.true

pub returns-then-not-set_valid : goal.returns-then-not-set_valid
returns-then-not-set_valid c = let asked = c.set_valid in
    sets_no c.loop-i.invariant (omega arith) refl c.read_set-p.ensures (sym asked.ensures ∙ c.if-not-set_valid.true)

pub loop-i-preserved : goal.loop-i-preserved
unfolding as_set
loop-i-preserved c = let asked = c.set_valid in
    sets_turn c.loop-i.invariant (omega arith) refl c.read_set-p.ensures c.if-p-last.false
    (sym asked.ensures ∙ c.if-not-set_valid.false)

pub returns : goal.returns
returns c = sets_end c.loop-i.invariant (omega arith)
