-- `area_valid`: the users that are left have the whole answer, until the manager of one is not valid or none is left. Assumes nothing.
use Rattle.base.specs.Basics.{sym, ◌∙◌, arith}
use Rattle.fields.proofs.Records.{length-records_of}
use Rattle.rules.specs.Book.{nobody}
use Rattle.book_sums.proofs.Walk.{passed_start, passed_no, passed_turn, passed_end}
use Rattle.book_questions.proofs.area_valid.Goals as goal

pub returns-then-not-manager_valid : goal.returns-then-not-manager_valid
returns-then-not-manager_valid c = passed_no nobody c.loop-i.invariant (rw length-records_of (omega arith)) (sym c.manager_valid.ensures ∙ c.if-not-manager_valid.true)

pub loop-i-preserved : goal.loop-i-preserved
loop-i-preserved c = passed_turn nobody c.loop-i.invariant (rw length-records_of (omega arith)) (sym c.manager_valid.ensures ∙ c.if-not-manager_valid.false)

pub loop-i-init : goal.loop-i-init
loop-i-init c = passed_start

pub returns : goal.returns
returns c = passed_end c.loop-i.invariant (rw length-records_of (omega arith))
