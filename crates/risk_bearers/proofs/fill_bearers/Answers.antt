-- `fill_bearers`: the users passed have who bears their risk. Assumes nothing.
use Rattle.base.specs.Basics.{refl, arith}
use Rattle.book_format.specs.Book.{users_of}
use Rattle.risk_bearers.proofs.Table.{bearers_end, bearers_more}
use Rattle.risk_bearers.proofs.fill_bearers.Goals as goal

pub bearer_at-requires : goal.bearer_at-requires
bearer_at-requires c = (c.requires.0, c.requires.1, c.fill_ids.ensures, c.requires.2, c.loop-i-test.true, omega arith)

pub bearer_at-requires-in-loop-i : goal.bearer_at-requires-in-loop-i
bearer_at-requires-in-loop-i c = (c.requires.0, c.requires.1, c.fill_ids.ensures, c.requires.2, c.loop-i-test.true, omega arith)

pub bearer_at-requires-in-loop-i-2 : goal.bearer_at-requires-in-loop-i-2
bearer_at-requires-in-loop-i-2 c = (c.requires.0, c.requires.1, c.fill_ids.ensures, c.requires.2, c.loop-i-test.true, omega arith)

pub bounds-bearers-k : goal.bounds-bearers-k
bounds-bearers-k c = omega (arith, c.loop-i-test.true, c.requires.2, c.requires.0.held.form.users)

pub bounds-bearers-k-in-loop-i : goal.bounds-bearers-k-in-loop-i
bounds-bearers-k-in-loop-i c = omega (arith, c.loop-i-test.true, c.requires.2, c.requires.0.held.form.users)

pub bounds-bearers-k-in-loop-i-2 : goal.bounds-bearers-k-in-loop-i-2
bounds-bearers-k-in-loop-i-2 c = omega (arith, c.loop-i-test.true, c.requires.2, c.requires.0.held.form.users)

pub loop-i-preserved : goal.loop-i-preserved
loop-i-preserved c = bearers_more (users_of c.args.book.now) c.bearer_at.result c.bearer_at-in-loop-i.result c.bearer_at-in-loop-i-2.result (omega (arith, c.loop-i-test.true, c.requires.2, c.requires.0.held.form.users)) c.loop-i.invariant
    c.bearer_at.ensures c.bearer_at-in-loop-i.ensures c.bearer_at-in-loop-i-2.ensures

pub returns : goal.returns
returns c = bearers_end c.args.book.now (omega (arith, c.loop-i-test.false, c.requires.2)) c.loop-i.invariant

pub fill_ids-requires : goal.fill_ids-requires
fill_ids-requires c = (c.requires.0, c.requires.2, refl)

pub loop-i-init : goal.loop-i-init
loop-i-init c = record { room = c.requires.3; each = λ j area h k. absurd (omega arith) }
