-- `position_in`: each user of the book is passed, and counts or does not. Assumes nothing.
use Rattle.base.specs.Basics.{sym, ◌∙◌, ◌<◌, arith, get_or, eq-eqb, ne_eqb}
use Rattle.book_format.proofs.Passed.{length-users_of}
use Rattle.book_format.specs.Book.{count_of_users, users_of}
use Rattle.rules.specs.Bearers.{bearer}
use Rattle.rules.specs.Book.{nobody}
use Rattle.risk_members.proofs.Sums.{sum_end, sum_room, sum_start, sum_without}
use Rattle.risk_members.proofs.position_in.Goals as goal
use Rattle.risk_members.proofs.position_in.Goals.{In-loop-i, then-bearer_of-id, else-bearer_of-id}

pub loop-i-init : goal.loop-i-init
loop-i-init c = sum_start (users_of c.args.book.now) c.args.id c.args.area (λ v. v.position)

-- the user is one of the book
inside : (c : goal.In-loop-i) → c.loop-i.i < count_of_users c.args.book.now
inside c = omega (arith, c.loop-i-test.true, c.requires.2)

pub bearer_of-requires : goal.bearer_of-requires
bearer_of-requires c = (record { form = c.requires.0.held.form; inside = inside c }, c.requires.1, c.requires.3)

pub with_position-position-requires : goal.with_position-position-requires
with_position-position-requires c = let a = c.args in
    let k = inside (goal.at.with_position-position-requires c).In-loop-i in
    (c.requires.0, k, c.requires.3, sum_room (users_of a.book.now) a.id a.area (λ v. v.position) c.loop-i.invariant (omega (arith, k, c.requires.0.held.form.users)))

pub loop-i-preserved : goal.loop-i-preserved
loop-i-preserved c = let a = c.args in
    let us = users_of a.book.now in
    let k : c.loop-i.i < count_of_users a.book.now = omega (arith, c.loop-i-test.true, c.requires.2) in
    let own = bearer (get_or us c.loop-i.i nobody) a.area in
    elim c.if-bearer_of-id.branch [
      | then-bearer_of-id w ↦ rw w.position-is (w.with_position-position.ensures a.id (eq-eqb own a.id (sym c.bearer_of.ensures ∙ w.if-bearer_of-id.true)) c.loop-i.invariant)
      | else-bearer_of-id w ↦ rw w.position-is (sum_without us a.id a.area (λ v. v.position) c.loop-i.invariant
          (omega (arith, k, length-users_of a.book.now)) (omega (arith, k, c.requires.0.held.form.users))
          (ne_eqb own a.id (λ e. w.if-bearer_of-id.false (c.bearer_of.ensures ∙ e))))
    ]

pub returns : goal.returns
returns c = let a = c.args in
    sum_end (users_of a.book.now) a.id a.area (λ v. v.position) c.loop-i.invariant (omega (arith, c.loop-i-test.false, c.requires.2, length-users_of a.book.now))
