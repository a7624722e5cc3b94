-- `held_in`: each user of the book is passed, and counts or does not. Assumes nothing.
use Rattle.base.specs.Basics.{sym, subst, ◌∙◌, ℕ, ◌<◌, arith, get_or, eq-eqb, ne_eqb}
use Rattle.book_format.proofs.Passed.{length-users_of}
use Rattle.book_format.specs.Book.{count_of_users, users_of}
use Rattle.rules.specs.Bearers.{bearer}
use Rattle.rules.specs.Book.{nobody}
use Rattle.risk_members.specs.Sums.{HeldTo}
use Rattle.risk_members.proofs.Sums.{passed_more, passed_none}
use Rattle.risk_members.proofs.Holdings.{held_passed, held_room_lem, held_start}
use Rattle.risk_members.proofs.held_in.Goals as goal
use Rattle.risk_members.proofs.held_in.Goals.{In-loop-i, then-bearer_of-id, else-bearer_of-id}

pub loop-i-init : goal.loop-i-init
loop-i-init c = held_start c.args.book.now c.args.id c.args.area

-- the user is one of the book
inside : (c : goal.In-loop-i) → c.loop-i.i < count_of_users c.args.book.now
inside c = omega (arith, c.loop-i-test.true, c.requires.2)

pub bearer_of-requires : goal.bearer_of-requires
bearer_of-requires c = (record { form = c.requires.0.held.form; inside = inside c }, c.requires.1, c.requires.3)

pub with_member-held-requires : goal.with_member-held-requires
with_member-held-requires c = let a = c.args in
    let k = inside (goal.at.with_member-held-requires c).In-loop-i in
    (c.requires.0, c.requires.4, k, c.requires.3, held_room_lem a.book.now a.id a.area c.loop-i.invariant (omega (arith, k, c.requires.0.held.form.users)))

pub loop-i-preserved : goal.loop-i-preserved
loop-i-preserved c = let a = c.args in
    let us = users_of a.book.now in
    let k : c.loop-i.i < count_of_users a.book.now = omega (arith, c.loop-i-test.true, c.requires.2) in
    let own = bearer (get_or us c.loop-i.i nobody) a.area in
    elim c.if-bearer_of-id.branch [
      | then-bearer_of-id w ↦ rw w.held-is (w.with_member-held.ensures a.id (eq-eqb own a.id (sym c.bearer_of.ensures ∙ w.if-bearer_of-id.true)) c.loop-i.invariant)
      | else-bearer_of-id w ↦ rw w.held-is (held_passed a.book.now a.id a.area
          (passed_more us a.id a.area (passed_none us a.id a.area c.loop-i.i) (omega (arith, k, length-users_of a.book.now)) (omega (arith, k, c.requires.0.held.form.users))
          (ne_eqb own a.id (λ e. w.if-bearer_of-id.false (c.bearer_of.ensures ∙ e))))
          c.loop-i.invariant)
    ]

pub returns : goal.returns
returns c = subst (λ (k : ℕ). HeldTo c.args.book.now c.args.id c.args.area k c.loop-i.held) (omega (arith, c.loop-i-test.false)) c.loop-i.invariant
