-- `seek` hands on a refusal of the opening questions; of a book that passes, the place is the user's, and past the last there is no such user. Assumes nothing.
use Rattle.std.proofs.Common.{◌≡◌, ◌∙◌, arith, ℕ, refl, subst, zero, suc, IfOk}
use Rattle.refusals.proofs.Numbers.{handed_on, refused-nonzero}
use Rattle.refusals.specs.Refusal.{number_of}
use Rattle.rules.specs.Questions.{after}
use Rattle.book_format.specs.Questions.{book_number}
use Rattle.book_format.proofs.Passed.{passed}
use Rattle.call_entry.proofs.Asked.{entry_known, entry_unknown}
use Rattle.call_entry.proofs.seek.Goals as goal
use Rattle.call_entry.proofs.seek.Goals.{In_ok-limits}

-- a number other than 0 stays
stays : (n x : ℕ) → (n ≡ 0 → ⊥) → n ≡ after n (λ m. m) x
unfolding after
stays zero x h = absurd (h refl)
stays (suc n) x h = refl

goes : (n x : ℕ) → n ≡ 0 → x ≡ after n (λ m. m) x
unfolding after
goes n x e = rw e

pub returns-in_err-limits-clause-asked : goal.returns-in_err-limits-clause-asked
returns-in_err-limits-clause-asked c = rw (c.in_err-limits.was, handed_on c.from_residual.ensures.1)
    (stays (number_of c.in_err-limits.field-0.0) _ (refused-nonzero c.in_err-limits.field-0.0))

passes : (c : goal.In_ok-limits) → book_number c.args.s.now ≡ 0
passes c = subst (λ o. IfOk o (λ limits. book_number c.args.s.now ≡ 0)) c.in_ok-limits.was c.requires

pub place_of-place-requires : goal.place_of-place-requires
place_of-place-requires c = (passed c.args.s.now (passes c)).form

pub user_count-n-requires : goal.user_count-n-requires
user_count-n-requires c = omega (arith, (passed c.args.s.now (passes (goal.at.user_count-n-requires c).In_ok-limits)).form.head)

pub returns-then-n-place-clause-asked : goal.returns-then-n-place-clause-asked
returns-then-n-place-clause-asked c = rw c.in_ok-limits.was (entry_unknown c.args.s.now c.args.id (omega (arith, c.if-n-place.true, c.place_of-place.ensures.0, c.user_count-n.ensures)) ∙ goes 0 _ refl)

pub returns-clause-asked : goal.returns-clause-asked
returns-clause-asked c = rw c.in_ok-limits.was (entry_known c.args.s.now c.args.id
    (record { passes = passes (goal.at.returns-clause-asked c).In_ok-limits; stands = c.place_of-place.ensures.0; known = omega (arith, c.if-n-place.false, c.user_count-n.ensures) }) ∙ goes 0 _ refl)
