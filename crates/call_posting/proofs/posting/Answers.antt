-- `posting` hands on the refusal of its entry, or posts to the user at the place that was found. Assumes nothing.
use Rattle.std.proofs.Common.{IfOk, Ok, subst}
use Rattle.base.specs.Basics.{◌≡◌, ap, subst⁻¹, ℕ}
use mir.Syntax.{w64}
use mir.ValLaws.{to_z-of_z}
use Rattle.refusals.proofs.Numbers.{handed_on, refused-nonzero}
use Rattle.refusals.specs.Refusal.{number_in}
use Rattle.book_format.proofs.Passed.{passed}
use Rattle.book_format.specs.After.{CalledAfter}
use Rattle.call_posting.proofs.Ways.{refused}
use Rattle.call_posting.specs.Posting.{posting_of}
use Rattle.rules.specs.Calls.{only}
use Rattle.call_posting.proofs.posting.Goals as goal

pub returns-in_err-entry : goal.returns-in_err-entry
returns-in_err-entry c = λ limits.
    let a = c.args in
    rw (handed_on c.from_residual.ensures.1)
    (refused (number_in a.opened) limits a.book.now a.id a.area a.amount c.in_err-entry.ensures.asked (refused-nonzero c.in_err-entry.field-0.0))

pub users_offset-at-requires : goal.users_offset-at-requires
users_offset-at-requires c = (passed _ c.in_ok-entry.ensures.found.1.passes).form.head

pub users_size-size-requires : goal.users_size-size-requires
users_size-size-requires c = (passed _ c.in_ok-entry.ensures.found.1.passes).form.head

pub returns : goal.returns
returns c = λ limits.
    let a = c.args in
    let f = c.in_ok-entry.ensures.found in
    subst⁻¹ (λ (n : ℕ). CalledAfter n limits a.book.now (posting_of a.id a.area a.amount) (only (number_in c.post_at.result)) c.post_at.new.book) (ap number_in f.0)
    (rw (to_z-of_z w64 a.amount c.ranges.amount) at (c.post_at.ensures.posts a.id f.1.stands limits))
