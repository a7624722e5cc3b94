-- `restore_by` refuses with 29 where no book is rebuilt, with 30 where the output is too short, and else copies the book over the front of the output. Assumes nothing.
use Rattle.base.specs.Basics.{◌≡◌, refl, sym, ap, ◌∙◌, true, length, take-length}
use Rattle.base.proofs.Tests.{holds}
use Rattle.book_columns.specs.Form.{book_from, yields}
use Rattle.book_columns.proofs.Forms.{length-book_from}
use Rattle.call_columns.proofs.Ways.{restored_not, restored_short, restored_written}
use Rattle.call_columns.proofs.restore_by.Goals as goal
use Rattle.call_columns.proofs.restore_by.Goals.{Else-not-rebuild}

pub returns-then-not-rebuild : goal.returns-then-not-rebuild
returns-then-not-rebuild c = let a = c.args in
    restored_not a.form.now a.out.now (sym c.rebuild.ensures.answer ∙ c.if-not-rebuild.true)

is-accepted : (c : goal.Else-not-rebuild) → c.rebuild.result ≡ true
is-accepted c = c.if-not-rebuild.false

does-yield : (c : goal.Else-not-rebuild) → yields c.args.form.now ≡ true
does-yield c = sym c.rebuild.ensures.answer ∙ is-accepted c

pub returns-then-out-size : goal.returns-then-out-size
returns-then-out-size c = let a = c.args in
    restored_short a.form.now a.out.now (does-yield (goal.at.returns-then-out-size c).Else-not-rebuild) c.if-out-size.true

-- what was copied is the book, as long as the form
pub returns : goal.returns
returns c =
    let f = c.args.form.now in
    let out = c.args.out.now in
    let part = c.copy_from_slice.new.self in
    let e = does-yield (goal.at.returns c).Else-not-rebuild in
    let q : part ≡ book_from f = c.copy_from_slice.ensures.after ∙ c.rebuild.ensures.book (holds (is-accepted (goal.at.returns c).Else-not-rebuild)) in
    let n : length part ≡ length f = ap length q ∙ length-book_from f out e in
    restored_written f out e c.if-out-size.false q (rw (take-length, n) refl)
