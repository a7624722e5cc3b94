-- `fit_records`: records of the size are those that stand there. Assumes nothing.
use Rattle.base.specs.Basics.{sym, ap, ◌∙◌, ℕ, ◌*◌, ◌≤◌, arith, length, drop, take, length-drop, sets, length-take-le}
use Rattle.book_image.specs.Fitted.{refitted}
use Rattle.book_image.proofs.Fitted.{padded_all, refitted_same}
use Rattle.book_image.proofs.fit_records.Goals as goal

pub fit-requires : goal.fit-requires
fit-requires c = (c.requires.0, rw (← c.if-size-new_size.true) at c.requires.1, omega arith)

pub returns-then-size-new_size : goal.returns-then-size-new_size
returns-then-size-new_size c = let a = c.args in
    let d = drop a.from a.s.now in
    let k = a.size * a.n in
    let h : k ≤ length d = rw length-drop (omega (arith, c.requires.0)) in
    c.fit.ensures
    ∙ ap (sets a.out.now a.to) (padded_all k (take k d) (length-take-le k d h) ∙ sym (refitted_same a.size a.n d h))
    ∙ ap (λ (i : ℕ). sets a.out.now a.to (refitted i a.size a.n d)) c.if-size-new_size.true
