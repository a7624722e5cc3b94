-- `read` leaves an image of 0 where a question refuses the bytes, and else the image of bytes of the right form. Assumes nothing.
use Rattle.base.specs.Basics.{◌≡◌, sym, ◌∙◌, arith, replicate}
use Rattle.refusals.proofs.Numbers.{refused-nonzero}
use Rattle.rules.specs.Questions.{after}
use Rattle.laws.proofs.Refusals.{after_nonzero}
use Rattle.book_format.specs.Questions.{Formed, book_number}
use Rattle.book_format.proofs.Formed.{book_passed}
use Rattle.book_format.proofs.Passed.{passed}
use Rattle.book_image.specs.Image.{image_of, image_size, read_image}
use Rattle.book_image.proofs.read.Goals as goal
use Rattle.book_image.proofs.read.Goals.{In_default}

pub returns-in-Err : goal.returns-in-Err
unfolding read_image book_number
returns-in-Err c = let book = c.args.book.now in
    let asked = c.in-Err.ensures in
    let refused = after_nonzero {number = book_number book} (λ n. replicate image_size 0) (image_of book) (λ e. refused-nonzero _ (asked ∙ e)) in
    record { asked = asked; fields = c.fill.ensures.after (λ y e. e) ∙ rw (refused, c.requires) }

-- the bytes passed the questions, and so are of the right form
accepted : (c : goal.In_default) → book_number c.args.book.now ≡ 0
accepted c = sym c.in_default.ensures

formed : (c : goal.In_default) → Formed c.args.book.now
formed c = (passed c.args.book.now (accepted c)).form

pub copy_book-requires : goal.copy_book-requires
copy_book-requires c = (formed (goal.at.copy_book-requires c).In_default, c.user_count-n.ensures, c.requires)

pub returns : goal.returns
unfolding read_image after
returns c = let e = accepted (goal.at.returns c).In_default in
    record { asked = sym e; fields = c.copy_book.ensures ∙ rw (book_passed c.args.book.now e) }

pub user_count-n-requires : goal.user_count-n-requires
user_count-n-requires c = omega (arith, (formed c).head)
