-- `ask_in` asks the part that it wrote, which is the bytes of the book. Assumes nothing.
use Rattle.base.specs.Basics.{◌≡◌, sym, ap, ◌∙◌, ◌++◌, arith, length, take, drop, length-take, take_at, rules}
use Rattle.book_format.specs.Book.{bytes_of}
use Rattle.book_questions.specs.Asked.{fields_number_of}
use Rattle.book_image.specs.ImageBook.{image_book}
use Rattle.book_image.proofs.Fields.{image_formed, image_sized}
use Rattle.book_image.proofs.ask_in.Goals as goal
use Rattle.book_image.proofs.ask_in.Goals.{After-write_fields, After-write_fields}

-- the bytes of the book have the length of the part
long : (c : goal.After-write_fields)
    → let a = c.args in
    length (bytes_of (image_book a.image.now)) ≡ a.len
long c = image_sized c.requires.0 (λ i. (c.type_inv.image i).fits) ∙ sym c.requires.2

-- the part that was written and lent again is the bytes of the book
written : (c : goal.After-write_fields)
    → let a = c.args in
    take a.len (c.write_fields.new.out ++ drop a.len a.scratch.now) ≡ bytes_of (image_book a.image.now)
written c = let a = c.args in
    let e = c.write_fields.ensures in
    take_at c.write_fields.new.out (drop a.len a.scratch.now) a.len (ap length e ∙ long (goal.at.After-write_fields c).After-write_fields) ∙ e

pub check_fields-requires : goal.check_fields-requires
check_fields-requires c = (rw (written (goal.at.check_fields-requires c).After-write_fields) (image_formed c.requires.0 (λ i. (c.type_inv.image i).fits) c.requires.1), search rules, search rules)

pub returns : goal.returns
returns c = c.check_fields.ensures.asked ∙ ap fields_number_of (written (goal.at.returns c).After-write_fields)

pub slice_bounds-write_fields-end-2 : goal.slice_bounds-write_fields-end-2
slice_bounds-write_fields-end-2 c = rw length-take (omega (arith, c.requires.3))

pub write_fields-requires : goal.write_fields-requires
write_fields-requires c = (c.requires.0, rw length-take (omega (arith, c.requires.2, c.requires.3)))

pub slice_bounds-check_fields-end-2 : goal.slice_bounds-check_fields-end-2
slice_bounds-check_fields-end-2 c = sym (ap length (written (goal.at.slice_bounds-check_fields-end-2 c).After-write_fields) ∙ long (goal.at.slice_bounds-check_fields-end-2 c).After-write_fields)
