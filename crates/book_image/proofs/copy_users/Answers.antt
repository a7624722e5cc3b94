-- `copy_users` writes the records in the size of the version, and makes their zero bytes 0 there: so they are users that are read and written again. Assumes nothing.
use Rattle.base.specs.Basics.{sym, ◌∙◌, ◌+◌, ◌*◌, ◌≤◌, length, rules}
use Rattle.book_format.specs.Book.{user_record}
use Rattle.book_format.proofs.Offsets.{length-user_record}
use Rattle.book_image.specs.ImageBook.{image_user_of}
use Rattle.book_image.proofs.Zeroed.{image_zeroed}
use Rattle.book_image.proofs.Turns.{records_refitted}
use Rattle.book_image.proofs.copy_users.Goals as goal
use Rattle.book_image.proofs.copy_users.Goals.{After-user_size-size}

-- the records of the version lie in the part
room : (c : goal.After-user_size-size)
    → let a = c.args in
    a.at + c.user_size-size.result * a.n ≤ length a.out.now
room c = rw c.user_size-size.ensures.value c.requires.1

pub returns : goal.returns
returns c = let a = c.args in
    let e = c.user_size-size.ensures.value in
    records_refitted 68 c.user_size-size.result (image_user_of a.version) 3 5 (user_record a.version) (image_zeroed a.version e) a.s.now a.from a.n a.out.now a.at
    (λ i. (c.type_inv.s i).fits) c.requires.0 (room (goal.at.returns c).After-user_size-size) (λ u. length-user_record a.version u ∙ sym e) c.fit_records.ensures c.clear_fields.ensures

pub fit_records-requires : goal.fit_records-requires
fit_records-requires c = (c.requires.0, room (goal.at.fit_records-requires c).After-user_size-size)

pub overflow_mul-size : goal.overflow_mul-size
overflow_mul-size c = let e = room (goal.at.overflow_mul-size c).After-user_size-size in search rules

pub overflow_add-at : goal.overflow_add-at
overflow_add-at c = let e = room (goal.at.overflow_add-at c).After-user_size-size in search rules

pub slice_bounds-clear_fields-end : goal.slice_bounds-clear_fields-end
slice_bounds-clear_fields-end c = let e = room (goal.at.slice_bounds-clear_fields-end c).After-user_size-size in search rules
