-- `copy_book` fills header, users and trades one after the other. Assumes nothing.
use Rattle.base.specs.Basics.{◌≡◌, sym, ◌∙◌, ◌+◌, ◌*◌, ◌≤◌, arith, length-take, length, length-take-le, rules}
use Rattle.book_format.specs.Book.{trades_at}
use Rattle.book_format.proofs.Offsets.{users_end}
use Rattle.book_image.proofs.Copied.{all_filled}
use Rattle.book_image.proofs.copy_book.Goals as goal
use Rattle.book_image.proofs.copy_book.Goals.{After-users_size-size}

-- the users end where the trades begin, which lie in the book
end : (c : goal.After-users_size-size)
    → c.users_offset-from.result + c.users_size-size.result * c.args.n ≡ trades_at c.args.s.now
end c = users_end c.args.s.now c.users_offset-from.ensures.value c.users_size-size.ensures.value c.requires.1

whole : (c : goal.After-users_size-size)
    → c.users_offset-from.result + c.users_size-size.result * c.args.n ≤ length c.args.s.now
whole c = omega (arith, end c, c.requires.0.whole)

pub fill_part-requires : goal.fill_part-requires
fill_part-requires c = (omega arith, omega (arith, c.requires.2), rw length-take (omega (arith, c.users_offset-from.ensures.lower_bound)))

pub fill_part-requires-2 : goal.fill_part-requires-2
fill_part-requires-2 c = let e = end (goal.at.fill_part-requires-2 c).After-users_size-size in search rules

pub returns : goal.returns
returns c = c.fill_part-2.ensures
    ∙ rw (c.fill_users.ensures, c.fill_part.ensures)
    (all_filled c.args.s.now c.args.image.now c.requires.0 c.users_offset-from.ensures.value c.users_size-size.ensures.value c.requires.1 c.requires.2)

pub overflow_mul-at : goal.overflow_mul-at
overflow_mul-at c = let e = whole c in search rules

pub overflow_add-at : goal.overflow_add-at
overflow_add-at c = let e = whole c in search rules

pub slice_bounds-fill_part-end : goal.slice_bounds-fill_part-end
slice_bounds-fill_part-end c = sym (length-take-le _ _ (omega (arith, whole (goal.at.slice_bounds-fill_part-end c).After-users_size-size)))

pub fill_users-requires : goal.fill_users-requires
fill_users-requires c = let e = whole (goal.at.fill_users-requires c).After-users_size-size in search rules

pub slice_bounds-fill_part-count : goal.slice_bounds-fill_part-count
slice_bounds-fill_part-count c = let e = whole (goal.at.slice_bounds-fill_part-count c).After-users_size-size in search rules

pub slice_bounds-fill_part-start : goal.slice_bounds-fill_part-start
slice_bounds-fill_part-start c = let e = whole (goal.at.slice_bounds-fill_part-start c).After-users_size-size in search rules
