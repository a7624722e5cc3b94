-- `convert` writes header, users and trades one after the other. Assumes nothing.
use Rattle.base.specs.Basics.{◌≡◌, ◌∙◌, ◌+◌, ◌*◌, arith, length, rules}
use Rattle.book_format.specs.Book.{count_of_trades, count_of_users}
use Rattle.book_format.proofs.Offsets.{length_by_lem}
use Rattle.book_format.proofs.Passed.{passed}
use Rattle.call_versions.proofs.Whole.{all_converted, book_long}
use Rattle.call_versions.proofs.convert.Goals as goal
use Rattle.call_versions.proofs.convert.Goals.{After-user_size-new_size}

pub user_count-n-requires : goal.user_count-n-requires
user_count-n-requires c = (passed c.args.s.now c.requires.0).form.head

pub users_offset-from-requires : goal.users_offset-from-requires
users_offset-from-requires c = (passed c.args.s.now c.requires.0).form.head

pub users_size-size-requires : goal.users_size-size-requires
users_size-size-requires c = (passed c.args.s.now c.requires.0).form.head

-- how long the book is, and the part
whole : (c : goal.After-user_size-new_size)
    → let s = c.args.s.now in
    c.users_offset-from.result + c.users_size-size.result * c.user_count-n.result + 20 * count_of_trades s ≡ length s
whole c = book_long c.args.s.now c.requires.0 c.user_count-n.ensures c.users_offset-from.ensures.value c.users_size-size.ensures.value

room : (c : goal.After-user_size-new_size)
    → let a = c.args in
    length a.out.now ≡ c.header_size-to.result + c.user_size-new_size.result * c.user_count-n.result + 20 * count_of_trades a.s.now
room c = c.requires.1 ∙ length_by_lem c.args.version (count_of_users c.args.s.now) (count_of_trades c.args.s.now) ∙ rw (c.header_size-to.ensures.value, c.user_size-new_size.ensures.value, c.user_count-n.ensures)

pub put_u16-requires : goal.put_u16-requires
put_u16-requires c = let r = room (goal.at.put_u16-requires c).After-user_size-new_size in
    let w = c.header_size-to.ensures.lower_bound in
    search rules

pub fit_records-requires-2 : goal.fit_records-requires-2
fit_records-requires-2 c = let r = room (goal.at.fit_records-requires-2 c).After-user_size-new_size in
    (omega (arith, whole (goal.at.fit_records-requires-2 c).After-user_size-new_size), search rules)

pub overflow_mul-size : goal.overflow_mul-size
overflow_mul-size c = let w = whole (goal.at.overflow_mul-size c).After-user_size-new_size in search rules

pub overflow_add-from : goal.overflow_add-from
overflow_add-from c = let w = whole (goal.at.overflow_add-from c).After-user_size-new_size in search rules

pub overflow_mul-new_size : goal.overflow_mul-new_size
overflow_mul-new_size c = let r = room (goal.at.overflow_mul-new_size c).After-user_size-new_size in search rules

pub overflow_add-to : goal.overflow_add-to
overflow_add-to c = let r = room (goal.at.overflow_add-to c).After-user_size-new_size in search rules

pub copy_rest-requires : goal.copy_rest-requires
copy_rest-requires c = let r = room (goal.at.copy_rest-requires c).After-user_size-new_size in
    let w = whole (goal.at.copy_rest-requires c).After-user_size-new_size in
    (omega (arith, whole (goal.at.copy_rest-requires c).After-user_size-new_size), search rules)

pub returns : goal.returns
returns c = let a = c.args in
    c.copy_rest.ensures
    ∙ rw (c.fit_records-2.ensures, c.put_u16.ensures, c.fit_records.ensures)
    (all_converted a.s.now c.requires.0 (λ i. (c.type_inv.s i).fits) a.version a.out.now c.requires.1
    c.user_count-n.ensures c.users_offset-from.ensures.value c.users_size-size.ensures.value c.header_size-to.ensures.value c.user_size-new_size.ensures.value)

pub fit_records-requires : goal.fit_records-requires
fit_records-requires c = (omega (arith, whole (goal.at.fit_records-requires c).After-user_size-new_size), omega (arith, room (goal.at.fit_records-requires c).After-user_size-new_size))
