-- `write_fields` copies header, users and trades one after the other, which over bytes of the book's length gives the book's bytes. Assumes nothing.
use Rattle.base.specs.Basics.{◌≡◌, ap, ◌∙◌, ℕ, ◌+◌, ◌*◌, arith, length, rules}
use Rattle.book_format.specs.Book.{size_of_user}
use Rattle.book_format.proofs.Offsets.{length_by_lem}
use Rattle.book_image.proofs.Fields.{image_written}
use Rattle.book_image.proofs.write_fields.Goals as goal
use Rattle.book_image.proofs.write_fields.Goals.{After-user_size-size}

-- the part has room for the header, all users and all trades
room : (c : goal.After-user_size-size)
    → let a = c.args in
    length a.out.now ≡ c.header_size-at.result + c.user_size-size.result * a.n + 20 * a.m
room c = let a = c.args in
    c.requires.1 ∙ rw (c.header_size-at.ensures.value, c.user_size-size.ensures.value, c.version-version.ensures) (length_by_lem _ a.n a.m)

pub copy_users-requires : goal.copy_users-requires
copy_users-requires c = let l = room (goal.at.copy_users-requires c).After-user_size-size in
    let e : c.user_size-size.result * c.args.n ≡ size_of_user c.version-version.result * c.args.n = ap (λ (k : ℕ). k * c.args.n) c.user_size-size.ensures.value in
    (omega (arith, c.requires.0.whole, c.requires.0.few), search rules)

pub returns : goal.returns
returns c = c.copy_trades.ensures
    ∙ rw (c.copy_users.ensures, c.copy_header.ensures)
    (image_written c.requires.0 (λ i. (c.type_inv.image i).fits) c.args.out.now c.version-version.ensures c.header_size-at.ensures.value c.user_size-size.ensures.value c.requires.1)

pub copy_header-requires : goal.copy_header-requires
copy_header-requires c = let l = room (goal.at.copy_header-requires c).After-user_size-size in search rules

pub overflow_mul-size : goal.overflow_mul-size
overflow_mul-size c = let l = room (goal.at.overflow_mul-size c).After-user_size-size in search rules

pub overflow_add-at : goal.overflow_add-at
overflow_add-at c = let l = room (goal.at.overflow_add-at c).After-user_size-size in search rules

pub copy_trades-requires : goal.copy_trades-requires
copy_trades-requires c = let l = room (goal.at.copy_trades-requires c).After-user_size-size in search rules
