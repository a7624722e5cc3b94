-- `write_book` writes header, users and trades one after the other, which over bytes of the book's length gives the book's bytes. Assumes nothing.
use Rattle.base.specs.Basics.{◌≡◌, refl, ◌∙◌, ◌+◌, ◌*◌, ◌≤◌, mul-le-mul, arith, length, length-sets, rules}
use Rattle.fields.proofs.Pack.{set_fields-sets}
use Rattle.book_format.proofs.Offsets.{length_by_lem}
use Rattle.book_tables.proofs.BookWritten.{book_written, managed_is, size_of}
use Rattle.book_tables.proofs.write_book.Goals as goal
use Rattle.book_tables.proofs.write_book.Goals.{After-user_size-size}

-- the part has room for the header, all users and all trades
room : (c : goal.After-user_size-size)
    → let a = c.args in
    length a.out.now ≡ c.header_size-at.result + c.user_size-size.result * a.b.user_count + 20 * a.b.trade_count
room c = c.requires.2 ∙ length_by_lem c.args.b.version c.args.b.user_count c.args.b.trade_count ∙ rw (c.header_size-at.ensures.value, c.user_size-size.ensures.value) refl

-- at most 64 records of at most 68 bytes
low : (c : goal.After-user_size-size) → c.user_size-size.result * c.args.b.user_count ≤ 68 * 64
low c = mul-le-mul c.user_size-size.ensures.lower_bound.1 c.requires.0

pub write_prices-requires : goal.write_prices-requires
write_prices-requires c = let l = room (goal.at.write_prices-requires c).After-user_size-size in let h = c.header_size-at.ensures.lower_bound in search rules

pub write_selling-requires : goal.write_selling-requires
write_selling-requires c = let l = room (goal.at.write_selling-requires c).After-user_size-size in omega (arith, c.header_size-at.ensures.value)

pub write_users-requires : goal.write_users-requires
write_users-requires c = let l = room (goal.at.write_users-requires c).After-user_size-size in
    (c.requires.0, size_of _ c.user_size-size.ensures.value, search rules)

pub write_trades-requires : goal.write_trades-requires
write_trades-requires c = let l = room (goal.at.write_trades-requires c).After-user_size-size in (
  c.requires.1,
  rw (c.write_users.ensures.0, length-sets, c.write_selling.ensures, length-sets, c.write_prices.ensures, set_fields-sets, length-sets, c.write_start.ensures, set_fields-sets, length-sets) (omega (arith, l)),
)

pub returns : goal.returns
returns c = let b = c.args.b in
    let n = c.write_users.ensures.1 in
    let m = c.write_trades.ensures.1 in
    record {
      bytes = c.write_trades.ensures.0
          ∙ rw (c.write_users.ensures.0, managed_is b.version c.user_size-size.ensures.value, c.write_selling.ensures, c.write_prices.ensures, c.write_start.ensures)
          (book_written b (omega arith) (omega arith) c.args.out.now c.header_size-at.ensures.value c.user_size-size.ensures.value c.requires.2);
      user_room = n;
      trade_room = m;
    }

pub write_start-requires : goal.write_start-requires
write_start-requires c = omega (arith, room (goal.at.write_start-requires c).After-user_size-size, c.header_size-at.ensures.lower_bound)

pub overflow_mul-size : goal.overflow_mul-size
overflow_mul-size c = omega (arith, low (goal.at.overflow_mul-size c).After-user_size-size)

pub overflow_add-at : goal.overflow_add-at
overflow_add-at c = omega (arith, low (goal.at.overflow_add-at c).After-user_size-size, c.header_size-at.ensures.lower_bound.1)
