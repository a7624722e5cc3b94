-- `ask_in` asks the part that it wrote, which is the bytes of the book. Assumes nothing.
use Rattle.base.specs.Basics.{◌≡◌, sym, ap, ◌∙◌, ◌++◌, arith, length, take, drop, length-take, take_at, rules}
use Rattle.book_tables.specs.Book.{as_book}
use Rattle.book_format.specs.Book.{bytes_of}
use Rattle.book_questions.specs.Asked.{fields_number_of}
use Rattle.book_value.proofs.PartWritten.{formed_written, length_written}
use Rattle.book_value.proofs.ask_in.Goals as goal
use Rattle.book_value.proofs.ask_in.Goals.{After-write_book}

-- the part that was written and lent again is the bytes of the book
written : (c : goal.After-write_book) → take c.args.len
    (c.write_book.new.out ++ drop c.args.len
    c.args.scratch.now)
    ≡ bytes_of (as_book c.args.b)
written c = let n : length c.write_book.new.out ≡ c.args.len = ap length c.write_book.ensures.bytes ∙ length_written c.args.b c.requires.0 c.write_book.ensures.user_room c.write_book.ensures.trade_room ∙ sym c.requires.1 in
    take_at c.write_book.new.out (drop c.args.len c.args.scratch.now) c.args.len n ∙ c.write_book.ensures.bytes

pub slice_bounds-write_book-end-2 : goal.slice_bounds-write_book-end-2
slice_bounds-write_book-end-2 c = rw length-take (omega (arith, c.requires.2))

pub write_book-requires : goal.write_book-requires
write_book-requires c = (c.requires.0.users, c.requires.0.trades, rw length-take (omega (arith, c.requires.1, c.requires.2)))

pub slice_bounds-check_fields-end-2 : goal.slice_bounds-check_fields-end-2
slice_bounds-check_fields-end-2 c = sym (ap length (written (goal.at.slice_bounds-check_fields-end-2 c).After-write_book) ∙ length_written c.args.b c.requires.0 c.write_book.ensures.user_room c.write_book.ensures.trade_room ∙ sym c.requires.1)

pub check_fields-requires : goal.check_fields-requires
check_fields-requires c = (
  rw (written (goal.at.check_fields-requires c).After-write_book) (formed_written c.args.b c.requires.0 c.write_book.ensures.user_room c.write_book.ensures.trade_room),
  search rules,
  search rules,
)

pub returns : goal.returns
returns c = c.check_fields.ensures.asked ∙ ap fields_number_of (written (goal.at.returns c).After-write_book)
