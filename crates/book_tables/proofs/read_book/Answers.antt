-- `read_book` reads the counts, then the records where they say these stand, and each other field of the header from its own offset. Assumes nothing.
use Rattle.base.specs.Basics.{arith}
use Rattle.book_format.proofs.Offsets.{trades_there, users_end}
use Rattle.book_format.proofs.Places.{header_lies}
use Rattle.book_format.specs.Book.{book_of}
use Rattle.book_tables.proofs.BookWritten.{kept_read, size_of, users_read}
use Rattle.book_tables.specs.Book.{as_book}
use Rattle.book_tables.proofs.read_book.Goals as goal

pub read_users-users-requires : goal.read_users-users-requires
read_users-users-requires c = (
  omega (arith, c.requires.users, c.user_count-user_count.ensures),
  size_of _ c.users_size.ensures.value,
  omega (arith, c.requires.whole, users_end c.args.s.now c.users_offset.ensures.value c.users_size.ensures.value c.user_count-user_count.ensures),
)

pub read_trades-trades-requires : goal.read_trades-trades-requires
read_trades-trades-requires c = (omega (arith, c.requires.trades, c.trade_count-trade_count.ensures), omega (arith, c.requires.whole, c.trades_offset.ensures, c.trade_count-trade_count.ensures))

pub returns : goal.returns
unfolding as_book book_of
returns c = let s = c.args.s.now in
    record {
      book = rw (
        users_read s c.read_users-users.result c.version.ensures c.users_offset.ensures.value c.users_size.ensures.value c.user_count-user_count.ensures c.read_users-users.ensures.records,
        c.version.ensures,
        c.get_u32.ensures,
        c.read_prices.ensures,
        kept_read s,
        c.read_trades-trades.ensures.records,
        trades_there s c.trades_offset.ensures c.trade_count-trade_count.ensures,
      );
      prices = c.read_prices.ensures;
      users = c.user_count-user_count.ensures;
      trades = c.trade_count-trade_count.ensures;
      user_room = c.read_users-users.ensures.full;
      trade_room = c.read_trades-trades.ensures.full;
      user_rest = c.read_users-users.ensures.rest;
      trade_rest = c.read_trades-trades.ensures.rest;
    }

pub read_prices-requires : goal.read_prices-requires
read_prices-requires c = header_lies c.requires
