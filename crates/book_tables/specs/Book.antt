-- The book of the rules that a struct is, and what a struct holds into which bytes were read. Assumes nothing.
use Rattle.std.specs.Prelude.{◌≡◌, ◌-◌}
use Rattle.base.specs.Basics.{cond, false, List, map, ℕ, length, take, drop, replicate}
use Rattle.rules.specs.Areas.{Prices, managers_in, selling_in}
use Rattle.rules.specs.Book as model
use Rattle.units.specs.Prices.{as_prices}
use Rattle.book_tables.specs.Record.{as_record, blank_record}
use Rattle.book_records.specs.Trade.{as_trade, blank_trade}
use Rattle.book_format.specs.Book.{book_of, bytes_of, prices_of, count_of_users, count_of_trades}
use Rattle.book_records.specs.declared.User.{User}
use Rattle.book_tables.specs.declared.Book.{Book}
use Rattle.book_tables.specs.declared.Record.{Record}

-- the prices that a version has bytes for, the others 0
unfoldable pub kept_prices : ℕ → Prices → Prices
kept_prices version f =
    record {
      p = f.p;
      q = f.q;
      l = f.l;
      x = f.x;
      i = f.i;
      s = cond (selling_in version) f.s 0;
      u = cond (selling_in version) f.u 0;
    }

-- the user with the managers that a version has bytes for, else none
unfoldable pub kept_managers : ℕ → model.User → model.User
kept_managers version u =
    record {
      party = record {
        id = u.party.id;
        role = u.party.role;
        charges = u.party.charges;
        assigned = u.party.assigned;
        managers = cond (managers_in version) u.party.managers model.unmanaged;
      };
      physical = u.physical;
      position = u.position;
      blocked = u.blocked;
    }

-- a struct's header, and its records up to the counts; of its prices and managers those that its version has bytes for
unfoldable pub as_book : Book → model.Book
as_book b =
    record {
      header = record { version = b.version; date = b.date; prices = kept_prices b.version (as_prices b.prices) };
      users = map (λ u. kept_managers b.version (as_record u)) (take b.user_count b.users);
      trades = map as_trade (take b.trade_count b.trades);
    }

-- the struct with other selling tariffs
unfoldable pub with_selling : Book → ℕ → ℕ → Book
with_selling b s u =
    record {
      version = b.version;
      user_count = b.user_count;
      trade_count = b.trade_count;
      date = b.date;
      prices = record { p = b.prices.p; q = b.prices.q; l = b.prices.l; x = b.prices.x; i = b.prices.i; s = s; u = u };
      users = b.users;
      trades = b.trades;
    }

-- the struct with other records of users
unfoldable pub with_records : Book → List Record → Book
with_records b us =
    record {
      version = b.version;
      user_count = b.user_count;
      trade_count = b.trade_count;
      date = b.date;
      prices = b.prices;
      users = us;
      trades = b.trades;
    }

-- the users of records, their managers apart
unfoldable pub users_in : List Record → List User
users_in us = map (λ r. r.user) us

-- what a version has no bytes for is not looked at when a book is written: a struct of version 1 is the same book with any selling tariffs, and one of version 1 or 2 with any managers
pub record Unseen : Type 0 where
  pub same : (b : Book) (s u : ℕ) → b.version ≡ 1 → as_book (with_selling b s u) ≡ as_book b
  pub unmanaged : (b : Book) (us : List Record) → managers_in b.version ≡ false → users_in us ≡ users_in b.users → as_book (with_records b us) ≡ as_book b

-- the struct whose every field is 0
abbrev pub blank_book : Book
blank_book =
    record {
      version = 0;
      user_count = 0;
      trade_count = 0;
      date = 0;
      prices = record { p = 0; q = 0; l = 0; x = 0; i = 0; s = 0; u = 0 };
      users = replicate 64 blank_record;
      trades = replicate 256 blank_trade;
    }

-- a struct into which a book was read: the book that the bytes hold, its prices with 0 for those that the version lacks, their counts, and blank records past these
pub record BookRead (s : List ℕ) (b : Book) : Type 0 where
  pub book : as_book b ≡ book_of s
  pub prices : as_prices b.prices ≡ prices_of s
  pub users : b.user_count ≡ count_of_users s
  pub trades : b.trade_count ≡ count_of_trades s
  pub user_room : length b.users ≡ 64
  pub trade_room : length b.trades ≡ 256
  pub user_rest : drop b.user_count b.users ≡ replicate (64 - b.user_count) blank_record
  pub trade_rest : drop b.trade_count b.trades ≡ replicate (256 - b.trade_count) blank_trade

-- bytes to which a struct was written: those of the book that it is; and the room of its arrays
pub record BookWritten (b : Book) (s : List ℕ) : Type 0 where
  pub bytes : s ≡ bytes_of (as_book b)
  pub user_room : length b.users ≡ 64
  pub trade_room : length b.trades ≡ 256
