-- Demand 2, "reading it and writing it back gives the same bytes", of the public contracts of `read` and `write`, and of those of the C interface; and the way back, from fields to bytes to fields. To read is the operator's. Assumes nothing.
use Rattle.std.specs.Prelude.{◌≡◌, ◌<◌, ◌^◌}
use Rattle.base.specs.Basics.{List, ℕ, length}
use Rattle.fields.specs.Field.{AllBytes}
use Rattle.fields.specs.Layout.{Every}
use Rattle.rules.specs.Areas.{Prices}
use Rattle.units.specs.Prices.{as_prices}
use Rattle.book_records.specs.Trade.{FitsTrade, as_trade}
use Rattle.book_records.specs.User.{FitsUser, as_user}
use Rattle.book_tables.specs.Book.{as_book}
use Rattle.book_tables.specs.declared.Book.{Book}
use Rattle.book_tables.specs.declared.Record.{Record}
use Rattle.book_value.specs.Written.{Written}
use Rattle.book_image.specs.Image.{image_size}
use Rattle.book_image.specs.ImageBook.{image_book}
use Rattle.exports.specs.Answers.{ReadInto, WrittenFrom}
use Rattle.rights.specs.Party.{operator}
use Rattle.rights.specs.Read.{ReadBy}

-- ---- bytes, fields, bytes

-- bytes s that were read with the number 0 into the fields b, and written from these to a part of their length: the write is accepted, and the part holds the bytes
pub record ReadAndWritten : Type 0 where
  pub same : (s out t : List ℕ) (n r : ℕ) (b : Book) → AllBytes s → ReadBy operator s n b → n ≡ 0 → length out ≡ length s → Written b out r t → (r ≡ 0) × (t ≡ s)

-- the same by an image: `lent` is what the lent part held before it was read into
pub record ImageReadAndWritten : Type 0 where
  pub same :
      (s lent image out t : List ℕ) (n r : ℕ)
      → AllBytes s → ReadInto operator s lent n image → n ≡ 0 → length out ≡ length s → WrittenFrom image out r t → (r ≡ 0) × (t ≡ s)

-- ---- fields, bytes, fields

-- each price is one of 32 bits
pub record TypedPrices (f : Prices) : Type 0 where
  pub p : f.p < 2 ^ 32
  pub q : f.q < 2 ^ 32
  pub l : f.l < 2 ^ 32
  pub x : f.x < 2 ^ 32
  pub i : f.i < 2 ^ 32
  pub s : f.s < 2 ^ 32
  pub u : f.u < 2 ^ 32

-- the fields of a user and its managers' ids are of their types
pub record TypedRecord (r : Record) : Type 0 where
  pub user : FitsUser (as_user r.user)
  pub pvb : r.managers.pvb < 2 ^ 32
  pub tvb : r.managers.tvb < 2 ^ 32
  pub avb : r.managers.avb < 2 ^ 32

-- the fields of a struct are of their types, and its arrays have their lengths: so it is with every struct of the code
pub record Typed (b : Book) : Type 0 where
  pub date : b.date < 2 ^ 32
  pub prices : TypedPrices (as_prices b.prices)
  pub users : Every TypedRecord b.users
  pub trades : Every (λ t. FitsTrade (as_trade t)) b.trades
  pub user_room : length b.users ≡ 64
  pub trade_room : length b.trades ≡ 256

-- fields b that were written with the number 0, and read from these bytes into the fields c: the read is accepted, and the fields that the version has, up to the counts, are the same
pub record WrittenAndRead : Type 0 where
  pub same : (b c : Book) (out t : List ℕ) (r n : ℕ) → Typed b → Written b out r t → r ≡ 0 → ReadBy operator t n c → (n ≡ 0) × (as_book c ≡ as_book b)

-- the same by an image
pub record ImageWrittenAndRead : Type 0 where
  pub same :
      (image out t lent again : List ℕ) (r n : ℕ)
      → AllBytes image → WrittenFrom image out r t → r ≡ 0 → length lent ≡ image_size → ReadInto operator t lent n again → (n ≡ 0) × (image_book again ≡ image_book image)
