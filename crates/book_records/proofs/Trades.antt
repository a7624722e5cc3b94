-- Laws of a trade's 20 bytes: how many, bytes, read and written, written and read. Assumes nothing.
use Rattle.base.specs.Basics.{◌≡◌, refl, ap, ◌∙◌, List, ℕ, arith, length, get_or}
use Rattle.rules.specs.Book.{Trade}
use Rattle.fields.specs.Field.{from_bytes, to_bytes, field, AllBytes}
use Rattle.fields.specs.Layout.{fields_at, pack, size, FitAll}
use Rattle.fields.proofs.Pack.{length-pack, all_bytes_pack, pack_fields, fields_pack}
use Rattle.book_records.specs.Trade.{trade_of, trade_zeros, trade_widths, trade_values, trade_bytes, FitsTrade}

-- ---- the bytes

pub length-trade_bytes : (t : Trade) → length (trade_bytes t) ≡ 20
unfolding trade_bytes trade_widths trade_values size
length-trade_bytes t = length-pack trade_widths (trade_values t) refl

pub all_bytes_trade_bytes : (t : Trade) → AllBytes (trade_bytes t)
unfolding trade_bytes
all_bytes_trade_bytes t = all_bytes_pack trade_widths (trade_values t)

-- the zero byte is written
pub trade_zeros-trade_bytes : (t : Trade) → trade_zeros (trade_bytes t) ≡ 0
unfolding trade_zeros trade_bytes trade_widths trade_values pack field to_bytes from_bytes
trade_zeros-trade_bytes t = refl

-- ---- read and written

pub trade_bytes_of : (c : List ℕ) → length c ≡ 20 → AllBytes c → trade_zeros c ≡ 0 → trade_bytes (trade_of c) ≡ c
unfolding trade_bytes trade_of trade_zeros trade_widths trade_values fields_at size
trade_bytes_of c l b z = rw z at (pack_fields trade_widths c l b)

-- ---- written and read

-- the trade of the values of its fields
trade_from : List ℕ → Trade
trade_from vs =
    record {
      terms = record {
        seller = get_or vs 0 0;
        buyer = get_or vs 1 0;
        area = get_or vs 2 0;
        kind = get_or vs 3 0;
        day = get_or vs 4 0;
        notified = get_or vs 6 0;
      };
      standing = get_or vs 7 0;
    }

trade_of_fields : (c : List ℕ) → trade_of c ≡ trade_from (fields_at trade_widths 0 c)
unfolding trade_of trade_from trade_widths fields_at
trade_of_fields c = refl

trade_from_values : (t : Trade) → trade_from (trade_values t) ≡ t
unfolding trade_from trade_values
trade_from_values t = refl

fit_trade_values : (t : Trade) → FitsTrade t → FitAll trade_widths (trade_values t)
unfolding trade_widths trade_values
fit_trade_values t f =
    (f.seller, (f.buyer, (f.area, (f.kind, (f.day, (omega arith, (f.notified, (f.standing, tt))))))))

pub trade_of_bytes : (t : Trade) → FitsTrade t → trade_of (trade_bytes t) ≡ t
unfolding trade_bytes
trade_of_bytes t f =
    trade_of_fields (trade_bytes t)
    ∙ ap trade_from (fields_pack trade_widths (trade_values t) (fit_trade_values t f))
    ∙ trade_from_values t
