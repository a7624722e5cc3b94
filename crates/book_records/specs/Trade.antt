-- A trade in 20 bytes, in the rules, and as the code's struct. Assumes nothing.
use Rattle.std.specs.Prelude.{◌∷◌, ◌<◌, ◌^◌}
use Rattle.base.specs.Basics.{List, [], ℕ}
use Rattle.rules.specs.Book as model
use Rattle.fields.specs.Field.{field}
use Rattle.fields.specs.Layout.{pack}
use Rattle.book_records.specs.declared.Trade.{Trade}

-- the trade that 20 bytes hold
unfoldable pub trade_of : List ℕ → model.Trade
trade_of c =
    record {
      terms = record {
        seller = field 4 0 c;
        buyer = field 4 4 c;
        area = field 1 8 c;
        kind = field 1 9 c;
        day = field 1 10 c;
        notified = field 4 12 c;
      };
      standing = field 4 16 c;
    }

-- the zero byte
unfoldable pub trade_zeros : List ℕ → ℕ
trade_zeros c = field 1 11 c

-- seller, buyer, area, kind, day, zero byte, notified, standing
unfoldable pub trade_widths : List ℕ
trade_widths = 4 ∷ 4 ∷ 1 ∷ 1 ∷ 1 ∷ 1 ∷ 4 ∷ 4 ∷ []

unfoldable pub trade_values : model.Trade → List ℕ
trade_values t =
    let r = t.terms in
    r.seller ∷ r.buyer ∷ r.area ∷ r.kind ∷ r.day ∷ 0 ∷ r.notified ∷ t.standing ∷ []

-- a trade's 20 bytes
unfoldable pub trade_bytes : model.Trade → List ℕ
trade_bytes t = pack trade_widths (trade_values t)

-- the trade of the rules that a struct is
unfoldable pub as_trade : Trade → model.Trade
as_trade t =
    record {
      terms = record { seller = t.seller; buyer = t.buyer; area = t.area; kind = t.kind; day = t.day; notified = t.notified.0 };
      standing = t.standing.0;
    }

-- the struct whose every field is 0
unfoldable pub blank_trade : Trade
blank_trade = record { seller = 0; buyer = 0; area = 0; kind = 0; day = 0; notified = record { 0 = 0 }; standing = record { 0 = 0 } }

-- ---- widths

-- each field of a trade fits its bytes
pub record FitsTrade (t : model.Trade) : Type 0 where
  pub seller : t.terms.seller < 2 ^ 32
  pub buyer : t.terms.buyer < 2 ^ 32
  pub area : t.terms.area < 256
  pub kind : t.terms.kind < 256
  pub day : t.terms.day < 256
  pub notified : t.terms.notified < 2 ^ 32
  pub standing : t.standing < 2 ^ 32
