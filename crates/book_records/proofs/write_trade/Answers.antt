-- The fields of a trade are set one after the other, which over all of its 20 bytes gives the trade's bytes.
use Rattle.std.proofs.Common.{◌≡◌, refl, ◌∙◌}
use Rattle.fields.specs.Layout.{set_fields, size}
use Rattle.fields.proofs.Pack.{set_fields_whole}
use Rattle.book_records.specs.Trade.{trade_widths, trade_values, trade_bytes, as_trade}
use Rattle.book_records.proofs.write_trade.Goals as goal

pub returns : goal.returns
unfolding trade_bytes as_trade set_fields trade_widths trade_values size
returns c =
    let t = as_trade c.args.t in
    let e : c.put_u32-4.new.s ≡ set_fields trade_widths 0 (trade_values t) c.args.c.now =
    c.put_u32-4.ensures
    ∙ rw
    (c.put_u32-3.ensures, c.put_u8-4.ensures, c.put_u8-3.ensures, c.put_u8-2.ensures, c.put_u8.ensures, c.put_u32-2.ensures, c.put_u32.ensures) in
    e ∙ set_fields_whole trade_widths (trade_values t) c.args.c.now refl c.requires
