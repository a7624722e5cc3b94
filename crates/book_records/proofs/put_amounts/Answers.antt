-- Three fields of 4 bytes are set, one after the other, each in two's complement.
use Rattle.std.proofs.Common.{◌≡◌, ◌+◌, arith}
use Rattle.fields.specs.Layout.{set_fields}
use Rattle.book_records.specs.User.{amount_widths, amount_values, as_amounts}
use Rattle.book_records.proofs.put_amounts.Goals as goal

pub returns : goal.returns
unfolding amount_widths amount_values set_fields as_amounts
returns c =
    let e : c.args.at + 4 + 4 ≡ c.args.at + 8 = omega arith in
    rw (c.put_u32-3.ensures, c.bits-3.ensures, c.put_u32-2.ensures, c.bits-2.ensures, c.put_u32.ensures, c.bits.ensures, e)
