-- The fields of a user are set one after the other, which over all of its 56 bytes gives the user's bytes.
use Rattle.std.proofs.Common.{◌≡◌, refl, ◌∙◌}
use Rattle.fields.specs.Layout.{set_fields, size}
use Rattle.fields.proofs.Pack.{set_fields_whole}
use Rattle.book_records.specs.User.{amount_widths, amount_values, user_widths, user_values, user_bytes, as_user}
use Rattle.book_records.proofs.write_user.Goals as goal

pub returns : goal.returns
unfolding user_bytes as_user set_fields user_widths user_values amount_widths amount_values size
returns c =
    let u = as_user c.args.u in
    let e : c.put_u64-3.new.s ≡ set_fields user_widths 0 (user_values u) c.args.c.now =
    c.put_u64-3.ensures
    ∙ rw
    (c.put_u64-2.ensures, c.put_u64.ensures, c.bits.ensures, c.put_amounts-2.ensures, c.put_amounts.ensures, c.put.ensures, c.put_u8.ensures, c.put_u32.ensures) in
    e ∙ set_fields_whole user_widths (user_values u) c.args.c.now refl c.requires
