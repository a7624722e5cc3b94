-- Each field is read from its own offset; 56 bytes end before the managers.
use Rattle.std.proofs.Common.{arith}
use Rattle.book_records.proofs.Users.{managers_past}
use Rattle.book_records.specs.User.{user_of, as_user}
use Rattle.book_records.proofs.read_user.Goals as goal

pub returns : goal.returns
unfolding user_of as_user
returns c =
    rw (
      managers_past c.args.c.now (omega (arith, c.requires)),
      c.get_u64-3.ensures,
      c.get_u64-2.ensures,
      c.get_u8.ensures,
      c.get_u32.ensures,
      c.of_bits.ensures,
      c.get_u64.ensures,
      c.get_amounts-2.ensures,
      c.get_amounts.ensures,
    )
