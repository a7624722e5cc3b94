-- Three fields of 4 bytes are read in two's complement, one for each area.
use Rattle.book_records.specs.User.{amounts_at, as_amounts}
use Rattle.book_records.proofs.get_amounts.Goals as goal

pub returns : goal.returns
unfolding amounts_at as_amounts
returns c =
    rw
    (c.of_bits-3.ensures, c.get_u32-3.ensures, c.of_bits-2.ensures, c.get_u32-2.ensures, c.of_bits.ensures, c.get_u32.ensures)
