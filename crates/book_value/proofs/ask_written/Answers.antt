-- `ask_written`: the longest book, of 64 users and 256 trades of 68 and 20 bytes behind a header of 40, has 9,512 bytes. Assumes nothing.
use Rattle.base.specs.Basics.{arith}
use Rattle.book_format.proofs.Offsets.{header_range, length_by_lem, size_most}
use Rattle.book_value.proofs.ask_written.Goals as goal

pub ask_in-requires : goal.ask_in-requires
ask_in-requires c = let b = c.args.b in
    let l = length_by_lem b.version b.user_count b.trade_count in
    (c.requires.0, c.requires.1, omega (arith, c.requires.0.users, c.requires.0.trades, c.requires.1, size_most b.version b.user_count 64 c.requires.0.users, header_range b.version))
