-- `user_positions_valid` asks of each area what the sums at its place say. Assumes nothing.
use Rattle.base.specs.Basics.{◌≡◌, ◌+◌, ◌*◌, arith}
use Rattle.rules.specs.Book.{at}
use Rattle.book_records.specs.User.{as_amounts, as_user}
use Rattle.book_sums.specs.Positions.{position_from, positions_from}
use Rattle.book_sums.proofs.user_positions_valid.Goals as goal

pub returns : goal.returns
unfolding positions_from position_from at as_user as_amounts
returns c = let i = c.args.i in
    let sold-pvb : 12 * i + 0 ≡ 12 * i = omega arith in
    let bought-pvb : 12 * i + 6 + 0 ≡ 12 * i + 6 = omega arith in
    let bought-tvb : 12 * i + 6 + 1 ≡ 12 * i + 7 = omega arith in
    let bought-avb : 12 * i + 6 + 2 ≡ 12 * i + 8 = omega arith in
    rw (c.is_position-pvb.ensures, c.is_position-tvb.ensures, c.is_position-avb.ensures, sold-pvb, bought-pvb, bought-tvb, bought-avb)
