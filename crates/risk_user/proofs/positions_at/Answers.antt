-- `positions_at`: the three positions of the place. Assumes nothing.
use Rattle.base.specs.Basics.{◌≡◌, refl, ◌+◌, ◌*◌, arith}
use Rattle.book_records.specs.User.{as_amounts}
use Rattle.risk_user.proofs.positions_at.Goals as goal

pub returns : goal.returns
unfolding as_amounts
returns c = let a = c.args in
    let e : 3 * a.place + 0 ≡ 3 * a.place = omega arith in
    rw e refl
