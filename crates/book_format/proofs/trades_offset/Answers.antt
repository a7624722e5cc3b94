-- `trades_offset`: the header and all users. Assumes nothing.
use Rattle.base.specs.Basics.{◌*◌, ◌≤◌, mul-le-mul, arith}
use Rattle.book_format.proofs.Offsets.{users_end}
use Rattle.book_format.proofs.trades_offset.Goals as goal
use Rattle.book_format.proofs.trades_offset.Goals.{After-users_size}

pub users_offset-requires : goal.users_offset-requires
users_offset-requires c = c.requires.0.head

pub users_size-requires : goal.users_size-requires
users_size-requires c = c.requires.0.head

-- at most 64 records of at most 68 bytes
low : (c : goal.After-users_size) → c.users_size.result * c.args.n ≤ 68 * 64
low c = let few : c.args.n ≤ 64 = omega (arith, c.requires.0.users, c.requires.1) in
    mul-le-mul c.users_size.ensures.lower_bound.1 few

pub overflow_mul-result : goal.overflow_mul-result
overflow_mul-result c = omega (arith, low c)

pub overflow_add-result : goal.overflow_add-result
overflow_add-result c = omega (arith, low c, c.users_offset.ensures.lower_bound.1)

pub returns : goal.returns
returns c = users_end _ c.users_offset.ensures.value c.users_size.ensures.value c.requires.1
