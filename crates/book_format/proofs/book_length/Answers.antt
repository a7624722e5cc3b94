-- `book_length`: the header, all users and all trades. Assumes nothing.
use Rattle.base.specs.Basics.{◌*◌, ◌≤◌, mul-le-mul, arith}
use Rattle.book_format.specs.Book.{length_by}
use Rattle.book_format.proofs.book_length.Goals as goal
use Rattle.book_format.proofs.book_length.Goals.{After-user_size}

-- at most 255 records of at most 68 bytes
low : (c : goal.After-user_size) → c.user_size.result * c.args.n ≤ 68 * 255
low c = mul-le-mul c.user_size.ensures.lower_bound.1 c.requires.0

pub overflow_mul-result : goal.overflow_mul-result
overflow_mul-result c = omega (arith, low c)

pub overflow_add-result : goal.overflow_add-result
overflow_add-result c = omega (arith, low c, c.header_size.ensures.lower_bound.1)

pub overflow_add-result-2 : goal.overflow_add-result-2
overflow_add-result-2 c = omega (arith, low c, c.header_size.ensures.lower_bound.1, c.requires.1)

pub returns : goal.returns
unfolding length_by
returns c = rw (c.header_size.ensures.value, c.user_size.ensures.value)
