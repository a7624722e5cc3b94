-- `user_offset_from`: where the users begin, and the records of those before. Assumes nothing.
use Rattle.base.specs.Basics.{◌*◌, ◌≤◌, mul-le-mul, arith}
use Rattle.book_format.specs.Book.{version_of}
use Rattle.book_format.proofs.{Offsets.header_range, Offsets.user_range, Offsets.user-there, Places.user_lies, Places.user_low}
use Rattle.book_format.proofs.user_offset_from.Goals as goal
use Rattle.book_format.proofs.user_offset_from.Goals.{Start}

-- at most 64 records of at most 68 bytes
low : (c : goal.Start) → c.args.size * c.args.place ≤ 68 * 64
low c = let s = c.args.s.now in
    let place = user_low c.requires.0 in
    let short : c.args.size ≤ 68 = omega (arith, c.requires.2, user_range (version_of s)) in
    let few : c.args.place ≤ 64 = omega (arith, place) in
    mul-le-mul short few

pub overflow_mul-result : goal.overflow_mul-result
overflow_mul-result c = omega (arith, low c)

pub overflow_add-result : goal.overflow_add-result
overflow_add-result c = omega (arith, low c, c.requires.1, header_range (version_of c.args.s.now))

pub returns : goal.returns
returns c = let e = user-there _ _ c.requires.1 c.requires.2 in
    (e, omega (arith, e, user_lies c.requires.0))
