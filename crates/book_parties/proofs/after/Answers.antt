-- `after`: the cast makes 1 of yes and 0 of no, so that the product is the half or 0. Assumes nothing.
use Rattle.base.specs.Basics.{◌≡◌, Bool, true, false, cond, ℕ, ◌+◌, ◌*◌, ◌≤◌, arith}
use mir.Val.{bool_byte}
use Rattle.book_parties.proofs.after.Goals as goal

-- the product is at most the half
product_le : (half : ℕ) (b : Bool) → half * bool_byte b ≤ half
product_le half true = omega arith
product_le half false = omega arith

-- added to where the search was, it is where the search goes on
product-added : (low half : ℕ) (b : Bool) → low + half * bool_byte b ≡ cond b (low + half) low
product-added low half true = omega arith
product-added low half false = omega arith

pub overflow_mul-result : goal.overflow_mul-result
overflow_mul-result c = record { fits = omega (arith, product_le c.args.half c.args.below) }

pub overflow_add-result : goal.overflow_add-result
overflow_add-result c = record { fits = omega (arith, product_le c.args.half c.args.below) }

pub returns : goal.returns
returns c = product-added c.args.low c.args.half c.args.below
