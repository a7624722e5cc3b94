-- `product`: at most 16,000,000,000 × 500,000,000, which has 63 bits. Assumes nothing.
use Rattle.base.specs.Basics.{mul-le-mul, arith}
use Rattle.shrinkage.proofs.product.Goals as goal

pub overflow_mul-result : goal.overflow_mul-result
overflow_mul-result c = omega (arith, mul-le-mul {n₁ = c.args.half.0} {m₁ = c.args.own.0} {n₂ = 16000000000} {m₂ = 500000000} c.requires.0 c.requires.1)
