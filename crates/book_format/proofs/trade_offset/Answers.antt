-- `trade_offset`: where the trades begin, and those before. Assumes nothing.
use Rattle.base.specs.Basics.{refl, arith}
use Rattle.book_format.proofs.Places.{trade_lies}
use Rattle.book_format.proofs.trade_offset.Goals as goal

pub overflow_add-result : goal.overflow_add-result
overflow_add-result c = omega (arith, trade_lies c.requires)

pub returns : goal.returns
returns c = (refl, trade_lies c.requires)
