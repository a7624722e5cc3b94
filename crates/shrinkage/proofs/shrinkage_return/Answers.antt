-- `shrinkage_return`: each way out is a law of the definition. Assumes nothing.
use Rattle.base.specs.Basics.{◌∙◌}
use Rattle.refusals.proofs.Numbers.{handed_on}
use Rattle.shrinkage.proofs.Ways.{too_many, one_out, no_return, divisible, returns_half}
use Rattle.shrinkage.proofs.shrinkage_return.Goals as goal

pub returns-then-balances-gt64 : goal.returns-then-balances-gt64
returns-then-balances-gt64 c = too_many _ c.if-balances-gt64.true

pub returns-in_err-above : goal.returns-in_err-above
returns-in_err-above c = let out = c.in_err-above.ensures in
    rw (handed_on c.from_residual.ensures.1, out.1) (one_out _ c.if-balances-gt64.false out.0)

pub returns-then-below-above : goal.returns-then-below-above
returns-then-below-above c = let sums = c.in_ok-above.ensures in
    c.nothing.ensures ∙ no_return _ c.if-balances-gt64.false sums.0 sums.1 c.if-below-above.true

pub shares_of-requires : goal.shares_of-requires
shares_of-requires c = let sums = c.in_ok-above.ensures in
    divisible _ c.if-balances-gt64.false sums.0 sums.1 c.if-below-above.false

pub returns : goal.returns
returns c = let sums = c.in_ok-above.ensures in
    returns_half _ c.if-balances-gt64.false sums.0 sums.1 c.if-below-above.false c.shares_of.ensures
