-- `rate_in`: the two cases of the test. Assumes nothing.
use Rattle.base.specs.Basics.{◌∙◌}
use Rattle.cut_tiers.proofs.rate_in.Goals as goal

pub returns-then-belongs : goal.returns-then-belongs
returns-then-belongs c = rw c.if-belongs.true (c.from.ensures ∙ c.tariff.ensures.result_value)
