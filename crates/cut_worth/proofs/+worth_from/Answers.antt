-- The worth of the rest is added to the first sale's; where no sale is left there is none.
use Rattle.std.proofs.Common.{sym}
use Rattle.cut_worth.proofs.Rates.{worth_none, worth_first}
use Rattle.cut_worth.proofs.+worth_from.Goals as goal

pub returns-then-to-from-clause-value : goal.returns-then-to-from-clause-value
returns-then-to-from-clause-value t c =
    sym (worth_none c.args.standing.now c.args.areas.now c.args.rates.now c.args.from c.args.to c.if-to-from.true)

pub returns-clause-value : goal.returns-clause-value
returns-clause-value t c =
    worth_first c.args.standing.now c.args.areas.now c.args.rates.now c.args.from c.args.to c.if-to-from.false c.requires.0 c.rate_at.ensures
    c.worth_from.ensures.value
