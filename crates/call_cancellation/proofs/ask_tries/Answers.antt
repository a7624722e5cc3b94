-- `ask_tries`: 25 where the tries are below 1 or above 65,535. Assumes nothing.
use Rattle.base.specs.Basics.{arith}
use Rattle.refusals.proofs.Numbers.{handed_on, refused-nonzero}
use Rattle.refusals.specs.Refusal.{number_of}
use Rattle.call_cancellation.proofs.Ways.{tries_outside, tries_refused, tries_within}
use Rattle.call_cancellation.proofs.ask_tries.Goals as goal

pub returns-in_err-limits-clause-asked : goal.returns-in_err-limits-clause-asked
returns-in_err-limits-clause-asked c = let e = c.in_err-limits.field-0.0 in
    rw (c.in_err-limits.was, handed_on c.from_residual.ensures.1) (tries_refused (number_of e) c.args.tries (refused-nonzero e))

pub returns-then-tries-lt1-clause-asked : goal.returns-then-tries-lt1-clause-asked
returns-then-tries-lt1-clause-asked c = rw c.in_ok-limits.was (tries_outside c.args.tries c.then-tries-lt1.either)

pub returns-clause-asked : goal.returns-clause-asked
returns-clause-asked c = rw c.in_ok-limits.was (tries_within c.args.tries c.if-tries-lt1.false c.if-tries-gt65535.false)

pub returns-clause-in_range : goal.returns-clause-in_range
returns-clause-in_range c = (c.in_ok-limits.was, omega (arith, c.if-tries-lt1.false), omega (arith, c.if-tries-gt65535.false))
