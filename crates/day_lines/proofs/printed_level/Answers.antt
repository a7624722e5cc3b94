-- `printed_level` tells a shipper from a clearing house, as the definition does. Assumes nothing.
use native.Mathlib.Omega.{arith}
use borrow.Author.Tests.{eq-eqb, ne_eqb}
use Rattle.rules.specs.Levels.{shipper}
use Rattle.book_records.specs.User.{as_user}
use Rattle.day_lines.proofs.printed_level.Goals as goal

pub returns-then-user-eq0 : goal.returns-then-user-eq0
unfolding shipper as_user
returns-then-user-eq0 c = rw (eq-eqb c.args.user.role 0 (omega arith))

pub returns : goal.returns
unfolding shipper as_user
returns c = rw (ne_eqb c.args.user.role 0 (λ h. omega arith))
