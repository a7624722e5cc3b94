-- `from`: the operator by its number, a shipper by every other. Assumes nothing.
use Rattle.call_rights.proofs.Ways.{operator_number, shipper_number}
use Rattle.call_rights.proofs.PartyFromU64.from.Goals as goal

pub returns-then-number-eq-OPERATOR : goal.returns-then-number-eq-OPERATOR
returns-then-number-eq-OPERATOR c = operator_number c.args.number c.if-number-eq-OPERATOR.true

pub returns-else-number-eq-OPERATOR : goal.returns-else-number-eq-OPERATOR
returns-else-number-eq-OPERATOR c = shipper_number c.args.number c.if-number-eq-OPERATOR.false
