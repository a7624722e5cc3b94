-- `ask`: the book's refusal, or by the party and the matter none or 26. Assumes nothing.
use Rattle.std.proofs.lemmas.Result.{err_from_is_err_and}
use Rattle.refusals.proofs.Numbers.{refused-nonzero}
use Rattle.call_rights.proofs.Ways.{allowed, anothers, asked_refused, forbidden, operators_alone, operators_right, own_no_shipper, own_shipper}
use Rattle.call_rights.proofs.ask.Goals as goal

pub returns-in_err-asked-clause-value : goal.returns-in_err-asked-clause-value
returns-in_err-asked-clause-value c = let p = err_from_is_err_and c.from_residual.result c.from_residual.ensures.1 in
    rw (p.1, p.2) (asked_refused _ _ _ (rw c.in_err-asked.was at c.requires) (refused-nonzero _))

pub returns-in-Operator-default-clause-value : goal.returns-in-Operator-default-clause-value
returns-in-Operator-default-clause-value c = rw c.in-Operator-default.is-0 (allowed _ _ _ (rw c.in_ok-asked.was at c.requires) (operators_right _ _))

pub returns-in-Shipper-Own-clause-value : goal.returns-in-Shipper-Own-clause-value
returns-in-Shipper-Own-clause-value c = let m = c.in-Shipper-Own in
    rw (m.is-0, m.is-1) (allowed _ _ _ (rw c.in_ok-asked.was at c.requires) (own_shipper _ _ _ c.if-id-own.true c.if-is_shipper.ensures))

pub returns-in_default-clause-value : goal.returns-in_default-clause-value
returns-in_default-clause-value c = let m = c.in-Shipper-Own in
    rw (m.is-0, m.is-1) (forbidden _ _ _ (rw c.in_ok-asked.was at c.requires) (own_no_shipper _ _ _ c.if-id-own.true c.if-is_shipper.ensures))

pub returns-in_default-2-clause-value : goal.returns-in_default-2-clause-value
returns-in_default-2-clause-value c = let m = c.in-Shipper-Own in
    rw (m.is-0, m.is-1) (forbidden _ _ _ (rw c.in_ok-asked.was at c.requires) (anothers _ _ _ c.if-id-own.false))

pub returns-in_default-3-clause-value : goal.returns-in_default-3-clause-value
returns-in_default-3-clause-value c = let m = c.in_default in
    rw (m.is-0, m.is-1) (forbidden _ _ _ (rw c.in_ok-asked.was at c.requires) (operators_alone _ _))
