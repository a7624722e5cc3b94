-- No refusal has the number 0, so that a number of 0 tells that a call is carried out. Assumes nothing.
use Rattle.std.specs.Prelude.{Ok, Err, IsErrAnd, Result, ◌≡◌}
use Rattle.std.proofs.Common.{ap, arith}
use Rattle.refusals.specs.Refusal.{number_of}
use Rattle.refusals.specs.declared.Refusal.{Refusal}
use Rattle.refusals.specs.declared.Refusal.TheVariants.{Unmarked, UnknownVersion, WrongLength, InvalidHeader, InvalidUser, InvalidTrade, WrongPosition, UnknownUser, NoShipper, InvalidPosting}
use Rattle.refusals.specs.declared.Refusal.TheVariants.{NotDue, AssignedTooLow, AssignedSuffices, NothingToCut, UnevenList, MalformedStore, NoSetInForce, EmptyLog, OtherLog, FullLog}
use Rattle.refusals.specs.declared.Refusal.TheVariants.{InformationLost, VersionOutputTooShort, UnknownTarget, TargetOutOfReach, TriesOutOfRange, NotPermitted, BalanceOutOfRange, TooManyUsers, InvalidForm, FormOutputTooShort}

pub refused-nonzero : (e : Refusal) → number_of e ≡ 0 → ⊥
refused-nonzero Unmarked h = omega arith
refused-nonzero UnknownVersion h = omega arith
refused-nonzero WrongLength h = omega arith
refused-nonzero InvalidHeader h = omega arith
refused-nonzero InvalidUser h = omega arith
refused-nonzero InvalidTrade h = omega arith
refused-nonzero WrongPosition h = omega arith
refused-nonzero UnknownUser h = omega arith
refused-nonzero NoShipper h = omega arith
refused-nonzero InvalidPosting h = omega arith
refused-nonzero NotDue h = omega arith
refused-nonzero AssignedTooLow h = omega arith
refused-nonzero AssignedSuffices h = omega arith
refused-nonzero NothingToCut h = omega arith
refused-nonzero UnevenList h = omega arith
refused-nonzero MalformedStore h = omega arith
refused-nonzero NoSetInForce h = omega arith
refused-nonzero EmptyLog h = omega arith
refused-nonzero OtherLog h = omega arith
refused-nonzero FullLog h = omega arith
refused-nonzero InformationLost h = omega arith
refused-nonzero VersionOutputTooShort h = omega arith
refused-nonzero UnknownTarget h = omega arith
refused-nonzero TargetOutOfReach h = omega arith
refused-nonzero TriesOutOfRange h = omega arith
refused-nonzero NotPermitted h = omega arith
refused-nonzero BalanceOutOfRange h = omega arith
refused-nonzero TooManyUsers h = omega arith
refused-nonzero InvalidForm h = omega arith
refused-nonzero FormOutputTooShort h = omega arith

-- what `?` hands on is the refusal that it was given
pub handed_on : {A : Type 0} {r : Result A Refusal} {x : Refusal} → IsErrAnd r (λ e. e ≡ x) → r ≡ Err x
handed_on {r = Ok v} h = absurd h
handed_on {r = Err e} h = ap Err h
