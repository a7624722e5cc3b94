-- The number of each refusal, as the documents number the questions, and of what a call gives. Assumes nothing.
use Rattle.std.specs.Prelude.{Ok, Err, Result, ℕ}
use Rattle.refusals.specs.declared.Refusal.{Refusal}
use Rattle.refusals.specs.declared.Refusal.TheVariants.{Unmarked, UnknownVersion, WrongLength, InvalidHeader, InvalidUser, InvalidTrade, WrongPosition, UnknownUser, NoShipper, InvalidPosting}
use Rattle.refusals.specs.declared.Refusal.TheVariants.{NotDue, AssignedTooLow, AssignedSuffices, NothingToCut, UnevenList, MalformedStore, NoSetInForce, EmptyLog, OtherLog, FullLog}
use Rattle.refusals.specs.declared.Refusal.TheVariants.{InformationLost, VersionOutputTooShort, UnknownTarget, TargetOutOfReach, TriesOutOfRange, NotPermitted, BalanceOutOfRange, TooManyUsers, InvalidForm, FormOutputTooShort}

abbrev pub number_of : Refusal → ℕ
number_of Unmarked = 1
number_of UnknownVersion = 2
number_of WrongLength = 3
number_of InvalidHeader = 4
number_of InvalidUser = 5
number_of InvalidTrade = 6
number_of WrongPosition = 7
number_of UnknownUser = 8
number_of NoShipper = 9
number_of InvalidPosting = 10
number_of NotDue = 11
number_of AssignedTooLow = 12
number_of AssignedSuffices = 13
number_of NothingToCut = 14
number_of UnevenList = 15
number_of MalformedStore = 16
number_of NoSetInForce = 17
number_of EmptyLog = 18
number_of OtherLog = 19
number_of FullLog = 20
number_of InformationLost = 21
number_of VersionOutputTooShort = 22
number_of UnknownTarget = 23
number_of TargetOutOfReach = 24
number_of TriesOutOfRange = 25
number_of NotPermitted = 26
number_of BalanceOutOfRange = 27
number_of TooManyUsers = 28
number_of InvalidForm = 29
number_of FormOutputTooShort = 30

-- 0 where the call is carried out: "A refused call returns" the number of "the first question answered by no"
abbrev pub number_in : {A : Type 0} → Result A Refusal → ℕ
number_in (Ok value) = 0
number_in (Err refusal) = number_of refusal
