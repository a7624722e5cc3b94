-- Document 02, ask 9: "Every call on a book gains an acting party: the operator, or a shipper with an id". Who may do what. Assumes nothing.
use Rattle.std.specs.Prelude.{◌&&◌, ◌^◌}
use Rattle.base.specs.Basics.{Bool, true, false, cond, ℕ, eqb}
use Rattle.rules.specs.Book.{Book, find}
use Rattle.rules.specs.Levels.{shipper}
use Rattle.rules.specs.Queries.{Query, afternoon_level_of, morning_level_of, shown_record, warning}
use Rattle.rules.specs.Questions.{known}

-- "the operator, or a shipper with an id"
pub data Party : Type 0 where
  operator : Party
  shipper_of : ℕ → Party

-- The party that a number names: a shipper by its id; 2^32, which no id reaches, is the operator. So a number that is left at 0 names nobody, and every number above 2^32 an
-- id that no book has.
unfoldable pub party_of : ℕ → Party
party_of number = cond (eqb number (2 ^ 32)) operator (shipper_of number)

-- what is asked for: "A shipper may have its own record, levels and flag, the count of the trades it may see and .. that trade's 20 bytes"; "All else is the operator's."
pub data Matter : Type 0 where
  operators : Matter
  own : ℕ → Matter

-- whose a matter is, by the number of the party: the operator's, or an id's own
unfoldable pub matter_by : ℕ → Matter
matter_by number = cond (eqb number (2 ^ 32)) operators (own number)

-- "an id that is no shipper's in the book": the other ids, a user's of the book that is a shipper
unfoldable pub is_shipper_in : Book → ℕ → Bool
is_shipper_in b id = known b.users id && shipper (find b.users id)

-- the operator may do all; "an id that is no shipper's in the book may do nothing"; "A forbidden act, or a call for another id, a member's too", a shipper may not do
unfoldable pub may_do : Book → Party → Matter → Bool
may_do b operator m = true
may_do b (shipper_of party) operators = false
may_do b (shipper_of party) (own id) = eqb party id && is_shipper_in b party

-- 26: "A forbidden act .. gives 26"; 0 where the party may do it
unfoldable pub right_number : Book → Party → Matter → ℕ
right_number b actor m = cond (may_do b actor m) 0 26

-- whose a query of document 01 is: "A buyer's warning shows another's flag and is the operator's."
unfoldable pub matter_of : Query → Matter
matter_of (morning_level_of id) = own id
matter_of (afternoon_level_of id) = own id
matter_of (warning id) = operators
matter_of (shown_record id) = own id
