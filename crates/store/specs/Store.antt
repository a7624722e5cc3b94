-- Document 02, ask 4: the store of parameter sets in bytes, and the figures that a call takes from it. Assumes nothing.
use Rattle.std.specs.Prelude.{◌&&◌, ◌∷◌, ◌+◌, ◌*◌}
use Rattle.base.specs.Basics.{Bool, true, false, not, cond, Option, none, some, List, [], ℕ, eqb, leb, ltb, length, drop}
use Rattle.fields.specs.Field.{field}
use Rattle.fields.specs.Layout.{records_of}
use Rattle.rules.specs.Calendar.{real_day}
use Rattle.rules.specs.Levels.{Limits, today}
use Rattle.base.specs.Lists.{all}
use Rattle.rules.specs.Questions.{Question, refusal}

-- ---- the sets that bytes hold

-- "per set a first date ... and the three figures in that order"
pub record ParameterSet : Type 0 where
  pub first : ℕ
  pub limits : Limits

-- the set that 24 bytes hold: "a first date (32 bits ...) and the three figures ..., 32, 64 and 64 bits"
unfoldable pub set_of : List ℕ → ParameterSet
set_of c = record { first = field 4 0 c; limits = record { flag_mwh = field 4 4 c; margin = field 8 8 c; floor = field 8 16 c } }

-- the n sets that stand behind mark, version and count
unfoldable pub sets_from : ℕ → List ℕ → List ParameterSet
sets_from n s = records_of 24 set_of n (drop 6 s)

-- "count 8 bits"
unfoldable pub set_count : List ℕ → ℕ
set_count s = field 1 5 s

-- as many of them as the count says
unfoldable pub sets_of : List ℕ → List ParameterSet
sets_of s = sets_from (set_count s) s

-- ---- 16: a malformed store

-- the mark `GPS` as a number of three bytes
unfoldable pub store_mark : ℕ
store_mark = 0x53_50_47

-- "mark `GPS`, version 16 bits = 1, count 8 bits", "0 to 32 parameter sets", "with nothing after"
unfoldable pub store_formed : List ℕ → Bool
store_formed s =
    (leb 6 (length s) && eqb (field 3 0 s) store_mark)
    && (eqb (field 2 3 s) 1 && (leb (set_count s) 32 && eqb (length s) (6 + 24 * set_count s)))

-- "strictly rising": each first date is after the one before it, and the first of them after a date that is given
unfoldable pub firsts_rise : ℕ → List ParameterSet → Bool
firsts_rise last [] = true
firsts_rise last (p ∷ ps) = ltb last p.first && firsts_rise p.first ps

-- "The MWh figure is 0 to 1,000,000; the other two are 0 to 10^12 cents."
unfoldable pub limits_valid : Limits → Bool
limits_valid l = leb l.flag_mwh 1000000 && (leb l.margin 1000000000000 && leb l.floor 1000000000000)

-- a first date "as in the book", and the figures in their range
unfoldable pub set_is_valid : ParameterSet → Bool
set_is_valid p = real_day p.first && limits_valid p.limits

-- sets whose first dates rise from above a date, each of them valid
unfoldable pub sets_are_valid : ℕ → List ParameterSet → Bool
sets_are_valid last ps = firsts_rise last ps && all set_is_valid ps

-- a store that question 16 lets pass. (No real day is 0: of the first set nothing more is asked than of the others.)
unfoldable pub store_valid : List ℕ → Bool
store_valid s = store_formed s && sets_are_valid 0 (sets_of s)

-- ---- 17: no set in force

-- a set, or where there is none another
unfoldable pub or_else : Option ParameterSet → Option ParameterSet → Option ParameterSet
or_else none other = other
or_else (some p) other = some p

-- a set by itself: "whose date isn't after the book's"
unfoldable pub begun : ℕ → ParameterSet → Option ParameterSet
begun date p = cond (leb p.first date) (some p) none

-- "the last set whose date isn't after the book's": one of those behind it, or where none of them is, itself
unfoldable pub set_in_force : ℕ → List ParameterSet → Option ParameterSet
set_in_force date [] = none
set_in_force date (p ∷ ps) = or_else (set_in_force date ps) (begun date p)

-- there is no set
unfoldable pub is_none : Option ParameterSet → Bool
is_none none = true
is_none (some p) = false

-- ---- a call's store, and its figures

-- the store of a call: none, or bytes
unfoldable pub given : Bool → List ℕ → Option (List ℕ)
given true s = some s
given false s = none

-- "A malformed store is refused with 16 and then a store with no set in force with 17"; nothing is asked of a call without a store
unfoldable pub about_store : Option (List ℕ) → ℕ → List Question
about_store none date = []
about_store (some s) date =
    record { number = 16; holds = store_valid s } ∷ (record { number = 17; holds = not (is_none (set_in_force date (sets_of s))) } ∷ [])

-- the number of the first that is answered by no, 0 where there is none
unfoldable pub store_number : Option (List ℕ) → ℕ → ℕ
store_number store date = refusal (about_store store date)

-- the figures of a set, today's where there is none
unfoldable pub figures_of : Option ParameterSet → Limits
figures_of none = today
figures_of (some p) = p.limits

-- "Calls without a store use today's figures." They stand too where a store is refused, in a call that makes no use of them.
unfoldable pub limits_of : Option (List ℕ) → ℕ → Limits
limits_of none date = today
limits_of (some s) date = cond (store_valid s) (figures_of (set_in_force date (sets_of s))) today
