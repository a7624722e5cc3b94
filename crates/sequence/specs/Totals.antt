-- Document 01, "Sequences": the totals over a sequence; "a refused call adds to no sum". Document 02, ask 1: lists, "each line given 0 counting as an accepted posting"; ask 6:
-- "reported totals are counted less the MWh and worth that withdrawals return". Assumes nothing.
use Rattle.std.specs.Prelude.{◌∷◌, ◌+ℤ◌}
use Rattle.base.specs.Basics.{cond, List, [], ℕ, eqb, ℤ, pos, neg_ℤ}
use Rattle.requests.specs.Request.{Act, call, postings, withdrawal}
use Rattle.rules.specs.Calls.{Call, posting, morning_call_of, afternoon_call_of, reduction, run}
use Rattle.sequence.specs.Links.{Link, is_accepted}

-- the amount of a posting in an area
unfoldable pub amount_in : ℕ → Call → ℤ
amount_in a (posting id area amount) = cond (eqb area a) amount (pos 0)
amount_in a (morning_call_of id) = pos 0
amount_in a (afternoon_call_of id) = pos 0
amount_in a (reduction id) = pos 0
amount_in a run = pos 0

-- the amounts in an area of the lines given 0
unfoldable pub line_amounts : ℕ → List ℕ → List ℤ → List ℕ → ℤ
line_amounts a [] amounts numbers = pos 0
line_amounts a (area ∷ areas) [] numbers = pos 0
line_amounts a (area ∷ areas) (z ∷ amounts) [] = pos 0
line_amounts a (area ∷ areas) (z ∷ amounts) (n ∷ numbers) = cond (eqb n 0) (cond (eqb area a) z (pos 0)) (pos 0) +ℤ line_amounts a areas amounts numbers

-- the amounts of an act in an area
unfoldable pub amounts_in : ℕ → Act → List ℕ → ℤ
amounts_in a (call c) numbers = amount_in a c
amounts_in a (postings v) numbers = line_amounts a v.areas v.amounts numbers
amounts_in a withdrawal numbers = pos 0

-- what a reduction's or a run's answer adds to a total of the cuts
unfoldable pub counted : Call → ℕ → ℤ
counted (posting id area amount) n = pos 0
counted (morning_call_of id) n = pos 0
counted (afternoon_call_of id) n = pos 0
counted (reduction id) n = pos n
counted run n = pos n

-- a list cuts nothing; what a withdrawal returns is counted off
unfoldable pub counted_in : Act → ℕ → ℤ
counted_in (call c) n = counted c n
counted_in (postings v) n = pos 0
counted_in withdrawal n = neg_ℤ (pos n)

-- "the amounts of the accepted postings in that area"
unfoldable pub posted_in : ℕ → Link → ℤ
posted_in a l = cond (is_accepted l) (amounts_in a l.asked.act l.gave.numbers) (pos 0)

-- "the MWh and the worth in the answers of the accepted reductions and runs", less those of the accepted withdrawals
unfoldable pub reported_mwh : Link → ℤ
reported_mwh l = cond (is_accepted l) (counted_in l.asked.act l.gave.answer.mwh) (pos 0)

unfoldable pub reported_worth : Link → ℤ
reported_worth l = cond (is_accepted l) (counted_in l.asked.act l.gave.answer.worth) (pos 0)
