-- The definitions at small sets, computed. Assumes nothing.
use Rattle.base.specs.Basics.{◌≡◌, refl, true, false, [], ◌∷◌, ltb}
use Rattle.base.specs.Sums.{sum}
use Rattle.cut_sets.specs.Sets.{marks, marked_worth, worth_of_set}
use Rattle.cut_sets.specs.Search.{better, searched, whole_search}
use Rattle.cut_sets.specs.Places.{count_of, is_set, marks_at, set_number, worth_in}

-- "the earliest trade its highest bit"
earliest_highest : marks 3 4 ≡ true ∷ false ∷ false ∷ []
unfolding marks
earliest_highest = refl

-- "told as .. marks by trade place": of four trades the second is worth 0 and not eligible; it has no bit, and no mark. The set 5, in binary 101, is the first and the last
past_one_not_eligible : marks_at (λ w. ltb 0 w) (5 ∷ 0 ∷ 3 ∷ 4 ∷ []) 5 ≡ true ∷ false ∷ false ∷ true ∷ []
unfolding marks_at count_of sum
past_one_not_eligible = refl

worth_past_it : worth_in (λ w. ltb 0 w) (λ w. w) (5 ∷ 0 ∷ 3 ∷ 4 ∷ []) 5 ≡ 9
unfolding worth_in marks_at count_of sum marked_worth
worth_past_it = refl

-- these marks are a set, read as 5; with a mark at the second they are none, and without a mark for the last either
read_past_it : set_number (λ w. ltb 0 w) (5 ∷ 0 ∷ 3 ∷ 4 ∷ []) (true ∷ false ∷ false ∷ true ∷ []) ≡ 5
unfolding set_number count_of sum
read_past_it = refl

a_set : is_set (λ w. ltb 0 w) (5 ∷ 0 ∷ 3 ∷ 4 ∷ []) (true ∷ false ∷ false ∷ true ∷ []) ≡ true
unfolding is_set
a_set = refl

no_set_by_the_second : is_set (λ w. ltb 0 w) (5 ∷ 0 ∷ 3 ∷ 4 ∷ []) (true ∷ true ∷ false ∷ true ∷ []) ≡ false
unfolding is_set
no_set_by_the_second = refl

no_set_by_the_last : is_set (λ w. ltb 0 w) (5 ∷ 0 ∷ 3 ∷ 4 ∷ []) (true ∷ false ∷ false ∷ []) ≡ false
unfolding is_set
no_set_by_the_last = refl

-- trades of 5, 3 and 4 and a target of 7: all exceed it by 5, the first two by 1, the first and the last by 2, the first alone does not reach it, the last two meet it
met_at_the_fifth : whole_search (5 ∷ 3 ∷ 4 ∷ []) 7 8 ≡ record { choice = record { set = 3; excess = 0 }; tries = 5; complete = true }
unfolding whole_search searched better worth_of_set marks marked_worth
met_at_the_fifth = refl

spent_at_the_fourth : whole_search (5 ∷ 3 ∷ 4 ∷ []) 7 4 ≡ record { choice = record { set = 6; excess = 1 }; tries = 4; complete = false }
unfolding whole_search searched better worth_of_set marks marked_worth
spent_at_the_fourth = refl

-- two trades of 3 and a target of 2: each alone exceeds it by 1, and the first such is taken; the fourth try is the empty set
first_of_equals : whole_search (3 ∷ 3 ∷ []) 2 9 ≡ record { choice = record { set = 2; excess = 1 }; tries = 4; complete = true }
unfolding whole_search searched better worth_of_set marks marked_worth
first_of_equals = refl

-- one try less, and the search is not complete
before_the_empty_set : whole_search (3 ∷ 3 ∷ []) 2 3 ≡ record { choice = record { set = 2; excess = 1 }; tries = 3; complete = false }
unfolding whole_search searched better worth_of_set marks marked_worth
before_the_empty_set = refl
