-- How many cuts are not 0: of the first one and the rest, of none, and of those that a test lets pass. Assumes nothing.
use Rattle.std.specs.List.{filter}
use Rattle.base.specs.Basics.{◌≡◌, refl, List, [], ◌∷◌, ℕ, suc, ◌+◌, ◌≤◌, ◌<◌, min, arith, ltb, drop, drop_of_length-le, get_or, length, drop-cons}
use Rattle.base.specs.Basics.{ltb-false, ltb-true}
use Rattle.base.proofs.Tests.{by_case}
use Rattle.cut_apply.specs.Cutting.{losing}

-- at most all
pub losing-le : (cs : List ℕ) → losing cs ≤ length cs
unfolding losing
losing-le [] = omega arith
losing-le (c ∷ cs) = omega (arith, losing-le cs)

-- ---- from a place on

pub losing_first : (cs : List ℕ) (j : ℕ) → j < length cs → losing (drop j cs) ≡ min 1 (get_or cs j 0) + losing (drop (suc j) cs)
unfolding losing
losing_first cs j h = rw (drop-cons cs j 0 h)

pub losing_none : (cs : List ℕ) (j : ℕ) → length cs ≤ j → losing (drop j cs) ≡ 0
unfolding losing
losing_none cs j h = rw (drop_of_length-le cs {i = j} h)

-- ---- by a chain

-- those that pass a test for 0 are as many
pub losing_filtered : (cs : List ℕ) → length (filter (ltb 0) cs) ≡ losing cs
unfolding losing
losing_filtered [] = refl
losing_filtered (c ∷ cs) = by_case (ltb 0 c) (λ y. rw y (omega (arith, ltb-true 0 c y, losing_filtered cs))) (λ y. rw y (omega (arith, ltb-false 0 c y, losing_filtered cs)))
