-- Document 02, ask 8: what is claimed of a search. Assumes nothing.
use Rattle.std.specs.Prelude.{◌≡◌, ◌⊎◌, ◌||◌, ◌+◌, ◌-◌, ◌^◌, ◌≤◌, ◌<◌}
use Rattle.base.specs.Basics.{Bool, true, List, ℕ, T, eqb, length}
use Rattle.base.specs.Sums.{sum}
use Rattle.cut_sets.specs.Sets.{worth_of_set}
use Rattle.cut_sets.specs.Search.{Search, whole_search}
use Rattle.cut_sets.specs.Places.{count_of, is_set, marks_at, set_number}

module _ (worth : ℕ → ℕ) (asked all tries : ℕ) where
  -- what a search with so many tries among the sets below `all` gives: "sets are tried counting down", so that those tried are the last s .tries below `all`
  pub record Claim (s : Search) : Type 0 where
    -- "The answer is the tried set that reaches T"
    pub tried : all ≤ s.choice.set + s.tries
    pub inside : s.choice.set < all
    pub reaches : worth s.choice.set ≡ asked + s.choice.excess
    -- "with the smallest excess": every tried set that reaches the target has at least this excess
    pub smallest : (j : ℕ) → all ≤ j + s.tries → j < all → asked ≤ worth j → s.choice.excess ≤ worth j - asked
    -- "the first such": every set tried before it that reaches the target has more
    pub first : (j : ℕ) → s.choice.set < j → j < all → asked ≤ worth j → s.choice.excess < worth j - asked
    -- "until the tries are spent, an excess of 0 is met or none is left", and no longer
    pub within : s.tries ≤ tries
    pub few : s.tries ≤ all
    pub until : (s.tries ≡ tries) ⊎ ((s.choice.excess ≡ 0) ⊎ (s.tries ≡ all))
    pub at_once : s.choice.excess ≡ 0 → all ≡ s.choice.set + s.tries
    -- "It says complete exactly when the excess is 0 or every set was tried"
    pub complete_is : s.complete ≡ (eqb s.choice.excess 0 || eqb s.tries all)
    -- "then every other set that reaches T has at least this excess"
    pub least : s.complete ≡ true → (j : ℕ) → j < all → asked ≤ worth j → s.choice.excess ≤ worth j - asked

-- of every search whose target is reached by all trades together: "If all eligible trades together are worth less than T it is refused"
abbrev pub SearchClaim : Type 0
SearchClaim = (ws : List ℕ) (asked tries : ℕ) → asked ≤ sum (λ w. w) ws → 0 < tries → Claim (worth_of_set ws) asked (2 ^ length ws) tries (whole_search ws asked tries)

-- "More tries never give a larger excess."
abbrev pub MoreTriesClaim : Type 0
MoreTriesClaim = (ws : List ℕ) (asked tries more : ℕ) → tries ≤ more → (whole_search ws asked more).choice.excess ≤ (whole_search ws asked tries).choice.excess

-- "A set is read as a binary number": of n eligible trades the sets are the numbers below 2 ^ n, so that what holds of these holds of every set
pub record EverySet {A : Type 0} (eligible : A → Bool) (ts : List A) : Type 0 where
  -- every set is one of the numbers
  pub inside : (marks : List Bool) → T (is_set eligible ts marks) → set_number eligible ts marks < 2 ^ count_of eligible ts
  pub told : (marks : List Bool) → T (is_set eligible ts marks) → marks_at eligible ts (set_number eligible ts marks) ≡ marks
  -- every number is a set, and no two are the same
  pub set : (m : ℕ) → T (is_set eligible ts (marks_at eligible ts m))
  pub read : (m : ℕ) → m < 2 ^ count_of eligible ts → set_number eligible ts (marks_at eligible ts m) ≡ m
