-- The count from below: counting down from all trades, the sets left out count up, and what is left of the search gives the whole. Assumes nothing.
use Rattle.std.specs.Prelude.{◌≡◌, ◌⊎◌, ◌+◌, ◌-◌, ◌^◌, ◌%◌, ◌≤◌, ◌<◌}
use Rattle.base.specs.Basics.{true, false, List, ℕ, length, get_or}
use Rattle.base.specs.Sums.{sum}
use Rattle.cut_sets.specs.declared.Best.{Best}
use Rattle.cut_sets.specs.Sets.{worth_of_set}
use Rattle.cut_sets.specs.Search.{Choice, searched, whole_search}
use Rattle.cut_sets.specs.Found.{smaller}

-- the choice that is the best so far: all but the trades left out
unfoldable pub choice_of : ℕ → ℕ → Best → Choice
choice_of all spare b = record { set = all - 1 - b.left; excess = spare - b.out }

-- so many tries were made, and what is left of the search gives the whole; all trades together are worth `spare` above the target
pub record Counting (ws : List ℕ) (all asked tries spare : ℕ) (b : Best) : Type 0 where
  pub all_is : all ≡ 2 ^ length ws
  pub spare_is : asked + spare ≡ sum (λ w. w) ws
  pub within : b.made ≤ tries
  pub few : b.made ≤ all
  pub below : b.left < b.made
  pub low : b.out ≤ spare
  pub rest : searched (worth_of_set ws) asked (tries - b.made) (all - b.made) b.made (choice_of all spare b) ≡ whole_search ws asked tries

-- the sets from a number up to another can be tried: the worth of those left out is `base` for the high eight bits and a number of the table for the low
pub record Block (base until : ℕ) (table : List ℕ) (from : ℕ) : Type 0 where
  pub few : until ≤ 65535
  pub inside : from ≤ until
  pub most : (k : ℕ) → from ≤ k → k < until → base + get_or table (k % 256) 0 ≤ 2560000000000

-- the first of them that reaches the target with a smaller excess than one that leaves out trades of the worth `best`, or the end
pub record FirstBetter (best base until spare : ℕ) (table : List ℕ) (from k : ℕ) : Type 0 where
  pub on : from ≤ k
  pub inside : k ≤ until
  pub none_before : (j : ℕ) → from ≤ j → j < k → smaller spare (base + get_or table (j % 256) 0) best ≡ false
  pub better : (k ≡ until) ⊎ (smaller spare (base + get_or table (k % 256) 0) best ≡ true)

-- they were tried, up to the number or until an excess of 0 was met, whatever the search is that they belong to
pub record Passed (base until spare : ℕ) (table : List ℕ) (b r : Best) : Type 0 where
  pub ended : (r.out ≡ spare) ⊎ (r.made ≡ until)
  pub counts : (ws : List ℕ) (all asked tries : ℕ) → until ≤ tries → until ≤ all → ((k : ℕ) → b.made ≤ k → k < until → base + get_or table (k % 256) 0 ≡ worth_of_set ws k)
      → Counting ws all asked tries spare b → Counting ws all asked tries spare r
