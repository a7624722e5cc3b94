-- The answer of the code, told in the words of the search. Assumes nothing.
use Rattle.std.specs.Prelude.{◌≡◌, ◌&&◌, ◌||◌, ◌+◌, ◌*◌, ◌-◌, ◌^◌, ◌≤◌, ◌<◌}
use Rattle.base.specs.Basics.{Bool, List, ℕ, eqb, leb, ltb, length, take, get_or}
use Rattle.base.specs.Sums.{sum}
use Rattle.cut_sets.specs.declared.Found.{Found}
use Rattle.cut_sets.specs.declared.Best.{Best}
use Rattle.cut_sets.specs.Search.{Search, whole_search}

-- at most 256 trades, each worth at most 10^10 cents
pub record Given (n : ℕ) (worths : List ℕ) : Type 0 where
  pub few : n ≤ 256
  pub room : length worths ≡ 256
  pub each : (i : ℕ) → get_or worths i 0 ≤ 10000000000

-- what is asked of a search: all trades together, whose worth is told, reach the target, and the tries are 1 to 65,535
pub record Sought (n together asked tries : ℕ) (worths : List ℕ) : Type 0 where
  pub given : Given n worths
  pub together_is : together ≡ sum (λ w. w) (take n worths)
  pub reached : asked ≤ together
  pub some : 0 < tries
  pub few : tries < 65536

-- a table has room for so many sets, and they are sets of the n trades
pub record TableRoom (n step count : ℕ) (worths : List ℕ) : Type 0 where
  pub given : Given n worths
  pub small : step ≤ 256
  pub room : count ≤ 256
  pub inside : count * step < 2 ^ n + step

-- a table of the worths of the sets 0, step, 2 × step and so on
pub record Table (worth : ℕ → ℕ) (step count : ℕ) (table : List ℕ) : Type 0 where
  pub at : (j : ℕ) → j < count → get_or table j 0 ≡ worth (j * step)

-- the search among so many sets that an answer tells of: its set is all trades but those left out
unfoldable pub search_of : ℕ → Found → Search
search_of all r = record { choice = record { set = all - 1 - r.left; excess = r.excess }; tries = r.tries; complete = r.complete }

-- the answer is the search's, and what is left out is one of the sets
pub record Answered (all asked tries : ℕ) (ws : List ℕ) (r : Found) : Type 0 where
  pub search_is : search_of all r ≡ whole_search ws asked tries
  pub left_few : r.left < all

-- where all trades together are worth `spare` above the target: a set that leaves out trades of the worth `out` reaches it, and exceeds it by less than one that leaves out `best`
abbrev pub smaller : ℕ → ℕ → ℕ → Bool
smaller spare out best = ltb best out && leb out spare

-- the answer tells the best so far, and "complete exactly when the excess is 0 or every set was tried"
pub record Told (spare sets : ℕ) (b : Best) (r : Found) : Type 0 where
  pub left_is : r.left ≡ b.left
  pub excess_is : r.excess ≡ spare - b.out
  pub tries_is : r.tries ≡ b.made
  pub complete_is : r.complete ≡ (eqb b.out spare || eqb b.made sets)
