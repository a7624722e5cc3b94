-- Document 02, ask 8: "sets are tried counting down from all trades to the empty set, that one too, until the tries are spent,
-- an excess of 0 is met or none is left." Assumes nothing.
use Rattle.std.specs.Prelude.{◌&&◌, ◌-◌, ◌^◌}
use Rattle.base.specs.Basics.{Bool, true, cond, List, ℕ, zero, suc, eqb, leb, ltb, length}
use Rattle.cut_sets.specs.Sets.{worth_of_set}

-- a set that reaches the target, and what it exceeds it by
pub record Choice : Type 0 where
  pub set : ℕ
  pub excess : ℕ

-- "told .. with that excess and the tries made. It says complete .."
pub record Search : Type 0 where
  pub choice : Choice
  pub tries : ℕ
  pub complete : Bool

module _ (worth : ℕ → ℕ) (asked : ℕ) where
  -- "the tried set that reaches T with the smallest excess, the first such": one more set is taken where it reaches the target with a smaller excess
  unfoldable pub better : Choice → ℕ → Choice
  better best m = cond (leb asked (worth m) && ltb (worth m - asked) best.excess) (record { set = m; excess = worth m - asked }) best

  -- "counting down .. until the tries are spent, an excess of 0 is met or none is left": `left` tries are left, and the sets below m; so many were made
  unfoldable pub searched : ℕ → ℕ → ℕ → Choice → Search
  searched left zero made best = record { choice = best; tries = made; complete = true }
  searched zero (suc m) made best = record { choice = best; tries = made; complete = eqb best.excess 0 }
  searched (suc left) (suc m) made best =
      let rest = searched left m (suc made) (better best m) in
      cond (eqb best.excess 0) (record { choice = best; tries = made; complete = true }) rest

-- "from all trades to the empty set": the first try is all trades
unfoldable pub whole_search : List ℕ → ℕ → ℕ → Search
whole_search ws asked tries =
    let all = 2 ^ length ws - 1 in
    searched (worth_of_set ws) asked (tries - 1) all 1 (record { set = all; excess = worth_of_set ws all - asked })
