-- Document 02, ask 8: "a set of whole eligible trades" among all trades, by trade place, and the search among these sets. Assumes nothing.
use Rattle.std.specs.Prelude.{◌&&◌, ◌||◌, ◌∷◌, ◌+◌, ◌-◌, ◌^◌}
use Rattle.base.specs.Basics.{Bool, true, false, not, cond, List, [], map, ℕ, leb}
use Rattle.base.specs.Sums.{sum}
use Rattle.cut_sets.specs.Sets.{marked_worth}
use Rattle.cut_sets.specs.Search.{Search, searched}

module _ {A : Type 0} (eligible : A → Bool) where
  -- how many trades are eligible
  unfoldable pub count_of : List A → ℕ
  count_of ts = sum (λ t. cond (eligible t) 1 0) ts

  -- "A set is read as a binary number, the earliest trade its highest bit .. told as 256 marks by trade place": the marks of the trades; one that is not eligible has none
  unfoldable pub marks_at : List A → ℕ → List Bool
  marks_at [] m = []
  marks_at (t ∷ ts) m =
      let bit = 2 ^ count_of ts in
      cond (eligible t) (cond (leb bit m) (true ∷ marks_at ts (m - bit)) (false ∷ marks_at ts m)) (false ∷ marks_at ts m)

  -- "a set of whole eligible trades", told by marks: one for each trade, true only where the trade is eligible
  unfoldable pub is_set : List A → List Bool → Bool
  is_set [] [] = true
  is_set [] (x ∷ xs) = false
  is_set (t ∷ ts) [] = false
  is_set (t ∷ ts) (x ∷ xs) = (not x || eligible t) && is_set ts xs

  -- "A set is read as a binary number, the earliest trade its highest bit": the number of a set
  unfoldable pub set_number : List A → List Bool → ℕ
  set_number [] xs = 0
  set_number (t ∷ ts) [] = 0
  set_number (t ∷ ts) (x ∷ xs) = cond x (2 ^ count_of ts) 0 + set_number ts xs

  module _ (worth : A → ℕ) where
    -- "whose worth at tariff is at least the target T": the worth of a set, by its number
    unfoldable pub worth_in : List A → ℕ → ℕ
    worth_in ts m = marked_worth (marks_at ts m) (map worth ts)

    -- "sets are tried counting down from all trades": the first try is all of them
    unfoldable pub place_search : List A → ℕ → ℕ → Search
    place_search ts asked tries =
        let all = 2 ^ count_of ts - 1 in
        searched (worth_in ts) asked (tries - 1) all 1 (record { set = all; excess = worth_in ts all - asked })

    -- the worths of the eligible trades, in book order
    unfoldable pub worths_of : List A → List ℕ
    worths_of [] = []
    worths_of (t ∷ ts) = cond (eligible t) (worth t ∷ worths_of ts) (worths_of ts)
