-- The worths given: their sums, and the worth of a set bit by bit. Assumes nothing.
use Rattle.base.specs.Basics.{◌≡◌, refl, ap, ◌∙◌, List, [], ◌∷◌, ℕ, zero, suc, ◌+◌, ◌*◌, ◌-◌, ◌^◌, ◌/◌, ◌≤◌, ◌<◌, arith, length, take, get_or, take-suc}
use Rattle.base.specs.Basics.{length-take-le}
use Rattle.base.specs.Sums.{sum}
use Rattle.std.specs.List as std
use Rattle.std.proofs.lemmas.List.Sums.{sum_by-cons}
use Rattle.base.proofs.Sums.{sum-take_suc}
use Rattle.cut_sets.specs.Sets.{worth_of_set, last_worth}
use Rattle.cut_sets.specs.Found.{Given}
use Rattle.cut_sets.proofs.Sets.{pow_more, worth_snoc, worth_most}

-- the first i of any worths
firsts_most : (xs : List ℕ) (i : ℕ) → ((j : ℕ) → get_or xs j 0 ≤ 10000000000) → sum (λ w. w) (take i xs) ≤ 10000000000 * i
unfolding sum
firsts_most [] zero h = omega arith
firsts_most [] (suc i) h = omega arith
firsts_most (x ∷ xs) zero h = omega arith
firsts_most (x ∷ xs) (suc i) h = omega (arith, h 0, firsts_most xs i (λ j. h (suc j)))

-- the first suc i worths, by the last of them
last_step : (worths : List ℕ) (i rest : ℕ) → i < length worths → rest < 2 ^ suc i → worth_of_set (take (suc i) worths) rest ≡ worth_of_set (take i worths) (rest / 2) + last_worth rest (get_or worths i 0)
last_step worths i rest h l =
    let long = length-take-le i worths (omega arith) in
    ap (λ (ws : List ℕ). worth_of_set ws rest) (take-suc worths i 0 h)
    ∙ worth_snoc (take i worths) (get_or worths i 0) rest (rw long l)

-- the sum of a list is std's
pub sums_same : (xs : List ℕ) → std.sum xs ≡ sum (λ w. w) xs
unfolding sum
sums_same [] = refl
sums_same (x ∷ xs) = sum_by-cons (λ w. w) x xs ∙ ap (λ (n : ℕ). x + n) (sums_same xs)

module _ {n : ℕ} {worths : List ℕ} (g : Given n worths) where
  -- the first i worths
  pub sum_most : (i : ℕ) → sum (λ w. w) (take i worths) ≤ 10000000000 * i
  sum_most i = firsts_most worths i g.each

  -- the n trades
  pub count_is : length (take n worths) ≡ n
  count_is = length-take-le n worths (omega (arith, g.few, g.room))

  -- their sum, as std writes it
  pub total_is : {t : ℕ} → t ≡ std.sum (take n worths) → (t ≡ sum (λ w. w) (take n worths)) × (t ≤ 2560000000000)
  total_is e = let same = sums_same (take n worths) in
      (omega (arith, e, same), omega (arith, e, same, sum_most n, g.few))

  pub total_fits : std.sum (take n worths) < 2 ^ 64
  total_fits = omega (arith, (total_is refl).1)

  -- no set is worth more than 256 × 10^10
  pub set_most : (m : ℕ) → worth_of_set (take n worths) m ≤ 2560000000000
  set_most m = omega (arith, worth_most (take n worths) m, sum_most n, g.few)

  -- a set of the first i trades, by the last of them
  pub bit_step : (i rest : ℕ) → i ≤ n → 0 < rest → rest < 2 ^ i
      → (0 < i) × (rest / 2 < 2 ^ (i - 1)) × (worth_of_set (take i worths) rest ≡ worth_of_set (take (i - 1) worths) (rest / 2) + last_worth rest (get_or worths (i - 1) 0))
  bit_step zero rest h k l = absurd (omega arith)
  bit_step (suc i) rest h k l =
      let two = pow_more i in
      let same : suc i - 1 ≡ i = omega arith in
      (omega arith, rw same (omega arith), rw same (last_step worths i rest (omega (arith, g.few, g.room)) l))
