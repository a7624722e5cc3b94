-- The rows of users, stored one after the other: what is left to store gives the whole. Assumes nothing.
use Rattle.base.specs.Basics.{◌≡◌, refl, sym, ap, ◌∙◌, List, [], ◌∷◌, ◌++◌, map, ℕ, suc, ◌+◌, ◌*◌, ◌<◌, ◌≤◌, arith, drop, get_or, length, length-map}
use Rattle.base.specs.Basics.{drop-cons, drop-length, length-sets, sets}
use Rattle.fields.proofs.Sets.{sets_whole}
use Rattle.user_levels.specs.Levels as rows
use Rattle.call_answers.specs.Levels.{as_row}
use Rattle.call_answers.specs.declared.UserLevels.{UserLevels}
use Rattle.exports_users.specs.Numbers.{row_numbers, rows_numbers}

rows_long : (xs : List rows.UserLevels) → length (rows_numbers xs) ≡ 4 * length xs
unfolding rows_numbers row_numbers
rows_long [] = refl
rows_long (x ∷ xs) = omega (arith, rows_long xs)

-- what the rows from a place on are in the part
abbrev left : List UserLevels → List ℕ → ℕ → List ℕ
left us xs i = sets xs (4 * i) (rows_numbers (map as_row (drop i us)))

-- where i rows are stored
pub record RowsStored (us : List UserLevels) (part₀ part : List ℕ) (i : ℕ) : Type 0 where
  pub many : length us ≡ 64
  pub inside : i ≤ 64
  pub long : length part ≡ 256
  pub rest : left us part i ≡ left us part₀ 0

pub stored_start : {us : List UserLevels} {part : List ℕ} → length us ≡ 64 → length part ≡ 256 → RowsStored us part part 0
stored_start n l = record { many = n; inside = omega arith; long = l; rest = refl }

module _ {us : List UserLevels} {part₀ part : List ℕ} {i : ℕ} (p : RowsStored us part₀ part i) where
  pub stored_next : (d : UserLevels) → i < 64 → {next : List ℕ} → next ≡ sets part (4 * i) (row_numbers (as_row (get_or us i d))) → RowsStored us part₀ next (i + 1)
  unfolding rows_numbers row_numbers
  stored_next d h {next} e =
      let r = as_row (get_or us i d) in
      let later = rows_numbers (map as_row (drop (suc i) us)) in
      let n : i + 1 ≡ suc i = omega arith in
      let k : 4 * (i + 1) ≡ suc (suc (suc (suc (4 * i)))) = omega arith in
      let one : drop i us ≡ get_or us i d ∷ drop (suc i) us = drop-cons us i d (omega (arith, p.many)) in
      let one_row : sets part (4 * i) (row_numbers r ++ later) ≡ left us part i = ap (λ (l : List UserLevels). sets part (4 * i) (rows_numbers (map as_row l))) (sym one) in
      record {
        many = p.many;
        inside = omega arith;
        long = ap length e ∙ length-sets part (4 * i) (row_numbers r) ∙ p.long;
        rest =
            ap (λ (m : ℕ). sets next (4 * (i + 1)) (rows_numbers (map as_row (drop m us)))) n
            ∙ ap (λ (m : ℕ). sets next m later) k
            ∙ ap (λ (l : List ℕ). sets l (suc (suc (suc (suc (4 * i))))) later) e
            ∙ one_row
            ∙ p.rest;
      }

  pub stored_all : length part₀ ≡ 256 → 64 ≤ i → part ≡ rows_numbers (map as_row us)
  unfolding rows_numbers
  stored_all l h =
      let n : i ≡ length us = omega (arith, p.inside, p.many) in
      let nothing : left us part i ≡ part
      = ap (λ (m : ℕ). sets part (4 * i) (rows_numbers (map as_row (drop m us)))) n ∙ empty (drop (length us) us) (drop-length us) in
      let whole : left us part₀ 0 ≡ rows_numbers (map as_row us)
      = sets_whole (rows_numbers (map as_row us)) part₀ (omega (arith, rows_long (map as_row us), length-map us as_row, p.many)) in
      sym nothing ∙ p.rest ∙ whole
    where
      empty : (rest : List UserLevels) → rest ≡ [] → sets part (4 * i) (rows_numbers (map as_row rest)) ≡ part
      empty rest e = ap (λ (l : List UserLevels). sets part (4 * i) (rows_numbers (map as_row l))) e
