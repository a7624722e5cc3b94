-- `store_levels`: the rows of a refused call are 64 of nobody, whose numbers are all 0. Assumes nothing.
use Rattle.base.specs.Basics.{◌∙◌, replicate, ap, ℕ}
use Rattle.exports_users.specs.Numbers.{number_of_state, row_numbers, rows_numbers, users_numbers}
use Rattle.user_levels.specs.Levels.{no_levels, no_user}
use Rattle.exports_users.proofs.store_levels.Goals as goal

pub returns-in-Err-clause-numbers : goal.returns-in-Err-clause-numbers
unfolding users_numbers rows_numbers row_numbers number_of_state no_levels no_user
returns-in-Err-clause-numbers c = rw c.in-Err.is (c.store_refusal.ensures.numbers ∙ ap (λ (n : ℕ). replicate n 0) c.requires)
