-- Question 19, asked of a lent log where it is given, after the other opening questions. Assumes nothing.
use Rattle.std.specs.Prelude.{◌≡◌}
use Rattle.base.specs.Basics.{Bool, true, List, ℕ, T}
use Rattle.log_format.specs.Fits.{log_fits, log_number}
use Rattle.store.specs.Store.{given}
use Rattle.rules.specs.Questions.{first_of}

-- the number of the questions before it, or where that is 0 its own
pub record LogAsked (asked : ℕ) (lent : Bool) (l s : List ℕ) (number : ℕ) : Type 0 where
  pub is : number ≡ first_of asked (log_number (given lent l) s)
  pub before : number ≡ 0 → asked ≡ 0
  pub fits : number ≡ 0 → lent ≡ true → T (log_fits l s)
