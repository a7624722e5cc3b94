-- The numbers that a return is in a lent part, in their order. Assumes nothing.
use Rattle.std.specs.Prelude.{◌∷◌, ◌++◌}
use Rattle.base.specs.Basics.{List, ℕ}
use Rattle.shrinkage.specs.Return.{Returned}

-- three amounts, then the shares and the remainders of 64 users
unfoldable pub table_numbers : ℕ → ℕ → ℕ → List ℕ → List ℕ → List ℕ
table_numbers half odd rest shares remainders = half ∷ (odd ∷ (rest ∷ (shares ++ remainders)))

-- of a return: H, the odd kWh, the account's rest, the shares and the remainders
unfoldable pub return_numbers : Returned → List ℕ
return_numbers r = table_numbers r.half r.odd r.rest r.shares r.remainders
