-- Zero bytes of records that stand one after the other: those of users and of trades. Assumes nothing.
use Rattle.base.specs.Basics.{Bool, List, ℕ, eqb, drop}
use Rattle.base.specs.Lists.{all}
use Rattle.fields.specs.Field.{field}
use Rattle.book_format.specs.Questions.{parts_of}

-- the zero bytes of n records of a length are 0
unfoldable pub zeros_in : (List ℕ → ℕ) → ℕ → ℕ → List ℕ → Bool
zeros_in zeros len n s = all (λ c. eqb (zeros c) 0) (parts_of len n s)

-- those of the n users, in records of a size, that stand in bytes from an offset
abbrev pub user_zeros_in : ℕ → ℕ → ℕ → List ℕ → Bool
user_zeros_in size at n s = zeros_in (λ c. field 3 5 c) size n (drop at s)

-- those of the m trades
abbrev pub trade_zeros_in : ℕ → ℕ → List ℕ → Bool
trade_zeros_in at m s = zeros_in (λ c. field 1 11 c) 20 m (drop at s)
