-- A part lent by a caller in C has a length of the caller's: one of another length than the function asks for gets the number 255, and nothing is changed. Assumes nothing.
use Rattle.std.specs.Prelude.{◌≡◌}
use Rattle.base.specs.Basics.{cond, List, ℕ, eqb, length}

-- the number for a lent part of another length than the function asks for
abbrev pub wrong_length : ℕ
wrong_length = 255

-- by the length of a lent part: the one where it has n places, the other where it has not
unfoldable pub by_length : {A : Type 0} → ℕ → List ℕ → A → A → A
by_length n part given other = cond (eqb (length part) n) given other

-- What a function leaves that asks of a lent part that it has n places, and changes a part, which is `before` at entry: its number, and the whole of that part afterwards.
pub record Given (n : ℕ) (lent : List ℕ) (asked : ℕ) (values before : List ℕ) (result : ℕ) (after : List ℕ) : Type 0 where
  pub number : result ≡ by_length n lent asked wrong_length
  pub part : after ≡ by_length n lent values before

-- the same where both are one part: n values are stored in it
abbrev pub Stored : ℕ → List ℕ → ℕ → List ℕ → ℕ → List ℕ → Type 0
Stored n lent asked values result after = Given n lent asked values lent result after

-- What a function leaves that stores values in two lent parts of n and m places: its number and both parts; where one of them is of another length both are left as they are.
pub record StoredBoth (n m : ℕ) (first second : List ℕ) (asked : ℕ) (values numbers : List ℕ) (result : ℕ) (first-after second-after : List ℕ) : Type 0 where
  pub number : result ≡ by_length n first (by_length m second asked wrong_length) wrong_length
  pub one : first-after ≡ by_length n first (by_length m second values first) first
  pub other : second-after ≡ by_length n first (by_length m second numbers second) second
