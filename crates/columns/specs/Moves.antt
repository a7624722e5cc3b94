-- Fields of one width moved from one list to another: taken every so many places, stored every so many places. Assumes nothing.
use Rattle.std.specs.Prelude.{List, ◌≡◌, ℕ, zero, suc, ◌+◌, ◌*◌, ◌<◌, ◌≤◌, take, drop}
use Rattle.std.proofs.lemmas.List.Edits.{sets}
use Rattle.fields.specs.Layout.{size, Every}

-- n fields of a width, those that stand in s from a place on, `step` apart, stored in another list from a place on, `apart` apart
unfoldable pub moved : ℕ → ℕ → List ℕ → ℕ → ℕ → List ℕ → ℕ → ℕ → List ℕ
moved w zero s from step out to apart = out
moved w (suc n) s from step out to apart =
    moved w n s (from + step) step (sets out to (take w (drop from s))) (to + apart) apart

-- n fields of a width that stand from a place on, `step` apart, lie in a list of a length
abbrev pub FieldsIn : ℕ → ℕ → ℕ → ℕ → ℕ → Type 0
FieldsIn w n from step long = (i : ℕ) → i < n → from + step * i + w ≤ long

-- n fields of a width, no wider than a number of 8 bytes, can be moved from a list of `given` bytes to one of `lent`
pub record Movable (w n from step given to apart lent : ℕ) : Type 0 where
  pub narrow : w ≤ 8
  pub source : FieldsIn w n from step given
  pub target : FieldsIn w n to apart lent

-- n records of `long` bytes, with fields of widths ws, none wider than a number of 8 bytes, fill a list of `given` bytes and one of `lent`
pub record Filled (ws : List ℕ) (long n given lent : ℕ) : Type 0 where
  pub narrow : Every (λ w. w ≤ 8) ws
  pub fields : size ws ≡ long
  pub source : given ≡ long * n
  pub target : lent ≡ long * n

-- n records of `long` bytes, with such fields, lie from a place on in a list of `given` bytes and in one of `lent`
pub record Within (ws : List ℕ) (long n at given lent : ℕ) : Type 0 where
  pub narrow : Every (λ w. w ≤ 8) ws
  pub fields : size ws ≡ long
  pub source : at + long * n ≤ given
  pub target : at + long * n ≤ lent
