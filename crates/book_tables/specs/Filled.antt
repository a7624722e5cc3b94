-- Arrays into which records were read. Assumes nothing.
use Rattle.std.specs.Prelude.{◌≡◌, ◌-◌}
use Rattle.base.specs.Basics.{List, map, ℕ, length, take, drop, replicate}
use Rattle.fields.specs.Layout.{records_of}

-- an array into which n records were read: what they are is what the bytes hold, and the rest is blank
pub record Filled {R M : Type 0} (face : R → M) (len : ℕ) (one : List ℕ → M) (room : ℕ) (blank : R) (n : ℕ) (s : List ℕ) (rs : List R) : Type 0 where
  pub records : map face (take n rs) ≡ records_of len one n s
  pub rest : drop n rs ≡ replicate (room - n) blank
  pub full : length rs ≡ room
