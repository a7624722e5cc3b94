-- A part of a list, by where it starts and where it ends. Assumes nothing.
use Rattle.std.specs.Prelude.{◌-◌}
use Rattle.base.specs.Basics.{List, ℕ, take, drop}

-- the part of a list that starts at a place and ends before another
abbrev pub part : {A : Type 0} → ℕ → ℕ → List A → List A
part from to xs = take (to - from) (drop from xs)
