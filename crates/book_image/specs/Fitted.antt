-- Records of one size as records of another: what the other has no room for is cut off, what it has more is 0. Assumes nothing.
use Rattle.std.specs.Prelude.{◌++◌, ◌-◌}
use Rattle.base.specs.Basics.{List, ℕ, length, replicate, take}
use Rattle.fields.specs.Layout.{records_of, bytes_of_records}

-- bytes as so many
unfoldable pub fitted : ℕ → List ℕ → List ℕ
fitted size c = take size c ++ replicate (size - length c) 0

-- the n records of a size that bytes begin with, each as so many bytes
unfoldable pub refitted : ℕ → ℕ → ℕ → List ℕ → List ℕ
refitted newSize size n s = bytes_of_records (fitted newSize) (records_of size (λ c. c) n s)
