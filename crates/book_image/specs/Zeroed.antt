-- Records with a field as 0. Assumes nothing.
use Rattle.base.specs.Basics.{List, ℕ}
use Rattle.fields.specs.Field.{set_field}
use Rattle.fields.specs.Layout.{records_of, bytes_of_records}

-- the n records of a size that bytes begin with, one after the other, the field of a width at an offset of each as 0
unfoldable pub zeroed_records : ℕ → ℕ → ℕ → ℕ → List ℕ → List ℕ
zeroed_records width offset size n s = bytes_of_records (λ c. set_field width offset 0 c) (records_of size (λ c. c) n s)
