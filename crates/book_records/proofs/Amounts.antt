-- Laws of a signed amount for each area: as an array, and in 12 bytes. Assumes nothing.
use Rattle.base.specs.Basics.{◌≡◌, refl, List, ℕ, zero, suc, ◌+◌, ◌<◌, ◌^◌, arith, ℤ, get_or}
use Rattle.rules.specs.Signed.{signed_of, bits_of}
use Rattle.rules.specs.Book.{at}
use Rattle.fields.specs.Field.{field, AllBytes}
use Rattle.fields.specs.Layout.{fields_at}
use Rattle.fields.proofs.Field.{field_lt}
use Rattle.units.specs.declared.Net.{Net}
use Rattle.units.specs.Amounts.{net}
use Rattle.units.proofs.TwosComplement.{signed_of_bits_of, bits_of_lt, bits_of_signed_of}
use Rattle.book_records.specs.User.{amounts_at, amount_widths, amount_values, as_amounts, FitsSigned}

-- ---- as an array

-- the amount of an area
pub at-as_amounts : (v : List Net) (a : ℕ) → a < 3 → at (as_amounts v) a ≡ net (get_or v a (record { 0 = 0 }))
unfolding at as_amounts
at-as_amounts v zero h = refl
at-as_amounts v (suc zero) h = refl
at-as_amounts v (suc (suc zero)) h = refl
at-as_amounts v (suc (suc (suc a))) h = absurd (omega arith)

-- ---- in 12 bytes

-- amounts that are read have the bits that stand there
pub amount_values-amounts_at : (i : ℕ) (c : List ℕ) → AllBytes c → amount_values (amounts_at i c) ≡ fields_at amount_widths i c
unfolding amount_values amounts_at amount_widths fields_at
amount_values-amounts_at i c b =
    let e : i + 4 + 4 ≡ i + 8 = omega arith in
    rw
    (e, bits_of_signed_of 32 (field 4 i c) (field_lt 4 i c b), bits_of_signed_of 32 (field 4 (i + 4) c) (field_lt 4 (i + 4) c b), bits_of_signed_of 32 (field 4 (i + 8) c) (field_lt 4 (i + 8) c b))

-- the bits of an integer of w bits stand for it, and fit
pub signed_bits : (w : ℕ) (z : ℤ) → FitsSigned w z → signed_of w (bits_of w z) ≡ z
signed_bits w z f = signed_of_bits_of w z f.above f.below

pub bits_lt : (w : ℕ) (z : ℤ) → FitsSigned w z → bits_of w z < 2 ^ w
bits_lt w z f = bits_of_lt w z f.above f.below
