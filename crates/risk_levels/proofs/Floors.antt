-- A level as a difference of naturals, never below the floor, and the exposure and the credit in it. Assumes nothing.
use Rattle.base.specs.Basics.{◌≡◌, refl, List, [], ◌∷◌, ℕ, ◌+◌, ◌-◌, max, arith, ℤ, pos, ◌+ℤ◌, ◌-ℤ◌, +ℤ_assoc}
use Rattle.base.specs.Parts.{pos_part, neg_part}
use Rattle.base.proofs.Linear.{pos_part_of, pos_part-pos, neg_part-pos, parts_add, parts_sub}
use Rattle.base.specs.Sums.{sum}
use Rattle.rules.specs.Areas.{Prices, areas}
use Rattle.rules.specs.Book.{at}
use Rattle.rules.specs.Levels.{Limits, credit, exposure, floored}
use Rattle.units.specs.declared.Net.{Net}
use Rattle.book_records.specs.User.{as_amounts}
use Rattle.risk_holdings.specs.declared.Holdings.{Holdings}
use Rattle.risk_holdings.specs.Holdings.{as_holding, held_in, positioned}

-- charges and a worth less a credit, with the floor
pub floored_of : (l : Limits) (charges : ℤ) (n m : ℕ) → floored l (charges +ℤ pos n -ℤ pos m) ≡ max l.floor (pos_part charges + n - (neg_part charges + m))
unfolding floored
floored_of l charges n m =
    omega (
      arith,
      pos_part_of (charges +ℤ pos n -ℤ pos m) (pos_part charges + n) (neg_part charges + m)
          (omega (arith, parts_add charges (pos n), parts_sub (charges +ℤ pos n) (pos m), pos_part-pos n, neg_part-pos n, pos_part-pos m, neg_part-pos m)),
    )

-- two worths added one after the other, or together
pub add_worths : (charges : ℤ) (m n : ℕ) → charges +ℤ pos m +ℤ pos n ≡ charges +ℤ pos (m + n)
add_worths charges m n = +ℤ_assoc charges (pos m) (pos n)

-- of holdings, exposure reads the positions
pub exposure_held : (f : Prices) (h : Holdings) {v : List Net} → v ≡ h.pvb.position ∷ h.tvb.position ∷ h.avb.position ∷ [] → exposure f (positioned v) ≡ exposure f (held_in h)
unfolding exposure sum areas positioned held_in as_holding at as_amounts
exposure_held f h e = rw e refl

-- and so does the credit
pub credit_held : (f : Prices) (h : Holdings) {v : List Net} → v ≡ h.pvb.position ∷ h.tvb.position ∷ h.avb.position ∷ [] → credit f (positioned v) ≡ credit f (held_in h)
unfolding credit sum areas positioned held_in as_holding at as_amounts
credit_held f h e = rw e refl
