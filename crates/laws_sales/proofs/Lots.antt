-- The trades of a tier and their worth: a list of lots from two lists of numbers, trade by trade. Assumes nothing.
use Rattle.base.specs.Basics.{◌≡◌, refl, ap, Bool, List, [], ◌∷◌, map, ℕ, suc, ◌*◌, ◌≤◌, mul-le-mul, arith, length}
use Rattle.laws.specs.Trades.{standing_if, tariff_of}
use Rattle.rules.specs.{Areas.Prices, Book.Trade, Reduction.lot, Shares.Lot}
use Rattle.laws_sales.specs.Lots.{lots_of}

-- there are as many as in either list
pub lots_length : (ss ts : List ℕ) → length ts ≡ length ss → length (lots_of ss ts) ≡ length ss
unfolding lots_of
lots_length [] ts e = refl
lots_length (s ∷ ss) [] e = e
lots_length (s ∷ ss) (t ∷ ts) e = ap suc (lots_length ss ts (omega arith))

-- what stands of each is the first list
pub lots_standing : (ss ts : List ℕ) → length ts ≡ length ss → map (λ x. x.standing) (lots_of ss ts) ≡ ss
unfolding lots_of
lots_standing [] ts e = refl
lots_standing (s ∷ ss) [] e = absurd (omega arith)
lots_standing (s ∷ ss) (t ∷ ts) e = ap (λ (ns : List ℕ). s ∷ ns) (lots_standing ss ts (omega arith))

-- a tier read off trades is two lists read off them
pub lots_map : (f : Prices) (p : Trade → Bool) (ts : List Trade) → map (lot f p) ts ≡ lots_of (map (standing_if p) ts) (map (tariff_of f) ts)
unfolding lots_of lot
lots_map f p [] = refl
lots_map f p (t ∷ ts) = ap (λ (xs : List Lot). record { standing = standing_if p t; tariff = tariff_of f t } ∷ xs) (lots_map f p ts)

-- a trade's worth has a bound
pub one_worth_le : {s t : ℕ} → s ≤ 100000 → t ≤ 100000 → s * t ≤ 10000000000
one_worth_le {s} {t} h k = omega (arith, mul-le-mul {n₁ = s} {m₁ = t} {n₂ = 100000} {m₂ = 100000} h k)
