-- The worth of cuts at the rates of a tier, and what a tier is worth after them. Assumes nothing.
use Rattle.base.specs.Basics.{◌≡◌, refl, ap, List, [], ◌∷◌, ℕ, suc, ◌+◌, ◌*◌, ◌-◌, ◌≤◌, add-mul, zero-mul, arith}
use Rattle.base.specs.Basics.{length, get_or}
use Rattle.base.specs.Sums.{sum}
use Rattle.cut_shares.specs.Turns.{shares_of}
use Rattle.cut_worth.proofs.Rates.{weighted}
use Rattle.cut_worth.specs.Rates.{lots_in, rate_in, rates_in}
use Rattle.laws_sales.specs.Lots.{lots_of}
use Rattle.laws_sales.specs.Sales.{less, standing_in}
use Rattle.rules.specs.Shares.{loss, tier_worth}

-- no cuts are no loss
pub none_loss : (cs rs ts : List ℕ) → ((k : ℕ) → get_or cs k 0 ≡ 0) → loss (shares_of cs rs ts) ≡ 0
unfolding shares_of loss sum
none_loss [] rs ts h = refl
none_loss (c ∷ cs) [] ts h = refl
none_loss (c ∷ cs) (r ∷ rs) [] h = refl
none_loss (c ∷ cs) (r ∷ rs) (t ∷ ts) h = omega (arith, ap (λ (n : ℕ). n * t) (h 0), zero-mul t, none_loss cs rs ts (λ k. h (suc k)))

-- the loss that cuts make is what they are worth as a tier
pub loss_worth : (rates cs rs areas : List ℕ) → length cs ≡ length areas → length rs ≡ length areas
    → loss (shares_of cs rs (rates_in rates areas)) ≡ tier_worth (lots_in rates cs areas)
unfolding shares_of loss sum lots_in lots_of standing_in tier_worth
loss_worth rates [] rs areas e f = refl
loss_worth rates (c ∷ cs) [] [] e f = refl
loss_worth rates (c ∷ cs) [] (a ∷ areas) e f = absurd (omega arith)
loss_worth rates (c ∷ cs) (r ∷ rs) [] e f = absurd (omega arith)
loss_worth rates (c ∷ cs) (r ∷ rs) (a ∷ areas) e f =
    omega (arith, weighted c (rate_in rates a), loss_worth rates cs rs areas (omega arith) (omega arith))

-- a tier is worth less by its cuts
pub worth_less : (rates cs ns areas : List ℕ) → length cs ≡ length ns → ((k : ℕ) → get_or cs k 0 ≤ get_or ns k 0)
    → tier_worth (lots_in rates (less cs ns) areas) + tier_worth (lots_in rates cs areas) ≡ tier_worth (lots_in rates ns areas)
unfolding less lots_in lots_of standing_in tier_worth
worth_less rates [] [] areas e h = refl
worth_less rates [] (n ∷ ns) areas e h = absurd (omega arith)
worth_less rates (c ∷ cs) [] areas e h = absurd (omega arith)
worth_less rates (c ∷ cs) (n ∷ ns) [] e h = refl
worth_less rates (c ∷ cs) (n ∷ ns) (a ∷ areas) e h =
    let rate = rate_in rates a in
    let whole : n - c + c ≡ n = omega (arith, h 0) in
    omega (
      arith,
      weighted (n - c) rate,
      weighted c rate,
      weighted n rate,
      add-mul (n - c) c rate,
      ap (λ (m : ℕ). m * rate) whole,
      worth_less rates cs ns areas (omega arith) (λ k. h (suc k)),
    )
