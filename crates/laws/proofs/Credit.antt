-- In a version without selling tariffs no position has a credit, and the afternoon level is document 01's. Assumes nothing.
use Rattle.base.specs.Basics.{◌≡◌, ap, ◌∙◌, Bool, false, cond, ℕ, arith, ℤ, pos, ◌-ℤ◌, +ℤ_idr}
use Rattle.base.specs.Sums.{sum}
use Rattle.laws.proofs.Bounds.{selling_le}
use Rattle.laws.specs.{Sound.Sound, Statements.uncredited_level}
use Rattle.rules.specs.{Areas.Prices, Areas.areas, Areas.selling_in, Areas.selling_tariff_of, Book.Book, Book.User, Questions.most_selling}
use Rattle.rules.specs.Levels.{Holding, Limits, afternoon_level, afternoon_sum, credit, floored, holding}

-- with selling tariffs of 0
credit_none : (f : Prices) (h : ℕ → Holding) → f.s ≡ 0 → f.u ≡ 0 → credit f h ≡ 0
unfolding credit sum areas selling_tariff_of
credit_none f h s u = rw (s, u) (omega arith)

sub_none : (z : ℤ) (n : ℕ) → n ≡ 0 → z -ℤ pos n ≡ z
sub_none z n none = ap (λ (m : ℕ). z -ℤ pos m) none ∙ +ℤ_idr z

pub level_uncredited : (limits : Limits) (b : Book) (u : User) → Sound b → selling_in b.header.version ≡ false
    → afternoon_level limits b u ≡ uncredited_level limits b u
unfolding afternoon_level afternoon_sum uncredited_level most_selling
level_uncredited limits b u s e =
    let f = b.header.prices in
    let most : most_selling b.header.version ≡ 0 = ap (λ (c : Bool). cond c 100000 0) e in
    let le = selling_le b s in
    ap (λ (z : ℤ). floored limits z) (sub_none _ _ (credit_none f (holding b u) (omega (arith, most, le)) (omega (arith, most, le))))
