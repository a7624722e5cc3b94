-- `no_book` fills both arrays with what `no_record` and `no_trade` give, and every other field with 0. Assumes nothing.
use Rattle.base.specs.Basics.{◌≡◌, ◌∙◌, ap, ℕ}
use Rattle.units.specs.declared.Prices.{Prices}
use Rattle.book_tables.proofs.no_book.Goals as goal

none : (f : Prices) → (f.p ≡ 0) × ((f.q ≡ 0) × ((f.l ≡ 0) × ((f.x ≡ 0) × ((f.i ≡ 0) × ((f.s ≡ 0) × (f.u ≡ 0))))))
    → f ≡ record { p = 0; q = 0; l = 0; x = 0; i = 0; s = 0; u = 0 }
none f e =
    ap (λ (n : ℕ). record { p = n; q = f.q; l = f.l; x = f.x; i = f.i; s = f.s; u = f.u }) e.0
    ∙ ap (λ (n : ℕ). record { p = 0; q = n; l = f.l; x = f.x; i = f.i; s = f.s; u = f.u }) e.1.0
    ∙ ap (λ (n : ℕ). record { p = 0; q = 0; l = n; x = f.x; i = f.i; s = f.s; u = f.u }) e.1.1.0
    ∙ ap (λ (n : ℕ). record { p = 0; q = 0; l = 0; x = n; i = f.i; s = f.s; u = f.u }) e.1.1.1.0
    ∙ ap (λ (n : ℕ). record { p = 0; q = 0; l = 0; x = 0; i = n; s = f.s; u = f.u }) e.1.1.1.1.0
    ∙ ap (λ (n : ℕ). record { p = 0; q = 0; l = 0; x = 0; i = 0; s = n; u = f.u }) e.1.1.1.1.1.0
    ∙ ap (λ (n : ℕ). record { p = 0; q = 0; l = 0; x = 0; i = 0; s = 0; u = n }) e.1.1.1.1.1.1

pub returns : goal.returns
returns c = rw (c.no_record.ensures, c.no_trade.ensures, none c.default.result c.default.ensures)
