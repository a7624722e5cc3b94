-- Laws of tests that the search goes by. Assumes nothing.
use Rattle.base.specs.Basics.{◌≡◌, refl, sym, ◌∙◌, ◌⊎◌, inl, inr, Bool, true, false, not, cond, ◌&&◌, ◌||◌, ℕ, ◌-◌, ◌≤◌, ◌<◌, arith, T, eqb, leb, ltb}
use Rattle.base.specs.Basics.{eq-eqb, ne_eqb, le-leb, lt-ltb, leb-true}
use Rattle.base.proofs.Linear.{by_order}
use Rattle.cut_sets.specs.Found.{smaller}

-- a test that fails
pub not-zero : (a : ℕ) → T (not (eqb a 0)) → a ≡ 0 → ⊥
not-zero a h e = rw (eq-eqb a 0 e) at h

-- what is not below is above
pub not_below : (a b x y : ℕ) → T (not (leb a b && ltb x y)) → a ≤ b → y ≤ x
not_below a b x y h k = by_order x y (λ l. absurd (failed l)) (λ l. l)
  where
    failed : x < y → ⊥
    failed l = rw (le-leb a b k, lt-ltb x y l) at h

pub or_either : (a b : Bool) → (a || b) ≡ true → (a ≡ true) ⊎ (b ≡ true)
or_either true b e = inl refl
or_either false b e = inr e

-- a value by a test is below what both are below
pub cond_below : (t : Bool) {a b n : ℕ} → a < n → b < n → cond t a b < n
cond_below true h k = h
cond_below false h k = k

-- the excess of a set that reaches the target is 0 where it leaves out all that can be left out
pub met_same : (out spare : ℕ) → out ≤ spare → eqb out spare ≡ eqb (spare - out) 0
met_same out spare h =
    by_order out spare (λ l. ne_eqb out spare (λ e. omega arith) ∙ sym (ne_eqb (spare - out) 0 (λ e. omega arith)))
    (λ l. eq-eqb out spare (omega arith) ∙ sym (eq-eqb (spare - out) 0 (omega arith)))

-- a set that is taken reaches the target
pub taken_low : (spare out best : ℕ) → best ≤ spare → cond (smaller spare out best) out best ≤ spare
taken_low spare out best h = go (ltb best out) (leb out spare) refl
  where
    go : (a c : Bool) → leb out spare ≡ c → cond (a && c) out best ≤ spare
    go true true e = leb-true out spare e
    go true false e = h
    go false c e = h
