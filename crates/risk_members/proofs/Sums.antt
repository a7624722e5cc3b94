-- Sums over those whose risk a user bears, user by user. Assumes nothing.
use Rattle.base.specs.Basics.{◌≡◌, refl, sym, ap, ap₂, ◌∙◌, Bool, true, false, cond, List, ℕ, ◌+◌, ◌-◌, ◌≤◌, ◌<◌, ◌^◌, add-one}
use Rattle.base.specs.Basics.{arith, eqb, ℤ, pos, ◌+ℤ◌, +ℤ_idr, length, take, get_or, take_all}
use Rattle.base.proofs.Sums.{sum-take_suc}
use Rattle.base.specs.Sums.{sum, sum_ℤ}
use Rattle.rules.specs.Bearers.{bearer, borne_sum}
use Rattle.rules.specs.Book.{PerArea, User, at, nobody}
use Rattle.units.proofs.Amounts.{net-zero}
use Rattle.units.specs.Amounts.{net}
use Rattle.laws.proofs.Members.{members_sum}
use Rattle.risk_bearers.proofs.Bearing.{sum_more}
use Rattle.risk_bearers.proofs.Rows.{net-add}
use Rattle.risk_members.specs.Sums.{AmountRoom, CountTo, Passed, SumTo}

-- an amount that a book can have, kept with 2^31
pub record Near (y : ℕ) : Type 0 where
  pub low : 2 ^ 31 ≤ y + 26600000
  pub high : y ≤ 2 ^ 31 + 26600000

-- it can be added where there is room
pub sum_fits : {x y : ℕ} → AmountRoom x → Near y → (2 ^ 31 ≤ x + y) × (x + y < 2 ^ 32 + 2 ^ 31)
sum_fits r near = (omega (arith, r.low, near.low), omega (arith, r.high, near.high))

module _ (us : List User) (id area : ℕ) where
  -- ---- a signed amount
  module _ (amounts : User → PerArea) where
    abbrev one : User → ℤ
    one v = cond (eqb (bearer v area) id) (at (amounts v) area) (pos 0)

    pub sum_start : SumTo us id area amounts 0 2147483648
    unfolding sum_ℤ
    sum_start = record { few = omega arith; is = net-zero; low = omega arith; high = omega arith }

    -- what there is room for before the last of 64
    pub sum_room : {k x : ℕ} → SumTo us id area amounts k x → k < 64 → AmountRoom x
    sum_room p l = record { low = omega (arith, p.low); high = omega (arith, p.high) }

    -- a user more, who counts
    pub sum_with : {k x y r : ℕ} → SumTo us id area amounts k x → Near y → k < length us → k < 64 → net (record { 0 = y }) ≡ at (amounts (get_or us k nobody)) area → eqb (bearer (get_or us k nobody) area) id ≡ true
        → r ≡ x + y - 2 ^ 31 → SumTo us id area amounts (k + 1) r
    sum_with {k} {x} {y} {r} p near h l e t is = rw (is, add-one k) (record {
      few = omega arith;
      is = net-add x y (sum_fits (sum_room p l) near).0 ∙ ap₂ (λ (a b : ℤ). a +ℤ b) p.is (e ∙ ap (λ (d : Bool). cond d (at (amounts (get_or us k nobody)) area) (pos 0)) (sym t)) ∙ sym (sum_more one us k h);
      low = omega (arith, p.low, near.low, (sum_fits (sum_room p l) near).0);
      high = omega (arith, p.high, near.high, (sum_fits (sum_room p l) near).0);
    })

    -- a user more, who does not
    pub sum_without : {k x : ℕ} → SumTo us id area amounts k x → k < length us → k < 64 → eqb (bearer (get_or us k nobody) area) id ≡ false → SumTo us id area amounts (k + 1) x
    sum_without {k} {x} p h l t = rw (add-one k) (record {
      few = omega arith;
      is = p.is ∙ sym (+ℤ_idr (sum_ℤ one (take k us))) ∙ ap (λ (b : ℤ). sum_ℤ one (take k us) +ℤ b) (ap (λ (d : Bool). cond d (at (amounts (get_or us k nobody)) area) (pos 0)) (sym t)) ∙ sym (sum_more one us k h);
      low = omega (arith, p.low);
      high = omega (arith, p.high);
    })

    -- all of them
    pub sum_end : {k x : ℕ} → SumTo us id area amounts k x → length us ≤ k → net (record { 0 = x }) ≡ borne_sum amounts us id area
    unfolding borne_sum
    sum_end {k} p h = p.is ∙ ap (sum_ℤ one) (take_all k us h)

  -- ---- a number
  module _ (amount : User → ℕ) where
    abbrev single : User → ℕ
    single v = cond (eqb (bearer v area) id) (amount v) 0

    pub count_start : CountTo us id area amount 0 0
    unfolding sum
    count_start = record { is = refl; high = omega arith }

    pub count_with : {k x y r : ℕ} → CountTo us id area amount k x → y ≤ 25600000 → k < length us → y ≡ amount (get_or us k nobody) → eqb (bearer (get_or us k nobody) area) id ≡ true → r ≡ x + y → CountTo us id area amount (k + 1) r
    count_with {k} {x} {y} {r} p most h e t is = rw is (record {
      is = ap₂ (λ (a b : ℕ). a + b) p.is (e ∙ ap (λ (d : Bool). cond d (amount (get_or us k nobody)) 0) (sym t)) ∙ sym (sum-take_suc single us k nobody h);
      high = omega (arith, p.high);
    })

    pub count_without : {k x : ℕ} → CountTo us id area amount k x → k < length us → eqb (bearer (get_or us k nobody) area) id ≡ false → CountTo us id area amount (k + 1) x
    count_without {k} {x} p h t =
        let none : single (get_or us k nobody) ≡ 0 = ap (λ (d : Bool). cond d (amount (get_or us k nobody)) 0) t in
        record { is = omega (arith, p.is, none, sum-take_suc single us k nobody h); high = omega (arith, p.high) }

    pub count_end : {k x : ℕ} → CountTo us id area amount k x → length us ≤ k → x ≡ members_sum amount us id area
    unfolding members_sum
    count_end {k} p h = p.is ∙ ap (sum single) (take_all k us h)

  -- ---- those who do not count
  pub passed_none : (from : ℕ) → Passed us id area from from
  passed_none from = record { sums = λ amounts x p. p; counts = λ amount x p. p }

  pub passed_more : {from k : ℕ} → Passed us id area from k → k < length us → k < 64 → eqb (bearer (get_or us k nobody) area) id ≡ false → Passed us id area from (k + 1)
  passed_more p h l t = record {
    sums = λ amounts x q. sum_without amounts (p.sums amounts x q) h l t;
    counts = λ amount x q. count_without amount (p.counts amount x q) h t;
  }
