-- Amounts are added one after the other to those of who bears the risk. Assumes nothing.
use Rattle.base.specs.Basics.{◌≡◌, refl, sym, ap, ap₂, ◌∙◌, Bool, false, cond, List, ℕ, suc, ◌+◌, ◌*◌, ◌-◌, ◌≤◌, ◌<◌, ◌^◌, add-one, arith, eqb, ltb}
use Rattle.base.specs.Basics.{ℤ, pos, ◌+ℤ◌, +ℤ_idr, get_or, set, length-set, get_or-set_same, get_or-set_other, eq-eqb, le-ltb, lt-ltb, ne_eqb}
use Rattle.base.proofs.Linear.{by_order, parts_add}
use Rattle.base.proofs.Stores.{here_or_apart}
use Rattle.units.proofs.Amounts.{net-eq, net-zero, parts_net}
use Rattle.units.specs.Amounts.{net}
use Rattle.risk_bearers.specs.Bearers.{bearer_in}
use Rattle.risk_bearers.specs.Rows.{Bearable, Cleared, NextBorne, Rows, RowsTo, amount_in, borne_to, passed_in}

-- two amounts kept so, added
pub net-add : (x y : ℕ) → 2 ^ 31 ≤ x + y → net (record { 0 = x + y - 2 ^ 31 }) ≡ net (record { 0 = x }) +ℤ net (record { 0 = y })
net-add x y h =
    let a = net (record { 0 = x }) in
    let b = net (record { 0 = y }) in
    net-eq (record { 0 = x + y - 2 ^ 31 }) (a +ℤ b) (omega (arith, parts_net (record { 0 = x }), parts_net (record { 0 = y }), parts_add a b))

-- how far it has come in an area
passed_before : (k area : ℕ) → passed_in k area area ≡ k
unfolding passed_in
passed_before k area = rw (le-ltb area area (omega arith))

passed_after : (k area : ℕ) → passed_in k (area + 1) area ≡ suc k
unfolding passed_in
passed_after k area = rw (lt-ltb area (area + 1) (omega arith))

passed_other : (k done area : ℕ) → (area ≡ done → ⊥) → passed_in k (done + 1) area ≡ passed_in k done area
unfolding passed_in
passed_other k done area n =
    by_order area done
    (λ l. rw (lt-ltb area (done + 1) (omega arith), lt-ltb area done l))
    (λ l.
    let m : (area < done + 1) → ⊥ = λ h. n (omega arith) in
    by_order area (done + 1) (λ h. absurd (m h)) (λ h. rw (le-ltb area (done + 1) h, le-ltb area done l)))

module _ {k done : ℕ} {own table rows : List ℕ} (p : RowsTo k done own table rows) (q : NextBorne k done own table) where
  abbrev b : ℕ
  b = bearer_in table k done

  abbrev x : ℕ
  x = get_or rows (3 * b + done) 0

  abbrev y : ℕ
  y = get_or own (3 * k + done) 0

  amount_low : 2 ^ 31 ≤ get_or rows (3 * bearer_in table k done + done) 0 + get_or own (3 * k + done) 0
  amount_low = omega (arith, p.low b done q.bearer q.area_in, q.low, q.user, passed_before k done)

  amount_high : get_or rows (3 * bearer_in table k done + done) 0 + get_or own (3 * k + done) 0 < 2 ^ 32 + 2 ^ 31
  amount_high = omega (arith, p.high b done q.bearer q.area_in, q.high, q.user, passed_before k done)

  -- by the place that was read
  module _ {place : ℕ} (e : place ≡ bearer_in table k done) where
    pub amount_lies : (3 * place + done < 192) × (2 ^ 31 ≤ get_or rows (3 * place + done) 0 + get_or own (3 * k + done) 0) × (get_or rows (3 * place + done) 0 + get_or own (3 * k + done) 0 < 2 ^ 32 + 2 ^ 31)
    amount_lies = rw e (omega (arith, q.bearer, q.area_in), amount_low, amount_high)

  abbrev after : List ℕ
  after = set rows (3 * b + done) (x + y - 2 ^ 31)

  here : get_or after (3 * b + done) 0 ≡ x + y - 2 ^ 31
  here = get_or-set_same rows (3 * b + done) (x + y - 2 ^ 31) 0 (omega (arith, p.room, q.bearer, q.area_in))

  apart : (i area : ℕ) → area < 3 → (i ≡ b → area ≡ done → ⊥) → get_or after (3 * i + area) 0 ≡ get_or rows (3 * i + area) 0
  apart i area l n = get_or-set_other rows (3 * b + done) (3 * i + area) (x + y - 2 ^ 31) 0 (λ e. clash e)
    where
      clash : 3 * i + area ≡ 3 * b + done → ⊥
      clash e = n (omega (arith, l, q.area_in)) (omega (arith, l, q.area_in))

  -- in the area of the amount
  sum_here : (i : ℕ) → i < 64 → amount_in after i done ≡ borne_to (suc k) own table i done
  unfolding borne_to
  sum_here i h =
      here_or_apart (λ (j : ℕ). j < 64 → amount_in after j done ≡ borne_to k own table j done +ℤ cond (eqb (bearer_in table k done) j) (amount_in own k done) (pos 0)) b i
      (λ m.
      ap (λ (n : ℕ). net (record { 0 = n })) here
      ∙ net-add x y amount_low
      ∙ ap₂ (λ (u v : ℤ). u +ℤ v) (p.each b done m q.area_in ∙ ap (λ (n : ℕ). borne_to n own table b done) (passed_before k done)) (rw (eq-eqb b b refl)))
      (λ n m.
      ap (λ (c : ℕ). net (record { 0 = c })) (apart i done q.area_in (λ e f. n e))
      ∙ p.each i done m q.area_in
      ∙ ap (λ (c : ℕ). borne_to c own table i done) (passed_before k done)
      ∙ sym (+ℤ_idr (borne_to k own table i done))
      ∙ rw (ne_eqb b i (λ e. n (sym e))))
      h

  -- one amount more
  rows_more : RowsTo k (done + 1) own table (set rows (3 * bearer_in table k done + done) (get_or rows (3 * bearer_in table k done + done) 0 + get_or own (3 * k + done) 0 - 2 ^ 31))
  rows_more =
      record {
        room = length-set rows (3 * b + done) (x + y - 2 ^ 31) ∙ p.room;
        each = λ i area h l.
            here_or_apart (λ (a : ℕ). a < 3 → amount_in after i a ≡ borne_to (passed_in k (done + 1) a) own table i a) done area
            (λ m. sum_here i h ∙ ap (λ (n : ℕ). borne_to n own table i done) (sym (passed_after k done)))
            (λ n m.
            ap (λ (c : ℕ). net (record { 0 = c })) (apart i area m (λ e f. n f)) ∙ p.each i area h m ∙ ap (λ (c : ℕ). borne_to c own table i area) (sym (passed_other k done area n)))
            l;
        low = λ i area h l.
            here_or_apart (λ (a : ℕ). a < 3 → 2 ^ 31 ≤ get_or after (3 * i + a) 0 + 26600000 * passed_in k (done + 1) a) done area
            (λ m.
            here_or_apart (λ (j : ℕ). j < 64 → 2 ^ 31 ≤ get_or after (3 * j + done) 0 + 26600000 * passed_in k (done + 1) done) b i
            (λ j. omega (arith, here, passed_after k done, p.low b done j m, q.low, passed_before k done, amount_low))
            (λ n j. omega (arith, apart i done m (λ e f. n e), passed_after k done, p.low i done j m, passed_before k done))
            h)
            (λ n m. omega (arith, apart i area m (λ e f. n f), passed_other k done area n, p.low i area h m))
            l;
        high = λ i area h l.
            here_or_apart (λ (a : ℕ). a < 3 → get_or after (3 * i + a) 0 ≤ 2 ^ 31 + 26600000 * passed_in k (done + 1) a) done area
            (λ m.
            here_or_apart (λ (j : ℕ). j < 64 → get_or after (3 * j + done) 0 ≤ 2 ^ 31 + 26600000 * passed_in k (done + 1) done) b i
            (λ j. omega (arith, here, passed_after k done, p.high b done j m, q.high, passed_before k done, amount_low))
            (λ n j. omega (arith, apart i done m (λ e f. n e), passed_after k done, p.high i done j m, passed_before k done))
            h)
            (λ n m. omega (arith, apart i area m (λ e f. n f), passed_other k done area n, p.high i area h m))
            l;
      }

  pub rows_next : {place : ℕ} {xs : List ℕ} → place ≡ bearer_in table k done
      → xs ≡ set rows (3 * place + done) (get_or rows (3 * place + done) 0 + get_or own (3 * k + done) 0 - 2 ^ 31) → RowsTo k (done + 1) own table xs
  rows_next {place} {xs} e f = rw (f, e) rows_more

-- ---- user by user

-- none is passed
pub rows_start : (own table : List ℕ) {rows : List ℕ} → Cleared rows → RowsTo 0 0 own table rows
unfolding passed_in borne_to
rows_start own table {rows} c =
    record {
      room = c.room;
      each = λ i area h l. ap (λ (n : ℕ). net (record { 0 = n })) (c.each (3 * i + area) (omega arith)) ∙ net-zero ∙ none i area (ltb area 0) (le-ltb area 0 (omega arith));
      low = λ i area h l. omega (arith, c.each (3 * i + area) (omega arith));
      high = λ i area h l. omega (arith, c.each (3 * i + area) (omega arith));
    }
  where
    none : (i area : ℕ) (c : Bool) → c ≡ false → pos 0 ≡ borne_to (cond c 1 0) own table i area
    none i area c f = rw f

-- all areas of a user are passed
passed_all : (k area : ℕ) → area < 3 → passed_in k 3 area ≡ passed_in (k + 1) 0 area
unfolding passed_in
passed_all k area l = rw (lt-ltb area 3 l, le-ltb area 0 (omega arith)) (sym (add-one k))

pub rows_turn : {k : ℕ} {own table rows : List ℕ} → RowsTo k 3 own table rows → RowsTo (k + 1) 0 own table rows
rows_turn {k} {own} {table} p =
    record {
      room = p.room;
      each = λ i area h l. p.each i area h l ∙ ap (λ (n : ℕ). borne_to n own table i area) (passed_all k area l);
      low = λ i area h l. omega (arith, p.low i area h l, passed_all k area l);
      high = λ i area h l. omega (arith, p.high i area h l, passed_all k area l);
    }

pub rows_end : {n k : ℕ} {own table rows : List ℕ} → k ≡ n → RowsTo k 0 own table rows → Rows n own table rows
unfolding passed_in
rows_end {n} {k} {own} {table} e p =
    record { room = p.room; each = λ i area h l. p.each i area h l ∙ rw (le-ltb area 0 (omega arith), e) }

pub next_borne : {n k : ℕ} {own table : List ℕ} → Bearable n own table → k < n → (area : ℕ) → area < 3 → NextBorne k area own table
next_borne {n} {k} b h area l =
    record {
      user = omega (arith, b.few);
      area_in = l;
      bearer = omega (arith, b.few, b.bearers.inside k area h l);
      low = b.low (3 * k + area) (omega arith);
      high = b.high (3 * k + area) (omega arith);
    }
