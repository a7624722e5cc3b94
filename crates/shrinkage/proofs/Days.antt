-- The days of a share: the loop that fills them, their sum, and how far they are apart. Assumes nothing.
use Rattle.base.specs.Basics.{◌≡◌, refl, sym, ap, ◌∙◌, Bool, true, false, cond, List, [], ◌∷◌, map, ℕ, zero, suc, ◌+◌, ◌*◌, ◌/◌, ◌%◌}
use Rattle.base.specs.Basics.{◌<◌, ◌≤◌, min, div-add-mod', mod-lt, not-suc-le-zero, arith, ltb, length, get_or, set}
use Rattle.base.specs.Basics.{length-append, length-map, get_or-append, get_or-map, get_or_at, take_all, lt-ltb, le-ltb}
use Rattle.base.proofs.Fronts.{get_or_inside}
use Rattle.base.proofs.Linear.{by_order}
use Rattle.base.proofs.Rewriting.{Rewritten, rewritten_more, rewritten_end}
use Rattle.base.proofs.Sums.{sum-append, sum-map}
use Rattle.base.specs.Sums.{sum}
use Rattle.shrinkage.specs.Answer.{kwh_of}
use Rattle.shrinkage.specs.Days.{days_to, value_on_day, values_over_days}
use Rattle.shrinkage.specs.declared.Kwh.{Kwh}

-- ---- the list of the days

length_days : (n : ℕ) → length (days_to n) ≡ n
unfolding days_to
length_days zero = refl
length_days (suc n) = length-append (days_to n) (n ∷ []) ∙ omega (arith, length_days n)

-- the day at a place
day_at : (n i d : ℕ) → i < n → get_or (days_to n) i d ≡ i
unfolding days_to
day_at zero i d h = absurd (not-suc-le-zero h)
day_at (suc n) i d h =
    by_order i n
    (λ k. get_or-append (days_to n) (n ∷ []) d i (omega (arith, length_days n)) ∙ day_at n i d k)
    (λ k. let e : i ≡ n = omega arith in rw e (get_or_at (days_to n) n [] d n (length_days n)))

-- ---- the loop

-- where the days before one are filled in
pub record Filling (whole left : ℕ) (days : List Kwh) (day : ℕ) : Type 0 where
  pub filled : Rewritten (λ (k : Kwh). k.0) 30 (map (value_on_day whole left) (days_to 30)) days day

days_long : (whole left : ℕ) → length (map (value_on_day whole left) (days_to 30)) ≡ 30
days_long whole left = length-map (days_to 30) (value_on_day whole left) ∙ length_days 30

-- what is listed for a day
listed : (whole left day : ℕ) → day < 30 → value_on_day whole left day ≡ get_or (map (value_on_day whole left) (days_to 30)) day (value_on_day whole left 0)
listed whole left day h = sym (get_or-map (value_on_day whole left) (days_to 30) day 0 ∙ ap (value_on_day whole left) (day_at 30 day 0 h))

module _ {whole left : ℕ} {days : List Kwh} {day : ℕ} (p : Filling whole left days day) where
  pub filling_more : {k : Kwh} → day < 30 → k.0 ≡ value_on_day whole left day → Filling whole left (set days day k) (day + 1)
  filling_more {k} h e =
      record { filled = rewritten_more (value_on_day whole left 0) k h (omega (arith, days_long whole left)) (e ∙ listed whole left day h) p.filled }

  pub filling_end : 30 ≤ day → kwh_of days ≡ map (value_on_day whole left) (days_to 30)
  unfolding kwh_of
  filling_end h =
      ap (map (λ (k : Kwh). k.0)) (sym (take_all day days (omega (arith, p.filled.long))))
      ∙ (rewritten_end (omega (arith, days_long whole left)) p.filled).1

-- ---- the sum of the first n days

sum_days : (whole left n : ℕ) → sum (value_on_day whole left) (days_to n) ≡ n * whole + min n left
unfolding sum days_to value_on_day
sum_days whole left zero = omega arith
sum_days whole left (suc n) =
    let before = sum_days whole left n in
    let more = sum-append (value_on_day whole left) (days_to n) (n ∷ []) in
    by_order n left
    (λ h. let e : value_on_day whole left n ≡ whole + 1 = rw (lt-ltb n left h) in omega (arith, before, more, e))
    (λ h. let e : value_on_day whole left n ≡ whole + 0 = rw (le-ltb n left h) in omega (arith, before, more, e))

pub length_over_days : (share : ℕ) → length (values_over_days share) ≡ 30
unfolding values_over_days
length_over_days share = days_long (share / 30) (share % 30)

-- the 30 days sum to the share
pub days_sum : (share : ℕ) → sum (λ n. n) (values_over_days share) ≡ share
unfolding values_over_days
days_sum share =
    sum-map (λ n. n) (value_on_day (share / 30) (share % 30)) (days_to 30)
    ∙ omega (arith, sum_days (share / 30) (share % 30) 30, div-add-mod' share 30, mod-lt share {m = 30} (omega arith))

-- ---- how far two days are apart

-- the day at a place of a share
over_days_at : (share i : ℕ) → i < 30 → get_or (values_over_days share) i 0 ≡ value_on_day (share / 30) (share % 30) i
unfolding values_over_days
over_days_at share i h =
    let f = value_on_day (share / 30) (share % 30) in
    get_or_inside (map f (days_to 30)) i 0 (f 0) (omega (arith, length_over_days share)) ∙ sym (listed (share / 30) (share % 30) i h)

-- each has the whole part, or one kWh more
on_day_bounds : (whole left day : ℕ) → (whole ≤ value_on_day whole left day) × (value_on_day whole left day ≤ whole + 1)
unfolding value_on_day
on_day_bounds whole left day = go (ltb day left)
  where
    go : (c : Bool) → (whole ≤ whole + cond c 1 0) × (whole + cond c 1 0 ≤ whole + 1)
    go true = omega arith
    go false = omega arith

pub days_even : (share i j : ℕ) → i < 30 → j < 30 → get_or (values_over_days share) i 0 ≤ get_or (values_over_days share) j 0 + 1
days_even share i j h k =
    let whole = share / 30 in
    let left = share % 30 in
    omega (arith, over_days_at share i h, over_days_at share j k, (on_day_bounds whole left i).1, (on_day_bounds whole left j).0)
