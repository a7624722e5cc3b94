-- The laws of the return, each as its statement in specs/Statements.antt says it. Assumes nothing.
use Rattle.base.specs.Basics.{◌≡◌, refl, ◌∙◌, Bool, true, false, not, cond, List, ℕ, zero, suc, ◌+◌, ◌*◌, ◌-◌, div-add-mod'}
use Rattle.base.specs.Basics.{mod-lt, arith, T, ℤ, nat_abs, length, replicate}
use Rattle.base.proofs.Sums.{sum-append}
use Rattle.base.specs.Sums.{sum}
use Rattle.rules.specs.Questions.{after, refusal}
use Rattle.shrinkage.proofs.Days.{days_sum, days_even, length_over_days}
use Rattle.shrinkage.proofs.Division.{shares_given}
use Rattle.shrinkage.proofs.Gains.{share_most, none_gained}
use Rattle.shrinkage.proofs.Totals.{own_more}
use Rattle.shrinkage.specs.Return.{Returned, total, is_below_zero, half, odd, own, own_sum, share_of, remainder_of, shares, rest, in_places, nothing, given, about, returned}
use Rattle.shrinkage.specs.Statements.{AddsUp, Exact, Bounded, Spread}

-- ---- sums

sum_zeros : (n : ℕ) → sum (λ m. m) (replicate n 0) ≡ 0
unfolding sum
sum_zeros zero = refl
sum_zeros (suc n) = omega (arith, sum_zeros n)

-- the places past the users add nothing
sum_places : (ns : List ℕ) → sum (λ n. n) (in_places ns) ≡ sum (λ n. n) ns
unfolding in_places
sum_places ns = omega (arith, sum-append (λ n. n) ns (replicate (64 - length ns) 0), sum_zeros (64 - length ns))

-- shares, odd kWh, rest and half
given-sum : (zs : List ℤ) → T (is_below_zero (total zs))
    → sum (λ n. n) (given zs).shares + (given zs).odd + (given zs).rest + (given zs).half ≡ nat_abs (total zs)
unfolding given rest half odd
given-sum zs t =
    let n = nat_abs (total zs) in
    omega (arith, sum_places (shares zs), shares_given zs (own_more zs t), div-add-mod' n 2)

-- ---- by the questions, and by the sign of the total

-- the number 0 is no refusal
passed : (n : ℕ) (r : Returned) → (after n nothing r).number ≡ 0 → after n nothing r ≡ r
unfolding after nothing
passed zero r h = refl
passed (suc n) r h = absurd (omega arith)

accepted : (zs : List ℤ) → (returned zs).number ≡ 0 → returned zs ≡ cond (is_below_zero (total zs)) (given zs) (nothing 0)
unfolding returned
accepted zs h = passed (refusal (about zs)) (cond (is_below_zero (total zs)) (given zs) (nothing 0)) h

-- another number is one
all_zero : (zs : List ℤ) (n : ℕ) (c : Bool) → ((after n nothing (cond c (given zs) (nothing 0))).number ≡ 0 → ⊥)
    → after n nothing (cond c (given zs) (nothing 0)) ≡ nothing (after n nothing (cond c (given zs) (nothing 0))).number
unfolding after given nothing
all_zero zs zero true h = absurd (h refl)
all_zero zs zero false h = absurd (h refl)
all_zero zs (suc n) c h = refl

-- one of two, by a test
when_yes : (c : Bool) (x y : Returned) → T c → cond c x y ≡ x
when_yes true x y t = refl
when_yes false x y t = absurd t

when_no : (c : Bool) (x y : Returned) → T (not c) → cond c x y ≡ y
when_no true x y t = absurd t
when_no false x y t = refl

pub adds_up : AddsUp
unfolding returned
adds_up =
    record {
      negative = λ zs h t. rw (accepted zs h, when_yes (is_below_zero (total zs)) (given zs) (nothing 0) t) (given-sum zs t);
      otherwise = λ zs h t. accepted zs h ∙ when_no (is_below_zero (total zs)) (given zs) (nothing 0) t;
      refused = λ zs h. all_zero zs (refusal (about zs)) (is_below_zero (total zs)) h;
    }

-- ---- each division

pub exact : Exact
unfolding share_of remainder_of
exact =
    record {
      whole = λ zs z. div-add-mod' (half zs * own z) (own_sum zs);
      below = λ zs z t. mod-lt (half zs * own z) (own_more zs t);
    }

-- ---- what each user gets, and over which days

pub bounded : Bounded
bounded = record { most = share_most; none = none_gained }

pub spread : Spread
spread = record { thirty = length_over_days; whole = days_sum; even = days_even }
