-- A managed user bears nobody's risk: who has its id is managed, and who is managed by it would be managed by a managed one. Assumes nothing.
use Rattle.base.specs.Basics.{◌≡◌, refl, sym, ap, ap₂, ◌∙◌, Bool, true, false, not, cond, ◌&&◌, List, [], ◌∷◌, ℕ, ◌+◌, ◌<◌, arith, T, eqb, eqb→eq}
use Rattle.base.specs.Basics.{ltb, ltb→lt, ℤ, pos, ◌+ℤ◌, eq-eqb, lt-ltb, ne_eqb}
use Rattle.base.proofs.Tests.{and_i, and_l, and_r, all_by, by_case, eqb_of, fails, holds, or_second}
use Rattle.base.specs.Lists.{all}
use Rattle.base.specs.Sums.{sum, sum_ℤ}
use Rattle.rules.specs.Bearers.{bearer}
use Rattle.rules.specs.Book.{User, find, manager_in}
use Rattle.rules.specs.Questions.{ids_rise, manager_valid, manages}

-- the user of a list that has an id is the one that is found
pub found_managers : (area : ℕ) (us : List User) (low : ℕ) → T (ids_rise low us)
    → T (all (λ v. ltb low v.party.id && eqb (manager_in v.party.managers area) (manager_in (find us v.party.id).party.managers area)) us)
unfolding all ids_rise find
found_managers area [] low r = tt
found_managers area (u ∷ us) low r =
    let above = and_l (ltb low u.party.id) (ids_rise u.party.id us) r in
    let rest = and_r (ltb low u.party.id) (ids_rise u.party.id us) r in
    let manager : User → ℕ = λ v. manager_in v.party.managers area in
    and_i (ltb low u.party.id && eqb (manager u) (manager (cond (eqb u.party.id u.party.id) u (find us u.party.id)))) _
    (and_i (ltb low u.party.id) _ above (rw (eq-eqb u.party.id u.party.id refl) (eqb_of (manager u) (manager u) refl)))
    (all_by (λ v. ltb u.party.id v.party.id && eqb (manager v) (manager (find us v.party.id))) (λ v. ltb low v.party.id && eqb (manager v) (manager (cond (eqb u.party.id v.party.id) u (find us v.party.id))))
    (λ v h.
    let l = ltb→lt low u.party.id above in
    let m = ltb→lt u.party.id v.party.id (and_l (ltb u.party.id v.party.id) _ h) in
    and_i (ltb low v.party.id) _ (lt_true low v.party.id (omega arith)) (rw (ne_eqb u.party.id v.party.id (λ e. omega arith)) (and_r (ltb u.party.id v.party.id) _ h)))
    us (found_managers area us u.party.id rest))
  where
    lt_true : (m n : ℕ) → m < n → T (ltb m n)
    lt_true m n h = rw (lt-ltb m n h) tt

-- nobody's bearer there is a managed user
module _ (version : ℕ) (us : List User) (area id : ℕ) (managed : manager_in (find us id).party.managers area ≡ 0 → ⊥) where
  pub bears_nobody : (v : User) → T (manager_valid version us v area) → manager_in v.party.managers area ≡ manager_in (find us v.party.id).party.managers area → eqb (bearer v area) id ≡ false
  unfolding bearer manager_valid manages
  bears_nobody v h same =
      let m = manager_in v.party.managers area in
      by_case (eqb m 0)
      (λ e. rw e (ne_eqb v.party.id id (λ k. managed (ap (λ (n : ℕ). manager_in (find us n).party.managers area) (sym k) ∙ sym same ∙ eqb→eq m 0 (holds e)))))
      (λ e.
      let k = or_second (eqb m 0) _ (fails e) h in
      let free : T (eqb (manager_in (find us m).party.managers area) 0) = search (and_l, and_r) in
      rw e (ne_eqb m id (λ q. managed (ap (λ (n : ℕ). manager_in (find us n).party.managers area) (sym q) ∙ eqb→eq (manager_in (find us m).party.managers area) 0 free))))

-- sums of what nobody has
pub sum_none : (test : User → Bool) (amount : User → ℕ) (us : List User) → T (all (λ v. not (test v)) us) → sum (λ v. cond (test v) (amount v) 0) us ≡ 0
unfolding sum all
sum_none test amount [] h = refl
sum_none test amount (v ∷ vs) h =
    ap₂ (λ (x y : ℕ). x + y) (off (test v) (and_l (not (test v)) (all (λ w. not (test w)) vs) h)) (sum_none test amount vs (and_r (not (test v)) (all (λ w. not (test w)) vs) h)) ∙ omega arith
  where
    off : (c : Bool) → T (not c) → cond c (amount v) 0 ≡ 0
    off true h = absurd h
    off false h = refl

pub sum_ℤ_none : (test : User → Bool) (amount : User → ℤ) (us : List User) → T (all (λ v. not (test v)) us) → sum_ℤ (λ v. cond (test v) (amount v) (pos 0)) us ≡ pos 0
unfolding sum_ℤ all
sum_ℤ_none test amount [] h = refl
sum_ℤ_none test amount (v ∷ vs) h =
    ap₂ (λ (x y : ℤ). x +ℤ y) (off (test v) (and_l (not (test v)) (all (λ w. not (test w)) vs) h)) (sum_ℤ_none test amount vs (and_r (not (test v)) (all (λ w. not (test w)) vs) h))
  where
    off : (c : Bool) → T (not c) → cond c (amount v) (pos 0) ≡ pos 0
    off true h = absurd h
    off false h = refl
