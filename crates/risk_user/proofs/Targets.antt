-- The target that is read from arrays, case by case. Assumes nothing.
use Rattle.base.specs.Basics.{◌≡◌, refl, sym, ap, subst, ◌∙◌, Bool, true, false, cond, ◌&&◌, ◌||◌, List, ℕ, ◌-◌, arith, T, eqb, ltb, get_or, eq-eqb}
use Rattle.base.specs.Basics.{ne_eqb, lt-ltb, le-ltb}
use Rattle.base.proofs.Linear.{by_order}
use Rattle.rules.specs.Areas.{Prices}
use Rattle.rules.specs.Book.{User, nobody}
use Rattle.rules.specs.Levels.{Limits, exceeds_its_margin, flagged_from, shipper}
use Rattle.risk_user.specs.UserAt.{held_at, level_of_place, target_of_place, target_of}
use Rattle.laws_sales.specs.Cover.{short_from}

-- ---- the target of a user

module _ (limits : Limits) (f : Prices) (us : List User) (sums ps : List ℕ) (i : ℕ) where
  abbrev user : User
  user = get_or us i nobody

  -- a clearing house
  pub target_house : {role : ℕ} → role ≡ (get_or us i nobody).party.role → (role ≡ 0 → ⊥) → 0 ≡ target_of_place limits f us sums ps i
  unfolding target_of_place short_from shipper
  target_house e n = rw (ap (λ (m : ℕ). eqb m 0) (sym e) ∙ ne_eqb _ 0 n)

  -- a shipper, by its level
  pub target_shipper : {role level t : ℕ} → role ≡ (get_or us i nobody).party.role → role ≡ 0 → level ≡ level_of_place limits f us sums ps i
      → t ≡ target_of limits (get_or us i nobody) level → t ≡ target_of_place limits f us sums ps i
  unfolding target_of_place target_of short_from shipper level_of_place
  target_shipper r z e h =
      let level = level_of_place limits f us sums ps i in
      h ∙ ap (target_of limits user) e
      ∙ sym (ap (λ (c : Bool). cond c (level - user.party.assigned) 0)
      (called (eqb user.party.role 0) (flagged_from limits f user (held_at sums ps i)) (exceeds_its_margin limits level user && ltb user.party.assigned level) (eq-eqb _ 0 (sym r ∙ z))))
    where
      called : (x g y : Bool) → x ≡ true → ((x && (g || true)) && y) ≡ y
      called true true y e = refl
      called true false y e = refl
      called false g y e = absurd (subst T (sym e) tt)

-- ---- the target of a level

module _ (limits : Limits) (u : User) (level : ℕ) where
  -- the level is within the margin
  pub target_within : {beyond : Bool} → beyond ≡ exceeds_its_margin limits level u → beyond ≡ false → 0 ≡ target_of limits u level
  unfolding target_of
  target_within e h = rw (sym e ∙ h)

  -- it is beyond the margin: short of cover, or the assigned guarantee suffices
  pub target_beyond : {beyond : Bool} {t assigned : ℕ} → beyond ≡ exceeds_its_margin limits level u → beyond ≡ true → assigned ≡ u.party.assigned → t ≡ level - assigned
      → t ≡ target_of limits u level
  unfolding target_of
  target_beyond e h a x =
      rw (sym e ∙ h)
      (by_order u.party.assigned level
      (λ l. rw (lt-ltb u.party.assigned level l) (x ∙ ap (λ (n : ℕ). level - n) a))
      (λ l. rw (le-ltb u.party.assigned level l) (omega (arith, x, a))))
