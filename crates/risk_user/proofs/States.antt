-- The state of a user by its level and by whether it is called in, case by case. Assumes nothing.
use Rattle.base.specs.Basics.{◌≡◌, refl, sym, ◌∙◌, Bool, true, false, cond, ◌&&◌, ℕ, ◌-◌, ◌<◌, ◌≤◌, arith, leb, ltb, eq-eqb, ne_eqb, lt-ltb, le-ltb}
use Rattle.base.specs.Basics.{le-leb}
use Rattle.base.proofs.Linear.{by_order}
use Rattle.rules.specs.Book.{User}
use Rattle.rules.specs.Day.{clear, short, call, quiet}
use Rattle.rules.specs.Levels.{Limits, exceeds_its_margin, shipper}
use Rattle.risk_user.specs.UserAt.{target_of}
use Rattle.risk_user.specs.States.{state_by}

module _ (limits : Limits) (u : User) (level : ℕ) where
  pub state_clear : {role : ℕ} (called : Bool) → role ≡ u.party.role → (role ≡ 0 → ⊥) → clear ≡ state_by limits u level called
  unfolding state_by shipper
  state_clear called e n = rw (ne_eqb u.party.role 0 (λ z. n (e ∙ z)))

  module _ {role : ℕ} (e : role ≡ u.party.role) (z : role ≡ 0) where
    pub state_uncalled : {called : Bool} → called ≡ false → quiet ≡ state_by limits u level called
    unfolding state_by shipper
    state_uncalled c = rw (eq-eqb u.party.role 0 (sym e ∙ z), c)

    module _ {called : Bool} (c : called ≡ true) {t : ℕ} (is : t ≡ target_of limits u level) where
      -- a target is owed where the level exceeds both the margin and the assigned guarantee
      pub state_short : 0 < t → short ≡ state_by limits u level called
      unfolding state_by shipper target_of
      state_short h = rw (eq-eqb u.party.role 0 (sym e ∙ z), c) (go (exceeds_its_margin limits level u && ltb u.party.assigned level) is)
        where
          go : (x : Bool) → t ≡ cond x (level - u.party.assigned) 0
              → short ≡ cond x short (cond (exceeds_its_margin limits level u && leb level u.party.assigned) call quiet)
          go true k = refl
          go false k = absurd (omega (arith, k, h))

      module _ (none : t ≤ 0) {b : Bool} (m : b ≡ exceeds_its_margin limits level u) where
        pub state_call : b ≡ true → call ≡ state_by limits u level called
        unfolding state_by shipper target_of
        state_call h =
            let beyond-is = sym m ∙ h in
            by_order u.party.assigned level
            (λ l. absurd (omega (arith, none, l, is ∙ owed beyond-is l)))
            (λ l. rw (eq-eqb u.party.role 0 (sym e ∙ z), c, beyond-is, le-ltb u.party.assigned level l, le-leb level u.party.assigned l))
          where
            owed : exceeds_its_margin limits level u ≡ true → u.party.assigned < level → cond (exceeds_its_margin limits level u && ltb u.party.assigned level) (level - u.party.assigned) 0 ≡ level - u.party.assigned
            owed x l = rw (x, lt-ltb u.party.assigned level l)

        pub state_within : b ≡ false → quiet ≡ state_by limits u level called
        unfolding state_by shipper
        state_within h = rw (eq-eqb u.party.role 0 (sym e ∙ z), c, sym m ∙ h)
