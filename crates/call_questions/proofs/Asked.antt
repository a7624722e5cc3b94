-- What is asked of the user at a place is what the rules ask: the level, whether it is called in, the number of the questions 9, 11 and 13, and the target. Assumes nothing.
use Rattle.base.specs.Basics.{◌≡◌, refl, sym, ap, subst, ◌∙◌, ◌⊎◌, inl, inr, Bool, true, false, cond, ◌&&◌, ◌||◌, List, [], ◌∷◌, ◌++◌, ℕ, ◌-◌}
use Rattle.base.specs.Basics.{◌<◌, arith, T, leb, ltb, length, get_or, lt-ltb, le-ltb, le-leb}
use Rattle.book_parties.specs.Ids.{id_at}
use Rattle.laws_sales.specs.Parties.{cut_before}
use Rattle.book_format.proofs.Passed.{length-users_of}
use Rattle.book_format.specs.Book.{book_of, count_of_users, users_of}
use Rattle.risk_bearers.proofs.Borne.{id_in_lem}
use Rattle.risk_bearers.specs.Bearers.{RiskIn, trades_in, users_in}
use Rattle.base.proofs.Linear.{by_order}
use Rattle.laws.proofs.Refusals.{after_nonzero, refusal-append, refusal_next}
use Rattle.risk_user.proofs.Rules.{called_own, level_own, state_own}
use Rattle.risk_user.specs.UserAt.{PositionsOf, flagged_at, level_of_place, target_of}
use Rattle.risk_user.specs.States.{state_by}
use Rattle.rules.specs.Areas.{Prices}
use Rattle.rules.specs.Book.{Book, User, nobody}
use Rattle.rules.specs.Calls.{assigned_falls_short, called_in_beyond_margin, is_shipper}
use Rattle.rules.specs.Day.{State, call, call_due, clear, quiet, short, state}
use Rattle.rules.specs.Levels.{Limits, afternoon_level, called_in, exceeds_its_margin, shipper, short_of_cover}
use Rattle.rules.specs.Questions.{Question, after, first_of, refusal}
use Rattle.rules.specs.Reduction.{target}
use Rattle.call_questions.specs.Asked.{ShortfallOf, level_questions, refused_by_state}

-- ---- the questions and what follows them

module _ (limits : Limits) (b : Book) (u : User) where
  -- the state says which of them refuses
  state_refuses : refused_by_state (state limits b u) ≡ refusal (level_questions limits b u)
  unfolding state short_of_cover call_due level_questions is_shipper called_in_beyond_margin assigned_falls_short refusal after
  state_refuses =
      go (shipper u) (called_in limits b u) (exceeds_its_margin limits (afternoon_level limits b u) u) (ltb u.party.assigned (afternoon_level limits b u)) (leb (afternoon_level limits b u) u.party.assigned)
      (by_order u.party.assigned (afternoon_level limits b u)
      (λ h. inl (lt-ltb u.party.assigned (afternoon_level limits b u) h))
      (λ h. inr (le-ltb u.party.assigned (afternoon_level limits b u) h, le-leb (afternoon_level limits b u) u.party.assigned h)))
    where
      go : (x c m a n : Bool) → (a ≡ true) ⊎ ((a ≡ false) × (n ≡ true))
          → refused_by_state (cond x (cond ((x && c) && (m && a)) short (cond (c && (m && n)) call quiet)) clear)
          ≡ refusal (record { number = 9; holds = x } ∷ (record { number = 11; holds = m && c } ∷ (record { number = 13; holds = a } ∷ [])))
      go false c m a n h = refl
      go true true true true n h = refl
      go true true true false true h = refl
      go true true true false false (inl h) = absurd (subst T (sym h) tt)
      go true true true false false (inr h) = absurd (subst T (sym h.1) tt)
      go true true false a n h = refl
      go true false true a n h = refl
      go true false false a n h = refl

  -- what is asked after them: their number refuses
  pub level_refused : {n asked : ℕ} (rest : List Question) → ShortfallOf limits b u n asked → (n ≡ 0 → ⊥) → refusal (level_questions limits b u ++ rest) ≡ n
  level_refused rest q h =
      refusal-append (level_questions limits b u) rest ∙ ap (λ (k : ℕ). first_of k (refusal rest)) (sym q.number_is) ∙ after_nonzero (λ k. k) (refusal rest) h

  -- or the rest is asked
  pub level_passed : {n asked : ℕ} (rest : List Question) → ShortfallOf limits b u n asked → n ≡ 0 → refusal (level_questions limits b u ++ rest) ≡ refusal rest
  level_passed rest q h = refusal_next (level_questions limits b u) rest (sym q.number_is ∙ h)

-- ---- the user at a place

-- who is refused by none of 9, 11 and 13 is cut for what the level exceeds the assigned guarantee by
short_target : (limits : Limits) (u : User) (level : ℕ) (called : Bool) → refused_by_state (state_by limits u level called) ≡ 0 → target_of limits u level ≡ level - u.party.assigned
unfolding state_by target_of
short_target limits u level called h =
    go (shipper u) called (exceeds_its_margin limits level u) (ltb u.party.assigned level) (leb level u.party.assigned) h
  where
    go : (x c m a n : Bool) → refused_by_state (cond x (cond (c && (m && a)) short (cond (c && (m && n)) call quiet)) clear) ≡ 0 → cond (m && a) (level - u.party.assigned) 0 ≡ level - u.party.assigned
    go true true true true n k = refl
    go true true true false true k = absurd (omega (arith, k))
    go true true true false false k = absurd (omega (arith, k))
    go true true false a n k = absurd (omega (arith, k))
    go true false m a n k = absurd (omega (arith, k))
    go false c m a n k = absurd (omega (arith, k))

module _ {limits : Limits} {f : Prices} {s sums : List ℕ} (r : RiskIn limits f s sums) {place : ℕ} (inside : place < count_of_users s)
    {ps : List ℕ} (p : PositionsOf (users_in s) ps) where
  abbrev user : User
  user = get_or (users_of s) place nobody

  member : place < length (users_of s)
  member = omega (arith, length-users_of s)

  -- the level is the user's
  pub asked_level : {level : ℕ} → level ≡ level_of_place limits f (users_of s) sums ps place → level ≡ afternoon_level limits (book_of s) (get_or (users_of s) place nobody)
  unfolding book_of
  asked_level e = e ∙ ap (λ (g : Prices). level_of_place limits g (users_of s) sums ps place) r.prices_are ∙ level_own (book_of s) r.sums_are.twelve p place member limits

  -- and whether it is called in
  pub asked_called : {called below : Bool} → called ≡ (flagged_at limits f (users_of s) ps place || below)
      → below ≡ cut_before (id_at (users_in s) place) (trades_in s) → called ≡ called_in limits (book_of s) (get_or (users_of s) place nobody)
  unfolding book_of
  asked_called {called} {below} e c =
      called_own (book_of s) r.sums_are.twelve p place member limits (e ∙ ap (λ (g : Prices). flagged_at limits g (users_of s) ps place || below) r.prices_are)
      (c ∙ ap (λ (id : ℕ). cut_before id (trades_in s)) (id_in_lem s place))

  module _ {level : ℕ} {called : Bool} (le : level ≡ afternoon_level limits (book_of s) (get_or (users_of s) place nobody)) (ce : called ≡ called_in limits (book_of s) (get_or (users_of s) place nobody))
      {number : ℕ} {state : State} (ne : number ≡ refused_by_state state) (se : state ≡ state_by limits (get_or (users_of s) place nobody) level called) where
    -- the number is that of the questions
    asked_number : number ≡ refusal (level_questions limits (book_of s) (get_or (users_of s) place nobody))
    asked_number = ne ∙ ap refused_by_state (se ∙ state_own limits (book_of s) user le ce) ∙ state_refuses limits (book_of s) user

    -- and what is asked for is the target
    asked_target : number ≡ 0 → {t : ℕ} → t ≡ target_of limits (get_or (users_of s) place nobody) level → t ≡ target limits (book_of s) (get_or (users_of s) place nobody)
    unfolding target
    asked_target z e = e ∙ short_target limits user level called (sym (ne ∙ ap refused_by_state se) ∙ z) ∙ ap (λ (n : ℕ). n - user.party.assigned) le

    -- which is what is told
    pub refused_shortfall : {t : ℕ} → (number ≡ 0 → ⊥) → ShortfallOf limits (book_of s) (get_or (users_of s) place nobody) number t
    refused_shortfall h = record { number_is = asked_number; target_is = λ z. absurd (h z) }

    pub owed_shortfall : number ≡ 0 → {t : ℕ} → t ≡ target_of limits (get_or (users_of s) place nobody) level → ShortfallOf limits (book_of s) (get_or (users_of s) place nobody) 0 t
    owed_shortfall z e = record { number_is = sym z ∙ asked_number; target_is = λ y. asked_target z e }
