-- Laws of the figures that a store gives: they are in range whatever its bytes, and what each way out of the code gives. Assumes nothing.
use Rattle.base.specs.Basics.{◌≡◌, refl, sym, ◌∙◌, subst, Bool, true, false, not, cond, ◌&&◌, Option, none, some, List, [], ◌∷◌, ℕ, ◌+◌, ◌*◌, arith}
use Rattle.base.specs.Basics.{T, leb, leb→le, eqb→eq, length}
use Rattle.rules.specs.Calendar.{real_day}
use Rattle.rules.specs.Levels.{Limits, today}
use Rattle.base.specs.Lists.{all}
use Rattle.rules.specs.Questions.{after, refusal}
use Rattle.base.proofs.Tests.{and_l, and_r, by_test}
use Rattle.units.specs.Limits.{LimitsInRange}
use Rattle.store.specs.Store.{ParameterSet, sets_from, set_count, sets_of, store_formed, firsts_rise, limits_valid, set_is_valid, sets_are_valid, store_valid, or_else, begun, set_in_force, about_store, store_number, figures_of, is_none, limits_of}
use Rattle.store.specs.Asked.{ByForce, ByStore}

-- ---- in range

today_in_range : LimitsInRange today
unfolding today
today_in_range = record { flag_most = omega arith; margin_most = omega arith; floor_most = omega arith }

-- the figures of a valid set
set_in_range : (p : ParameterSet) → T (set_is_valid p) → LimitsInRange p.limits
unfolding set_is_valid limits_valid
set_in_range p t =
    let l = p.limits in
    let most : ℕ = 1000000000000 in
    let figures = and_r (real_day p.first) (leb l.flag_mwh 1000000 && (leb l.margin most && leb l.floor most)) t in
    let cents = and_r (leb l.flag_mwh 1000000) (leb l.margin most && leb l.floor most) figures in
    record {
      flag_most = leb→le l.flag_mwh 1000000 (and_l (leb l.flag_mwh 1000000) (leb l.margin most && leb l.floor most) figures);
      margin_most = leb→le l.margin most (and_l (leb l.margin most) (leb l.floor most) cents);
      floor_most = leb→le l.floor most (and_r (leb l.margin most) (leb l.floor most) cents);
    }

-- the figures of the set in force among valid ones
force_in_range : (date : ℕ) (ps : List ParameterSet) → T (all set_is_valid ps) → LimitsInRange (figures_of (set_in_force date ps))
unfolding all set_in_force or_else begun figures_of
force_in_range date [] t = today_in_range
force_in_range date (p ∷ ps) t =
    let valid = and_l (set_is_valid p) (all set_is_valid ps) t in
    go (set_in_force date ps) (leb p.first date) valid (force_in_range date ps (and_r (set_is_valid p) (all set_is_valid ps) t))
  where
    go : (o : Option ParameterSet) (b : Bool) → T (set_is_valid p) → LimitsInRange (figures_of o) → LimitsInRange (figures_of (or_else o (cond b (some p) none)))
    go none true v h = set_in_range p v
    go none false v h = h
    go (some q) b v h = h

-- the sets of a valid store are valid
valid_sets : (s : List ℕ) → T (store_valid s) → T (all set_is_valid (sets_of s))
unfolding store_valid sets_are_valid
valid_sets s t =
    let rise = firsts_rise 0 (sets_of s) in
    let valid = all set_is_valid (sets_of s) in
    and_r rise valid (and_r (store_formed s) (rise && valid) t)

-- the figures of a call, whatever it is given
pub limits_in_range : (store : Option (List ℕ)) (date : ℕ) → LimitsInRange (limits_of store date)
unfolding limits_of
limits_in_range none date = today_in_range
limits_in_range (some s) date =
    by_test LimitsInRange (store_valid s) (λ t. force_in_range date (sets_of s) (valid_sets s t)) (λ t. today_in_range)

-- ---- a well-formed store has its sets' bytes

pub formed_room : (s : List ℕ) → store_formed s ≡ true → length s ≡ 6 + 24 * set_count s
unfolding store_formed
formed_room s e =
    let t = subst T (sym e) tt in
    eqb→eq (length s) (6 + 24 * set_count s) (search (and_l, and_r))

-- ---- what each way out gives

module _ {force : Option ParameterSet} {number : ℕ} {limits : Limits} where
  -- a set is in force
  pub force_found : {p : ParameterSet} → force ≡ some p → number ≡ 0 → limits ≡ p.limits → ByForce force number limits
  unfolding is_none figures_of
  force_found e n l = record { asked = rw e n; taken = rw e l }

  -- none is
  pub force_none : force ≡ none → number ≡ 17 → limits ≡ today → ByForce force number limits
  unfolding is_none figures_of
  force_none e n l = record { asked = rw e n; taken = rw e l }

module _ {date number : ℕ} {limits : Limits} where
  by_equations : (store : Option (List ℕ)) → number ≡ store_number store date → limits ≡ limits_of store date → ByStore store date number limits
  by_equations store n l = record { asked = n; taken = l; range = rw l (limits_in_range store date) }

  -- there is no store
  pub no_store : number ≡ 0 → limits ≡ today → ByStore none date number limits
  unfolding store_number about_store refusal after limits_of
  no_store n l = by_equations none n l

  -- the store is malformed
  pub store_16 : {s : List ℕ} → store_valid s ≡ false → number ≡ 16 → limits ≡ today → ByStore (some s) date number limits
  unfolding store_number about_store refusal after limits_of
  store_16 {s} v n l = by_equations (some s) (rw v n) (rw v l)

  -- it is not: by the set in force
  pub store_by_force : {s : List ℕ} {n : ℕ} → store_valid s ≡ true → n ≡ set_count s → ByForce (set_in_force date (sets_from n s)) number limits → ByStore (some s) date number limits
  unfolding store_number about_store refusal after limits_of is_none sets_of
  store_by_force {s} v count f =
      let g = rw count at f in
      by_equations (some s) (rw v (g.asked ∙ go (set_in_force date (sets_of s)))) (rw v g.taken)
    where
      go : (o : Option ParameterSet) → cond {A = ℕ} (is_none o) 17 0 ≡ after (cond (not (is_none o)) 0 17) (λ k. k) 0
      go none = refl
      go (some p) = refl

-- malformed by its form, by its sets, or not at all
pub unformed : (s : List ℕ) → store_formed s ≡ false → store_valid s ≡ false
unfolding store_valid
unformed s e = rw e

module _ (s : List ℕ) {n : ℕ} (form : store_formed s ≡ true) (count : n ≡ set_count s) where
  pub formed_by_sets : {b : Bool} → b ≡ sets_are_valid 0 (sets_from n s) → store_valid s ≡ b
  unfolding store_valid sets_of
  formed_by_sets e = rw (form, ← count) (sym e)
