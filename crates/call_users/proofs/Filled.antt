-- A loop that fills the rows of the users from the first on, where the other places have none. Assumes nothing.
use Rattle.base.specs.Basics.{◌≡◌, refl, sym, ap, ◌∙◌, Bool, false, List, [], ◌∷◌, ◌++◌, append_assoc, map, ℕ, zero, suc, ◌+◌, ◌-◌, ◌<◌, ◌≤◌, add-one}
use Rattle.base.specs.Basics.{arith, get_or, length, length-map, replicate, set, take, get_or-map, length-take-le, set_at, take_all, take-suc}
use Rattle.book_format.proofs.Passed.{length-users_of, passed}
use Rattle.book_format.specs.Book.{book_of, count_of_users, users_of}
use Rattle.book_format.specs.Questions.{book_number}
use Rattle.cut_parties.specs.Flags.{CutFlags}
use Rattle.risk_bearers.proofs.Borne.{id_in_lem, length-users_in}
use Rattle.risk_bearers.specs.Bearers.{trades_in, users_in}
use Rattle.laws_sales.specs.Parties.{cut_before}
use Rattle.rules.specs.Book.{Book, nobody}
use Rattle.rules.specs.Levels.{Limits}
use Rattle.user_levels.specs.Levels as rows
use Rattle.user_levels.specs.Levels.{levels_of, no_levels, no_user, user_rows}
use Rattle.call_answers.specs.Levels.{as_row}
use Rattle.call_answers.specs.declared.UserLevels.{UserLevels}

-- ---- the users of an accepted book

pub users_many : (s : List ℕ) → length (book_of s).users ≡ count_of_users s
unfolding book_of
users_many s = length-users_of s

pub users_few : (s : List ℕ) → book_number s ≡ 0 → length (book_of s).users ≤ 64
users_few s e = omega (arith, users_many s, (passed s e).form.users)

-- ---- a flag of one user

pub flag_at : (s : List ℕ) {flags : List Bool} → CutFlags (users_in s) (trades_in s) flags → (i : ℕ) → i < count_of_users s
    → get_or flags i false ≡ cut_before (get_or (users_of s) i nobody).party.id (trades_in s)
flag_at s p i h = p.each i (omega (arith, length-users_in s)) ∙ ap (λ (id : ℕ). cut_before id (trades_in s)) (id_in_lem s i)

-- ---- the rows

-- the first i of a list in their places, and none in the others
abbrev placed : List rows.UserLevels → ℕ → List rows.UserLevels
placed vs i = take i vs ++ replicate (64 - i) no_user

row_set : (xs : List UserLevels) (i : ℕ) (x : UserLevels) → map as_row (set xs i x) ≡ set (map as_row xs) i (as_row x)
row_set [] i x = refl
row_set (y ∷ xs) zero x = refl
row_set (y ∷ xs) (suc i) x = ap (λ (l : List rows.UserLevels). as_row y ∷ l) (row_set xs i x)

module _ (limits : Limits) (b : Book) where
  -- the rows of the users
  abbrev told : List rows.UserLevels
  told = map (levels_of limits b) b.users

  -- where i users have their rows
  pub record Filled (xs : List UserLevels) (i : ℕ) : Type 0 where
    pub few : length b.users ≤ 64
    pub inside : i ≤ length b.users
    pub filled : map as_row xs ≡ placed told i

  pub filled_start : {xs : List UserLevels} → length b.users ≤ 64 → map as_row xs ≡ (no_levels 0).users → Filled xs 0
  unfolding no_levels
  filled_start l e = record { few = l; inside = omega arith; filled = e }

  pub filled_more : {xs : List UserLevels} {i : ℕ} → Filled xs i → i < length b.users → (x : UserLevels) → as_row x ≡ levels_of limits b (get_or b.users i nobody)
      → Filled (set xs i x) (i + 1)
  filled_more {xs} {i} p h x e =
      let y = get_or told i (levels_of limits b nobody) in
      let m = 64 - (i + 1) in
      let k : 64 - i ≡ suc m = omega (arith, p.few) in
      let long : length told ≡ length b.users = length-map b.users (levels_of limits b) in
      let own : as_row x ≡ y = e ∙ sym (get_or-map (levels_of limits b) b.users i nobody) in
      record {
        few = p.few;
        inside = omega arith;
        filled =
            row_set xs i x
            ∙ ap (λ (l : List rows.UserLevels). set l i (as_row x)) p.filled
            ∙ ap (λ (r : rows.UserLevels). set (placed told i) i r) own
            ∙ rw k
            (set_at (take i told) no_user (replicate m no_user) y i (length-take-le i told (omega (arith, long)))
            ∙ sym (append_assoc (take i told) (y ∷ []) (replicate m no_user))
            ∙ rw (add-one, take-suc told i (levels_of limits b nobody) (omega (arith, long))));
      }

  pub filled_end : {xs : List UserLevels} {i : ℕ} → Filled xs i → length b.users ≤ i → map as_row xs ≡ user_rows limits b
  unfolding user_rows
  filled_end {xs} {i} p h =
      let e : i ≡ length b.users = omega (arith, p.inside) in
      let long : length told ≡ length b.users = length-map b.users (levels_of limits b) in
      p.filled ∙ rw (e, take_all (length b.users) told (omega (arith, long)))
