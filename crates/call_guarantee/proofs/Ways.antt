-- The ways out of a guarantee call: refused by the entry, by a question of its own, or answered. Assumes nothing.
use Rattle.base.specs.Basics.{◌≡◌, refl, sym, ap, ◌∙◌, Bool, true, false, false≢true, ◌&&◌, List, [], ◌∷◌, ℕ, ◌-◌, ◌≤◌, ◌<◌, get_or, sets, eq-eqb, ne_eqb}
use Rattle.base.specs.Basics.{le-leb, lt-leb}
use Rattle.rules.specs.Book.{Book, User, find, nobody}
use Rattle.rules.specs.Levels.{Limits, shipper, exceeds_its_margin}
use Rattle.rules.specs.Questions.{Question, after, first_of, refusal}
use Rattle.rules.specs.Calls.{about, assigned_suffices, call_after, called_in_beyond_margin, effect, guaranteed, id_known, is_shipper, margin_exceeded, of_level, only, result_in, unchanged}
use Rattle.rules.specs.Changes.{blocked_to}
use Rattle.fields.specs.Field.{AllBytes}
use Rattle.book_records.specs.User.{alone, as_user, user_bytes, user_values}
use Rattle.book_records.specs.declared.User as code
use Rattle.book_format.specs.Book.{book_of, place_of_user, users_of}
use Rattle.book_format.specs.Steps.{in_bytes}
use Rattle.book_format.proofs.OneUser.{changed_bytes}
use Rattle.book_format.proofs.Passed.{passed}
use Rattle.call_entry.specs.Entered.{Found}
use Rattle.call_entry.proofs.Calls.{call_found, call_refused, found_at}
use Rattle.call_level.specs.Times.{level_of_user}
use Rattle.call_guarantee.specs.Times.{due_of, call_of}
use Rattle.call_guarantee.specs.Raised.{called_at, last_questions, raised}

-- ---- two answers

-- both are yes
pub both_right : (x y : Bool) → (x && y) ≡ true → y ≡ true
both_right true y e = e
both_right false y e = absurd (false≢true e)

-- not both, and the first is
pub one_without : (x y : Bool) → (x && y) ≡ false → x ≡ true → y ≡ false
one_without true y e t = e
one_without false y e t = absurd (false≢true t)

-- ---- question 11

module _ (limits : Limits) (b : Book) (level : ℕ) (u : User) where
  pub due_within : (afternoon : Bool) → exceeds_its_margin limits level u ≡ false → false ≡ due_of afternoon limits b level u
  unfolding due_of
  due_within true h = rw h
  due_within false h = sym h

-- ---- the end of a call

module _ (s : List ℕ) (place : ℕ) (u : User) (level : ℕ) {due : Bool} where
  pub raised_undue : due ≡ false → raised s place u level due ≡ record { answer = only 11; book = s }
  unfolding raised last_questions refusal after unchanged
  raised_undue e = rw e

  pub raised_short : due ≡ true → u.party.assigned < level → raised s place u level due ≡ record { answer = only 12; book = s }
  unfolding raised last_questions assigned_suffices refusal after unchanged
  raised_short e h = rw (e, lt-leb level u.party.assigned h)

  pub raised_full : due ≡ true → level ≤ u.party.assigned
      → raised s place u level due ≡ record { answer = of_level level (level - u.blocked); book = sets s (place_of_user s place) (user_bytes (blocked_to level u)) }
  unfolding raised last_questions assigned_suffices refusal after
  raised_full e h = rw (e, le-leb level u.party.assigned h)

-- ---- a call

call_asks : (limits : Limits) (b : Book) (id : ℕ) (afternoon : Bool) → let u = find b.users id in let level = level_of_user afternoon limits b u in
    about limits b (call_of afternoon id) ≡ id_known b id ∷ (is_shipper u ∷ last_questions (due_of afternoon limits b level u) level u)
unfolding about level_of_user due_of last_questions margin_exceeded called_in_beyond_margin
call_asks limits b id true = refl
call_asks limits b id false = refl

call_effects : (limits : Limits) (b : Book) (id : ℕ) (afternoon : Bool) → effect limits b (call_of afternoon id) ≡ guaranteed b id (level_of_user afternoon limits b (find b.users id))
unfolding effect level_of_user
call_effects limits b id true = refl
call_effects limits b id false = refl

module _ (before : ℕ) (limits : Limits) (s : List ℕ) (id : ℕ) (afternoon : Bool) where
  -- the user, its level, and the answer to question 11
  abbrev user : User
  user = find (book_of s).users id

  abbrev level : ℕ
  level = level_of_user afternoon limits (book_of s) user

  abbrev due : Bool
  due = due_of afternoon limits (book_of s) level user

  -- what is asked after the entry
  abbrev rest : List Question
  rest = is_shipper user ∷ last_questions due level user

  pub call_unentered : {n : ℕ} → n ≡ first_of before (refusal (id_known (book_of s) id ∷ [])) → (n ≡ 0 → ⊥) → call_after in_bytes before limits s (call_of afternoon id) ≡ record { answer = only n; book = s }
  call_unentered e h = call_refused before limits s id rest (call_of afternoon id) (call_asks limits (book_of s) id afternoon) e h

  module _ {place : ℕ} (o : before ≡ 0) (f : Found s id place) where
    pub call_of_house : ((find (book_of s).users id).party.role ≡ 0 → ⊥) → call_after in_bytes before limits s (call_of afternoon id) ≡ record { answer = only 9; book = s }
    unfolding is_shipper shipper refusal after
    call_of_house h =
        rw (call_found before limits s id rest (call_of afternoon id) (call_asks limits (book_of s) id afternoon) o f, ne_eqb user.party.role 0 h)

    -- one user's record is changed
    effect_bytes : AllBytes s → result_in in_bytes (effect limits (book_of s) (call_of afternoon id))
        ≡ record { answer = of_level level (level - user.blocked); book = sets s (place_of_user s place) (user_bytes (blocked_to level user)) }
    unfolding result_in guaranteed book_of blocked_to
    effect_bytes h =
        rw (call_effects limits (book_of s) id afternoon, f.stands)
        (ap (λ (l : List ℕ). record { answer = of_level level (level - user.blocked); book = l })
        (changed_bytes s h (passed s f.passes) id (blocked_to level) (rw f.stands at f.known) refl))

    pub call_raised : AllBytes s → user.party.role ≡ 0 → call_after in_bytes before limits s (call_of afternoon id) ≡ raised s place user level due
    unfolding is_shipper shipper refusal after raised unchanged
    call_raised h k =
        rw (call_found before limits s id rest (call_of afternoon id) (call_asks limits (book_of s) id afternoon) o f, eq-eqb user.party.role 0 k)
        (ap (after (refusal (last_questions due level user)) (unchanged s)) (effect_bytes h))

    -- what the questions 11 and 12 leave of the user at the place
    pub call_ends : AllBytes s → (find (book_of s).users id).party.role ≡ 0 → called_at afternoon limits s place ≡ call_after in_bytes before limits s (call_of afternoon id)
    unfolding called_at
    call_ends h k =
        ap (λ (u : User). raised s place u (level_of_user afternoon limits (book_of s) u) (due_of afternoon limits (book_of s) (level_of_user afternoon limits (book_of s) u) u)) (found_at f) ∙ sym (call_raised h k)

-- ---- with the record that was read of the user, its level and its answer to question 11

module _ (limits : Limits) (s : List ℕ) (place : ℕ) (afternoon : Bool) where
  without_managers : (v : User) (n : ℕ) (d : Bool) → raised s place (alone v) n d ≡ raised s place v n d
  unfolding raised last_questions assigned_suffices blocked_to user_bytes user_values alone
  without_managers v n d = refl

  pub called_with : (u : code.User) {n : ℕ} {d : Bool} → as_user u ≡ alone (get_or (users_of s) place nobody) → n ≡ level_of_user afternoon limits (book_of s) (get_or (users_of s) place nobody)
      → d ≡ due_of afternoon limits (book_of s) n (get_or (users_of s) place nobody) → raised s place (as_user u) n d ≡ called_at afternoon limits s place
  unfolding called_at
  called_with u {n} {d} h m w =
      let v = get_or (users_of s) place nobody in
      let x : raised s place v n d ≡ raised s place v (level_of_user afternoon limits (book_of s) v) (due_of afternoon limits (book_of s) (level_of_user afternoon limits (book_of s) v) v) = cc (m, w) in
      ap (λ (y : User). raised s place y n d) h ∙ without_managers v n d ∙ x
