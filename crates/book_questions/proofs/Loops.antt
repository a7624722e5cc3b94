-- Laws of the loops that ask users and trades one by one: those left have the whole answer, and a list has what each one passed gave. Assumes nothing.
use Rattle.base.proofs.Tests.{and-false}
use Rattle.base.specs.Basics.{◌≡◌, refl, sym, ap, ap₂, ◌∙◌, Bool, true, false, cond, ◌&&◌, List, [], ◌∷◌, map, map-append, ℕ, ◌+◌, ◌<◌, ◌≤◌}
use Rattle.base.specs.Basics.{add-one, arith, ltb, length, take, drop, get_or, set, length-set, drop_of_length-le, drop-cons}
use Rattle.base.specs.Basics.{take_all, take-suc, take-suc-set, le-ltb, lt-ltb}
use Rattle.base.specs.Lists.{all}
use Rattle.rules.specs.Book.{User, Trade}
use Rattle.rules.specs.Questions.{ids_rise, user_is_valid, users_are_valid}
use Rattle.book_questions.specs.Asked.{leading}

-- ---- users whose ids rise

-- those left are valid users, with ids that rise from above the last
unfoldable pub valid_from : ℕ → List User → Bool
valid_from last us = ids_rise last us && all user_is_valid us

-- where i users were valid: those left have the whole answer
pub record UsersLeft (us : List User) (last i : ℕ) : Type 0 where
  pub within : i ≤ length us
  pub answer : users_are_valid us ≡ valid_from last (drop i us)

-- the next user, by the two tests of it
valid_next : (last : ℕ) {zs : List User} {u : User} {rest : List User} {a b : Bool} → zs ≡ u ∷ rest → ltb last u.party.id ≡ a → user_is_valid u ≡ b
    → valid_from last zs ≡ (a && ids_rise u.party.id rest) && (b && all user_is_valid rest)
unfolding valid_from ids_rise all
valid_next last {zs} {u} {rest} e h k =
    ap (valid_from last) e
    ∙ ap₂ (λ (a b : Bool). (a && ids_rise u.party.id rest) && (b && all user_is_valid rest)) h k

module _ (us : List User) where
  -- before the first
  pub users_start : UsersLeft us 0 0
  unfolding valid_from users_are_valid
  users_start = record { within = omega arith; answer = refl }

  -- the next one and those after it
  next_user : {i : ℕ} {u : User} (d : User) → i < length us → u ≡ get_or us i d → drop i us ≡ u ∷ drop (i + 1) us
  next_user {i} d h e = rw (e, add-one) (drop-cons us i d h)

  -- its id is not above the last
  pub users_id_no : {last i : ℕ} {u : User} (d : User) → UsersLeft us last i → i < length us → u ≡ get_or us i d → u.party.id ≤ last → false ≡ users_are_valid us
  users_id_no {last} {u = u} d before h e k =
      sym (before.answer ∙ valid_next last (next_user d h e) (le-ltb last u.party.id k) refl)

  -- a field of it is not valid
  pub users_no : {last i : ℕ} {u : User} (d : User) → UsersLeft us last i → i < length us → u ≡ get_or us i d → user_is_valid u ≡ false → false ≡ users_are_valid us
  users_no {last} {i} {u} d before h e k =
      sym
      (before.answer
      ∙ valid_next last (next_user d h e) refl k
      ∙ and-false (ltb last u.party.id && ids_rise u.party.id (drop (i + 1) us)))

  -- its id is, and its fields are
  pub users_turn : {last i : ℕ} {u : User} (d : User) → UsersLeft us last i → i < length us → u ≡ get_or us i d → last < u.party.id → user_is_valid u ≡ true
      → UsersLeft us u.party.id (i + 1)
  unfolding valid_from
  users_turn {last} {u = u} d before h e k v =
      record { within = omega arith; answer = before.answer ∙ valid_next last (next_user d h e) (lt-ltb last u.party.id k) v }

  -- none is left
  pub users_end : {last i : ℕ} → UsersLeft us last i → length us ≤ i → true ≡ users_are_valid us
  unfolding valid_from ids_rise all
  users_end {last} {i} before h = sym (before.answer ∙ ap (valid_from last) (drop_of_length-le us {i = i} h))

-- ---- trades before the first that fails a test

-- where i trades passed: those left have the rest of the number
pub record Led (p : Trade → Bool) (ts : List Trade) (i : ℕ) : Type 0 where
  pub rest : leading p ts ≡ i + leading p (drop i ts)

-- the next trade, by the test of it
leading_next : (p : Trade → Bool) {zs : List Trade} {t : Trade} {rest : List Trade} {b : Bool} → zs ≡ t ∷ rest → p t ≡ b → leading p zs ≡ cond b (1 + leading p rest) 0
unfolding leading
leading_next p {rest = rest} e h = ap (leading p) e ∙ ap (λ (b : Bool). cond b (1 + leading p rest) 0) h

-- none is left
leading_none : (p : Trade → Bool) {zs : List Trade} → zs ≡ [] → leading p zs ≡ 0
unfolding leading
leading_none p e = ap (leading p) e

-- tests that are equal at every trade give one number
pub leading_same : (p q : Trade → Bool) → ((t : Trade) → p t ≡ q t) → (ts : List Trade) → leading p ts ≡ leading q ts
unfolding leading
leading_same p q h [] = refl
leading_same p q h (t ∷ ts) = ap₂ (λ (b : Bool) (n : ℕ). cond b (1 + n) 0) (h t) (leading_same p q h ts)

module _ {p : Trade → Bool} {ts : List Trade} where
  -- before the first
  pub led_start : Led p ts 0
  led_start = record { rest = omega arith }

  -- the next one does not pass
  pub led_no : {i : ℕ} (d : Trade) → Led p ts i → i < length ts → p (get_or ts i d) ≡ false → i ≡ leading p ts
  led_no {i} d before h e = omega (arith, before.rest, leading_next p (drop-cons ts i d h) e)

  -- it passes
  pub led_turn : {i : ℕ} (d : Trade) → Led p ts i → i < length ts → p (get_or ts i d) ≡ true → Led p ts (i + 1)
  led_turn {i} d before h e =
      let next : leading p (drop i ts) ≡ 1 + leading p (drop (i + 1) ts) = leading_next p {rest = drop (i + 1) ts} (rw add-one (drop-cons ts i d h)) e in
      record { rest = omega (arith, before.rest, next) }

  -- none is left
  pub led_end : {i : ℕ} → Led p ts i → length ts ≤ i → i ≡ leading p ts
  led_end {i} before h = omega (arith, before.rest, leading_none p (drop_of_length-le ts {i = i} h))

-- ---- what each one passed gave

-- the first i places of a list hold what the first i elements of another give; there is room for more
pub record Listed {A : Type 0} (f : A → ℕ) (xs : List A) (room : ℕ) (ns : List ℕ) (i : ℕ) : Type 0 where
  pub done : take i ns ≡ map f (take i xs)
  pub full : length ns ≡ room

module _ {A : Type 0} {f : A → ℕ} {xs : List A} {room : ℕ} where
  -- before the first
  pub listed_start : {ns : List ℕ} → length ns ≡ room → Listed f xs room ns 0
  listed_start h = record { done = refl; full = h }

  -- the next one's is stored
  pub listed_turn : {ns : List ℕ} {i n : ℕ} (d : A) → Listed f xs room ns i → i < length xs → i < room → n ≡ f (get_or xs i d) → Listed f xs room (set ns i n) (i + 1)
  listed_turn {ns} {i} {n} d before h k e =
      record {
        done =
            rw
            (add-one, take-suc-set ns i n (omega (arith, before.full)), take-suc xs i d h, map-append f (take i xs) (get_or xs i d ∷ []), before.done, e);
        full = length-set ns i n ∙ before.full;
      }

  -- none is left
  pub listed_end : {ns : List ℕ} {i : ℕ} → Listed f xs room ns i → length xs ≤ i → take i ns ≡ map f xs
  listed_end {i = i} before h = before.done ∙ ap (map f) (take_all i xs h)
