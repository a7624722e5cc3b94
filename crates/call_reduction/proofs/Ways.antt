-- The ways out of a reduction: refused by the entry, by a question of its own, by a log that is full, or done. Assumes nothing.
use Rattle.base.specs.Basics.{◌≡◌, refl, sym, ap, subst, ◌∙◌, Bool, true, false, List, [], ◌∷◌, ◌++◌, ℕ, T, get_or}
use Rattle.rules.specs.Book.{User, find, nobody}
use Rattle.rules.specs.Levels.{Limits}
use Rattle.rules.specs.Questions.{Question, after, first_of, refusal}
use Rattle.rules.specs.Reduction.{has_eligible}
use Rattle.rules.specs.Calls.{about, effect, eligible_trade, id_known, only, reduced, reduced_by, reduction, result_in, unchanged, Answer, Result}
use Rattle.book_format.proofs.OneUser.{find_place}
use Rattle.book_format.specs.Book.{book_of, users_of}
use Rattle.book_format.specs.Steps.{in_bytes}
use Rattle.call_entry.specs.Entered.{Found}
use Rattle.call_entry.proofs.Asked.{entry_found, entry_refused}
use Rattle.call_questions.specs.Asked.{ShortfallOf, level_questions}
use Rattle.call_questions.proofs.Asked.{level_passed, level_refused}
use Rattle.log_format.specs.Noted.{has_room}
use Rattle.log_lent.specs.Lent.{room_in}
use Rattle.call_reduction.specs.Call.{Gives, on_sales, on_user, room_asked}
use Rattle.laws.proofs.Refusals.{after_nonzero}

-- a number alone, and the bytes as they are
pub gives_refused : {x : Result (List ℕ)} {a : Answer} {s : List ℕ} (n : ℕ) → x ≡ unchanged s n → a ≡ only n → Gives x a s
unfolding unchanged
gives_refused n e h = record { answer = h ∙ sym (ap (λ (y : Result (List ℕ)). y.answer) e); bytes = sym (ap (λ (y : Result (List ℕ)). y.book) e) }

-- ---- a log

module _ (l : List ℕ) where
  -- 20 refuses a log that is full
  pub room_full : (lent : Bool) → room_in lent l ≡ false → refusal (room_asked lent l) ≡ 20
  unfolding room_in room_asked has_room refusal after
  room_full true e = rw e
  room_full false e = absurd (subst T e tt)

  pub room_free : (lent : Bool) → room_in lent l ≡ true → refusal (room_asked lent l) ≡ 0
  unfolding room_in room_asked has_room refusal after
  room_free true e = rw e
  room_free false e = refl

-- ---- the user at a place

module _ (last : List Question) (limits : Limits) (s : List ℕ) (u : User) where
  -- refused by 9, 11 or 13
  pub user_refused : {n asked : ℕ} → ShortfallOf limits (book_of s) u n asked → (n ≡ 0 → ⊥) → on_user last limits s u ≡ unchanged s n
  unfolding on_user
  user_refused q h = rw (level_refused limits (book_of s) u (eligible_trade (book_of s) u ∷ last) q h) (after_nonzero (unchanged s) (result_in in_bytes (reduced limits (book_of s) u)) h)

  -- or 14 is asked, and the user reduced for its target
  pub user_asked : {n asked : ℕ} → ShortfallOf limits (book_of s) u n asked → n ≡ 0 → on_user last limits s u ≡ on_sales last s u asked
  unfolding on_user on_sales reduced
  user_asked q h = rw (level_passed limits (book_of s) u (eligible_trade (book_of s) u ∷ last) q h, q.target_is h)

module _ (last : List Question) (s : List ℕ) (u : User) (asked : ℕ) where
  -- 14 refuses who has no eligible trade
  pub sales_none : has_eligible (book_of s) u ≡ false → on_sales last s u asked ≡ unchanged s 14
  unfolding on_sales eligible_trade refusal after
  sales_none e = rw e

  -- then those asked last
  pub sales_left : has_eligible (book_of s) u ≡ true → on_sales last s u asked ≡ after (refusal last) (unchanged s) (result_in in_bytes (reduced_by (book_of s) u asked))
  unfolding on_sales eligible_trade refusal after
  sales_left e = rw e

-- ---- the call

-- the user that the entry found stands at the place
pub found_at : {s : List ℕ} {id place : ℕ} → Found s id place → get_or (users_of s) place nobody ≡ find (book_of s).users id
unfolding book_of
found_at {s} {id} f = ap (λ (i : ℕ). get_or (users_of s) i nobody) f.stands ∙ sym (find_place (users_of s) id)

-- with questions asked last
unfoldable pub step_with : List Question → ℕ → Limits → List ℕ → ℕ → Result (List ℕ)
step_with last before limits s id =
    after before (unchanged s) (after (refusal (about limits (book_of s) (reduction id) ++ last)) (unchanged s) (result_in in_bytes (effect limits (book_of s) (reduction id))))

module _ (last : List Question) (before : ℕ) (limits : Limits) (s : List ℕ) (id : ℕ) where
  abbrev user : User
  user = find (book_of s).users id

  -- what is asked after the entry
  rest : List Question
  rest = level_questions limits (book_of s) user ++ (eligible_trade (book_of s) user ∷ last)

  own : about limits (book_of s) (reduction id) ++ last ≡ id_known (book_of s) id ∷ rest
  unfolding about level_questions rest
  own = refl

  pub call_unentered : {n : ℕ} → n ≡ first_of before (refusal (id_known (book_of s) id ∷ [])) → (n ≡ 0 → ⊥) → step_with last before limits s id ≡ unchanged s n
  unfolding step_with
  call_unentered {n} e h = rw own (entry_refused s id rest (unchanged s) (result_in in_bytes (effect limits (book_of s) (reduction id))) before n e h)

  call_entered_lem : {place : ℕ} → before ≡ 0 → Found s id place → step_with last before limits s id ≡ on_user last limits s user
  unfolding step_with after effect on_user rest
  call_entered_lem e f = rw (e, own, entry_found s id rest f)

  pub call_gives : {place : ℕ} {a : Answer} {t : List ℕ} → before ≡ 0 → Found s id place → Gives (on_user last limits s (get_or (users_of s) place nobody)) a t
      → Gives (step_with last before limits s id) a t
  call_gives o f g =
      let x = ap (on_user last limits s) (found_at f) ∙ sym (call_entered_lem o f) in
      record { answer = g.answer ∙ ap (λ (y : Result (List ℕ)). y.answer) x; bytes = g.bytes ∙ ap (λ (y : Result (List ℕ)). y.book) x }
