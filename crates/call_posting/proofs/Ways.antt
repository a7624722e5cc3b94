-- The ways out of a posting, as laws of the call on bytes: one for each `return`, for the user of an id and for the user at a place, who may be posted to. Assumes nothing.
use Rattle.base.specs.Basics.{◌≡◌, ◌∙◌, ap, refl, subst⁻¹, sym, Bool, true, false, List, [], ◌∷◌, ℕ, ◌+◌, ◌*◌, ◌<◌, ◌≤◌, arith, ℤ, pos, negsuc}
use Rattle.base.specs.Basics.{nat_abs, ◌+ℤ◌, get_or, sets, le-leb, le-ltb, lt-ltb}
use Rattle.base.proofs.Fronts.{all_at}
use Rattle.call_entry.proofs.Calls.{call_found, call_refused, called}
use Rattle.call_entry.specs.Entered.{Found}
use Rattle.fields.specs.Field.{AllBytes, field, set_field}
use Rattle.book_format.proofs.OneUser.{changed_bytes, find_place}
use Rattle.book_format.proofs.Passed.{length-users_of, passed}
use Rattle.book_format.specs.Book.{book_of, trades_of, place_of_user, count_of_users, users_of}
use Rattle.book_format.specs.Places.{UserIn}
use Rattle.book_format.specs.Questions.{book_number}
use Rattle.book_format.specs.Steps.{in_bytes, place_of}
use Rattle.book_format.specs.After.{CalledAfter}
use Rattle.base.proofs.Linear.{abs_parts}
use Rattle.base.specs.Parts.{neg_part, pos_part}
use Rattle.laws.proofs.Bounds.{entry_le, position_bound}
use Rattle.call_posting.proofs.Bytes.{entry_bytes_lem, position_bytes, posted_bytes}
use Rattle.call_posting.specs.Posting.{PostedAt, PostedTo, Ready, posting_of}
use Rattle.book_records.specs.User.{user_bytes}
use Rattle.rules.specs.Book.{User, at, find, nobody}
use Rattle.rules.specs.Calls.{about, call_after, effect, entry_in_range, id_known, only, result_in}
use Rattle.rules.specs.Changes.{posted}
use Rattle.rules.specs.Levels.{Limits}
use Rattle.rules.specs.Questions.{Question, after, first_of, positions_are_valid, refusal, user_is_valid}
use Rattle.rules.specs.Signed.{bits_of, signed_of, within}

-- both parts of an integer are in range, and so it is
parts_within : (n : ℕ) (z : ℤ) → pos_part z ≤ n → neg_part z ≤ n → within n z ≡ true
unfolding within pos_part neg_part
parts_within n (pos k) p q = le-leb k n p
parts_within n (negsuc k) p q = le-leb (nat_abs (negsuc k)) n (omega (arith, abs_parts (negsuc k)))

module _ (before : ℕ) (limits : Limits) (s : List ℕ) (id area : ℕ) (amount : ℤ) where
  -- a step that is known is what the contract says
  given : (t : List ℕ) (n : ℕ) → call_after in_bytes before limits s (posting_of id area amount) ≡ record { answer = only n; book = t } → CalledAfter before limits s (posting_of id area amount) (only n) t
  given t n e = called (posting_of id area amount) refl e

  -- what is asked after the entry
  rest : List Question
  rest = entry_in_range (find (users_of s) id) area amount ∷ []

  own : about limits (book_of s) (posting_of id area amount) ≡ id_known (book_of s) id ∷ rest
  unfolding about rest book_of
  own = refl

  -- refused by the entry
  pub refused : {n : ℕ} → n ≡ first_of before (refusal (id_known (book_of s) id ∷ [])) → (n ≡ 0 → ⊥) → CalledAfter before limits s (posting_of id area amount) (only n) s
  refused {n} e h = given s n (call_refused before limits s id rest (posting_of id area amount) own e h)

  module _ {place : ℕ} (o : before ≡ 0) (f : Found s id place) where
    found_step : call_after in_bytes before limits s (posting_of id area amount)
        ≡ after (refusal rest) (λ n. record { answer = only n; book = s }) (result_in in_bytes (effect limits (book_of s) (posting_of id area amount)))
    found_step = call_found before limits s id rest (posting_of id area amount) own o f

    -- no such area
    no_area : 2 < area → CalledAfter before limits s (posting_of id area amount) (only 10) s
    unfolding rest entry_in_range refusal after
    no_area h = given s 10 (found_step ∙ rw (le-ltb area 3 h))

    -- the new entry is out of range
    out_of_range : area < 3 → within 1000000 (at (find (users_of s) id).physical area +ℤ amount) ≡ false → CalledAfter before limits s (posting_of id area amount) (only 10) s
    unfolding rest entry_in_range refusal after
    out_of_range k w = given s 10 (found_step ∙ rw (lt-ltb area 3 k, w))

    -- accepted: the user's record is changed where it stands
    accepted : AllBytes s → area < 3 → within 1000000 (at (find (users_of s) id).physical area +ℤ amount) ≡ true
        → CalledAfter before limits s (posting_of id area amount) (only 0) (sets s (place_of_user s place) (user_bytes (posted area amount (find (users_of s) id))))
    unfolding rest entry_in_range refusal after result_in effect book_of posted
    accepted bytes k w =
        given _ 0
        (found_step
        ∙ rw (lt-ltb area 3 k, w, f.stands)
        (ap (λ (l : List ℕ). record { answer = only 0; book = l })
        (changed_bytes s bytes (passed s f.passes) id (posted area amount) (rw f.stands at f.known) refl)))

-- ---- at a place

module _ (s : List ℕ) (place area : ℕ) (z : ℤ) (h : book_number s ≡ 0) (l : place < count_of_users s) where
  abbrev user : User
  user = get_or (users_of s) place nobody

  -- whoever stands there is found
  there : UserIn s place
  there = record { form = (passed s h).form; inside = l }

  found_there : (id : ℕ) → place ≡ place_of (users_of s) id → Found s id place
  found_there id e = record { passes = h; stands = e; known = l }

  user-there : (id : ℕ) → place ≡ place_of (users_of s) id → find (users_of s) id ≡ user
  user-there id e = find_place (users_of s) id ∙ ap (λ (i : ℕ). get_or (users_of s) i nobody) (sym e)

  pub at_no_area : 2 < area → PostedAt place area z s 10 s
  at_no_area k = record { posts = λ id e limits. no_area 0 limits s id area z refl (found_there id e) k }

  module _ (k : area < 3) where
    -- the entry and the position may be posted to
    pub at_ready : {entry position : ℕ} → entry ≡ field 4 (place_of_user s place + (8 + 4 * area)) s → position ≡ field 4 (place_of_user s place + (8 + 4 * area) + 12) s → Ready entry position
    unfolding book_of
    at_ready e d =
        let q = passed s h in
        let v = all_at user_is_valid (users_of s) q.sound.users place nobody (rw (length-users_of s) l) in
        let x = entry_le user area k v in
        let y = position_bound (book_of s) q.sound user v (all_at (positions_are_valid (trades_of s)) (users_of s) q.sound.positions place nobody (rw (length-users_of s) l)) area k in
        record {
          entered = ap (λ (n : ℕ). within 1000000 (signed_of 32 n)) e ∙ ap (within 1000000) (entry_bytes_lem area there k) ∙ parts_within 1000000 (at user.physical area) x.0 x.1;
          held = ap (λ (n : ℕ). within 26600000 (signed_of 32 n)) d ∙ ap (within 26600000) (position_bytes area there k) ∙ parts_within 26600000 (at user.position area) y.0 y.1;
        }

    module _ {entry position : ℕ} (e : entry ≡ field 4 (place_of_user s place + (8 + 4 * area)) s) (d : position ≡ field 4 (place_of_user s place + (8 + 4 * area) + 12) s) where
      entry_is : signed_of 32 entry +ℤ z ≡ at user.physical area +ℤ z
      entry_is = ap (λ (n : ℕ). signed_of 32 n +ℤ z) e ∙ ap (λ (x : ℤ). x +ℤ z) (entry_bytes_lem area there k)

      position_is : signed_of 32 position +ℤ z ≡ at user.position area +ℤ z
      position_is = ap (λ (n : ℕ). signed_of 32 n +ℤ z) d ∙ ap (λ (x : ℤ). x +ℤ z) (position_bytes area there k)

      tested : {ok : Bool} → within 1000000 (signed_of 32 entry +ℤ z) ≡ ok → (id : ℕ) → place ≡ place_of (users_of s) id → within 1000000 (at (find (users_of s) id).physical area +ℤ z) ≡ ok
      tested w id i = ap (λ (u : User). within 1000000 (at u.physical area +ℤ z)) (user-there id i) ∙ ap (within 1000000) (sym entry_is) ∙ w

      pub at_out_of_range : within 1000000 (signed_of 32 entry +ℤ z) ≡ false → PostedAt place area z s 10 s
      at_out_of_range w = record { posts = λ id i limits. out_of_range 0 limits s id area z refl (found_there id i) k (tested w id i) }

      pub at_accepted : {newEntry newPosition : ℕ} → PostedTo entry position z true newEntry newPosition → AllBytes s
          → PostedAt place area z s 0 (set_field 4 (place_of_user s place + (8 + 4 * area) + 12) newPosition (set_field 4 (place_of_user s place + (8 + 4 * area)) newEntry s))
      at_accepted {newEntry} p b =
          let stored = ap (λ (n : ℕ). set_field 4 (place_of_user s place + (8 + 4 * area) + 12) n (set_field 4 (place_of_user s place + (8 + 4 * area)) newEntry s)) (p.held refl ∙ ap (bits_of 32) position_is)
          ∙ ap (λ (n : ℕ). set_field 4 (place_of_user s place + (8 + 4 * area) + 12) (bits_of 32 (at user.position area +ℤ z)) (set_field 4 (place_of_user s place + (8 + 4 * area)) n s)) (p.entered refl ∙ ap (bits_of 32) entry_is)
          ∙ posted_bytes area there k b (passed s h) z in
          record {
            posts = λ id i limits.
                subst⁻¹ (CalledAfter 0 limits s (posting_of id area z) (only 0)) (stored ∙ ap (λ (u : User). sets s (place_of_user s place) (user_bytes (posted area z u))) (sym (user-there id i)))
                (accepted 0 limits s id area z refl (found_there id i) b k (tested (sym p.test) id i));
          }
