-- A call and a query on a user, by what the entry gave: refused with its number, or by the questions that are its own. Assumes nothing.
use mathlib.Core.List.{List, [], ◌∷◌}
use mathlib.Core.Path.{◌≡◌, ◌∙◌, ap, sym}
use Prim.Native.Nat.{ℕ}
use lib.ListN.{get_or}
use Rattle.call_entry.proofs.Asked.{entry_found, entry_refused}
use Rattle.call_entry.specs.Entered.{Found}
use Rattle.book_format.proofs.OneUser.{find_place}
use Rattle.book_format.proofs.Passed.{passed}
use Rattle.book_format.specs.After.{CalledAfter}
use Rattle.book_format.specs.Book.{book_of, users_of}
use Rattle.book_format.specs.Places.{UserIn}
use Rattle.book_format.specs.Steps.{in_bytes}
use Rattle.rules.specs.Book.{find, nobody}
use Rattle.rules.specs.Calls.{Answer, Call, Result, about, call_after, effect, id_known, only, result_in, unchanged}
use Rattle.rules.specs.Levels.{Limits}
use Rattle.rules.specs.Queries.{Query, about_query, found, only_number, reply_after}
use Rattle.rules.specs.Questions.{Question, after, first_of, refusal}

-- what a call gives is its contract
pub called : {before : ℕ} {limits : Limits} {s t : List ℕ} {a x : Answer} (c : Call) → a ≡ x → call_after in_bytes before limits s c ≡ record { answer = x; book = t } → CalledAfter before limits s c a t
called c h e = record { answer = h ∙ sym (ap (λ (r : Result (List ℕ)). r.answer) e); bytes = sym (ap (λ (r : Result (List ℕ)). r.book) e) }

module _ (before : ℕ) (limits : Limits) (s : List ℕ) (id : ℕ) (rest : List Question) where
  -- ---- a call

  module _ (c : Call) (own : about limits (book_of s) c ≡ id_known (book_of s) id ∷ rest) where
    pub call_refused : {n : ℕ} → n ≡ first_of before (refusal (id_known (book_of s) id ∷ [])) → (n ≡ 0 → ⊥) → call_after in_bytes before limits s c ≡ record { answer = only n; book = s }
    unfolding call_after unchanged
    call_refused {n} e h = rw own (entry_refused s id rest (unchanged s) (result_in in_bytes (effect limits (book_of s) c)) before n e h)

    pub call_found : {place : ℕ} → before ≡ 0 → Found s id place
        → call_after in_bytes before limits s c ≡ after (refusal rest) (λ n. record { answer = only n; book = s }) (result_in in_bytes (effect limits (book_of s) c))
    unfolding call_after unchanged after
    call_found e f = rw (e, own, entry_found s id rest f)

  -- ---- a query

  module _ (q : Query) (own : about_query (book_of s) q ≡ id_known (book_of s) id ∷ rest) where
    pub query_refused : {n : ℕ} → n ≡ first_of before (refusal (id_known (book_of s) id ∷ [])) → (n ≡ 0 → ⊥) → reply_after before limits (book_of s) q ≡ only_number n
    unfolding reply_after
    query_refused {n} e h = rw own (entry_refused s id rest only_number (found limits (book_of s) q) before n e h)

    pub query_found : {place : ℕ} → before ≡ 0 → Found s id place → reply_after before limits (book_of s) q ≡ after (refusal rest) only_number (found limits (book_of s) q)
    unfolding reply_after after
    query_found e f = rw (e, own, entry_found s id rest f)

-- ---- the user that the entry found

module _ {s : List ℕ} {id place : ℕ} (f : Found s id place) where
  -- it stands at its place
  pub found_user : UserIn s place
  found_user = record { form = (passed s f.passes).form; inside = f.known }

-- the user of the id is the one at the place
pub found_at : {s : List ℕ} {id place : ℕ} → Found s id place → get_or (users_of s) place nobody ≡ find (book_of s).users id
unfolding book_of
found_at {s} {id} f = ap (λ (i : ℕ). get_or (users_of s) i nobody) f.stands ∙ sym (find_place (users_of s) id)
