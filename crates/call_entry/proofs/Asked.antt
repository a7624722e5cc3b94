-- Question 8 after the opening questions, and a call or a query on a user by its number. Assumes nothing.
use mathlib.Core.List.{List, [], ◌∷◌}
use mathlib.Core.Path.{◌≡◌, ◌∙◌, ap, sym}
use Prim.Native.Nat.{◌≤◌, ℕ}
use Rattle.call_entry.specs.Entered.{Found}
use Rattle.book_format.proofs.OneUser.{known_place, unknown_place}
use Rattle.book_format.specs.Book.{book_of, count_of_users, users_of}
use Rattle.book_format.specs.Steps.{place_of}
use Rattle.laws.proofs.Refusals.{after-append, after_first, after_nonzero, yes_first}
use Rattle.rules.specs.Calls.{id_known}
use Rattle.rules.specs.Questions.{Question, after, first_of, known, refusal}

module _ (s : List ℕ) (id : ℕ) (rest : List Question) where
  -- refused by the opening questions or by 8
  pub entry_refused : {R : Type 0} (f : ℕ → R) (x : R) (before n : ℕ) → n ≡ first_of before (refusal (id_known (book_of s) id ∷ [])) → (n ≡ 0 → ⊥)
      → after before f (after (refusal (id_known (book_of s) id ∷ rest)) f x) ≡ f n
  entry_refused f x before n e h =
      let first = id_known (book_of s) id ∷ [] in
      ap (after before f) (after-append first rest f x) ∙ sym (after_first before (refusal first) f (after (refusal rest) f x)) ∙ ap (λ (k : ℕ). after k f (after (refusal rest) f x)) (sym e)
      ∙ after_nonzero f (after (refusal rest) f x) h

  pub entry_found : {place : ℕ} → Found s id place → refusal (id_known (book_of s) id ∷ rest) ≡ refusal rest
  unfolding id_known book_of
  entry_found f = yes_first 8 (known (users_of s) id) rest (rw (known_place s id (rw f.stands at f.known)) tt)

-- an id that is in no place is refused by 8, one that is in a place is not
pub entry_unknown : (s : List ℕ) (id : ℕ) → count_of_users s ≤ place_of (users_of s) id → 8 ≡ refusal (id_known (book_of s) id ∷ [])
unfolding id_known book_of refusal after
entry_unknown s id k = rw (unknown_place s id k)

pub entry_known : (s : List ℕ) (id : ℕ) {place : ℕ} → Found s id place → 0 ≡ refusal (id_known (book_of s) id ∷ [])
unfolding refusal after
entry_known s id f = rw (entry_found s id [] f)
