-- The ways out of a shown record: refused by the entry, or found. Assumes nothing.
use mathlib.Core.List.{List, [], ◌∷◌}
use mathlib.Core.Path.{◌≡◌}
use Prim.Native.Nat.{ℕ}
use Rattle.call_entry.proofs.Asked.{entry_found, entry_refused}
use Rattle.call_entry.specs.Entered.{Found}
use Rattle.book_format.specs.Book.{book_of}
use Rattle.rules.specs.Calls.{id_known}
use Rattle.rules.specs.Queries.{about_query}
use Rattle.rules.specs.Questions.{after, first_of, refusal}
use Rattle.call_show.specs.Shown.{showing}

module _ (s : List ℕ) (id : ℕ) {R : Type 0} (f : ℕ → R) (x : R) where
  pub show_refused : (opened : ℕ) {n : ℕ} → n ≡ first_of opened (refusal (id_known (book_of s) id ∷ [])) → (n ≡ 0 → ⊥) → showing opened s id f x ≡ f n
  unfolding showing about_query
  show_refused opened {n} e h = entry_refused s id [] f x opened n e h

  pub show_found : {opened place : ℕ} → opened ≡ 0 → Found s id place → showing opened s id f x ≡ x
  unfolding showing about_query after refusal
  show_found o k = rw (o, entry_found s id [] k)
