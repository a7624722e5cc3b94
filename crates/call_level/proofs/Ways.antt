-- The ways out of a level: refused by the entry, for a clearing house, or answered. Assumes nothing.
use mathlib.Core.Bool.{Bool, true, false}
use mathlib.Core.List.{List, [], ◌∷◌}
use mathlib.Core.Path.{◌≡◌, refl, sym}
use Prim.Native.Nat.{ℕ}
use borrow.Author.Tests.{eq-eqb, ne_eqb}
use Rattle.rules.specs.Book.{Book, find}
use Rattle.rules.specs.Levels.{Limits, shipper}
use Rattle.rules.specs.Questions.{Question, after, first_of, refusal}
use Rattle.rules.specs.Calls.{id_known, is_shipper}
use Rattle.rules.specs.Queries.{about_query, a_level, found, only_number, reply_after}
use Rattle.book_format.specs.Book.{book_of}
use Rattle.call_entry.specs.Entered.{Found}
use Rattle.call_entry.proofs.Calls.{query_refused, query_found}
use Rattle.call_level.specs.Times.{level_of_user, query_of}

query_asks : (b : Book) (id : ℕ) (afternoon : Bool) → about_query b (query_of afternoon id) ≡ id_known b id ∷ (is_shipper (find b.users id) ∷ [])
unfolding about_query
query_asks b id true = refl
query_asks b id false = refl

query_finds : (limits : Limits) (b : Book) (id : ℕ) (afternoon : Bool) → found limits b (query_of afternoon id) ≡ a_level (level_of_user afternoon limits b (find b.users id))
unfolding found level_of_user
query_finds limits b id true = refl
query_finds limits b id false = refl

module _ (before : ℕ) (limits : Limits) (s : List ℕ) (id : ℕ) (afternoon : Bool) where
  -- what is asked after the entry
  rest : List Question
  rest = is_shipper (find (book_of s).users id) ∷ []

  own : about_query (book_of s) (query_of afternoon id) ≡ id_known (book_of s) id ∷ rest
  unfolding rest
  own = query_asks (book_of s) id afternoon

  pub level_refused : {n : ℕ} → n ≡ first_of before (refusal (id_known (book_of s) id ∷ [])) → (n ≡ 0 → ⊥) → only_number n ≡ reply_after before limits (book_of s) (query_of afternoon id)
  level_refused e h = sym (query_refused before limits s id rest (query_of afternoon id) own e h)

  module _ {place : ℕ} (o : before ≡ 0) (f : Found s id place) where
    found_reply : reply_after before limits (book_of s) (query_of afternoon id) ≡ after (refusal rest) only_number (found limits (book_of s) (query_of afternoon id))
    found_reply = query_found before limits s id rest (query_of afternoon id) own o f

    pub level_of_house : ((find (book_of s).users id).party.role ≡ 0 → ⊥) → only_number 9 ≡ reply_after before limits (book_of s) (query_of afternoon id)
    unfolding rest is_shipper shipper refusal after
    level_of_house h = rw (found_reply, ne_eqb (find (book_of s).users id).party.role 0 h)

    pub level_found : (find (book_of s).users id).party.role ≡ 0
        → a_level (level_of_user afternoon limits (book_of s) (find (book_of s).users id)) ≡ reply_after before limits (book_of s) (query_of afternoon id)
    unfolding rest is_shipper shipper refusal after
    level_found h = rw (found_reply, eq-eqb (find (book_of s).users id).party.role 0 h, query_finds limits (book_of s) id afternoon)
