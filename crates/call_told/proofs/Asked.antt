-- Questions 8 and 9 after the opening questions, and what is told by their number. Assumes nothing.
use Rattle.base.specs.Basics.{◌≡◌, ◌∙◌, ap, sym, List, [], ◌∷◌, ℕ, ◌<◌, eq-eqb, ne_eqb}
use Rattle.book_format.proofs.OneUser.{known_place}
use Rattle.rules.specs.Book.{find}
use Rattle.rules.specs.Calls.{id_known, is_shipper}
use Rattle.rules.specs.Levels.{Limits, shipper}
use Rattle.rules.specs.Questions.{after, first_of, refusal}
use Rattle.book_format.proofs.Passed.{passed}
use Rattle.book_format.specs.Book.{book_of, users_of}
use Rattle.views.proofs.Told.{known_above}
use Rattle.call_entry.proofs.Asked.{entry_found, entry_refused}
use Rattle.call_entry.specs.Entered.{Found}
use Rattle.rights.specs.Trades.{Asking, about_user, id_of, tells, told_after, told_number}
use Rattle.laws.proofs.Refusals.{after_first, after_nonzero, after_passed, first_alone}

-- ---- 8 and 9

module _ (s : List ℕ) (id : ℕ) where
  -- refused by the opening questions or by 8
  pub seek_refused : (before : ℕ) {n : ℕ} → n ≡ first_of before (refusal (id_known (book_of s) id ∷ [])) → (n ≡ 0 → ⊥) → n ≡ first_of before (refusal (about_user (book_of s) id))
  unfolding about_user
  seek_refused before {n} e h =
      let u = find (book_of s).users id in
      let asked = refusal (id_known (book_of s) id ∷ (is_shipper u ∷ [])) in
      sym (ap (first_of before) (sym (first_alone asked)) ∙ entry_refused s id (is_shipper u ∷ []) (λ m. m) 0 before n e h)

  module _ {place : ℕ} (f : Found s id place) where
    -- by 9 alone
    by_nine : first_of 0 (refusal (about_user (book_of s) id)) ≡ refusal (is_shipper (find (book_of s).users id) ∷ [])
    unfolding after about_user
    by_nine = rw (entry_found s id (is_shipper (find (book_of s).users id) ∷ []) f)

    pub seek_house : ((find (book_of s).users id).party.role ≡ 0 → ⊥) → 9 ≡ first_of 0 (refusal (about_user (book_of s) id))
    unfolding is_shipper shipper refusal after
    seek_house h = sym (by_nine ∙ rw (ne_eqb (find (book_of s).users id).party.role 0 h))

    pub seek_found : (find (book_of s).users id).party.role ≡ 0 → 0 ≡ first_of 0 (refusal (about_user (book_of s) id))
    unfolding is_shipper shipper refusal after
    seek_found h = sym (by_nine ∙ rw (eq-eqb (find (book_of s).users id).party.role 0 h))

-- the id of who is found is not 0
pub found_above : {s : List ℕ} {id place : ℕ} → Found s id place → 0 < id
unfolding book_of
found_above {s} {id} f = known_above (users_of s) 0 id (passed s f.passes).sound.ids (rw (known_place s id (rw f.stands at f.known)) tt)

-- ---- what is told

module _ (opened : ℕ) (s : List ℕ) (a : Asking) {number : ℕ} (asked : number ≡ first_of opened (refusal (about_user (book_of s) (id_of a)))) (limits : Limits) where
  pub told_by_number : told_after opened limits s a ≡ after number told_number (tells limits s a)
  unfolding told_after
  told_by_number =
      sym (after_first opened (refusal (about_user (book_of s) (id_of a))) told_number (tells limits s a)) ∙ ap (λ (n : ℕ). after n told_number (tells limits s a)) (sym asked)

  pub told_refused : (number ≡ 0 → ⊥) → told_number number ≡ told_after opened limits s a
  told_refused h = sym (told_by_number ∙ after_nonzero told_number (tells limits s a) h)

  pub told_found : number ≡ 0 → tells limits s a ≡ told_after opened limits s a
  told_found z = sym (told_by_number ∙ after_passed told_number (tells limits s a) z)
