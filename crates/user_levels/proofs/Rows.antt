-- Each row of the levels of all users is what the calls for that user's id answer. Assumes nothing.
use Rattle.base.specs.Basics.{◌≡◌, ◌∙◌, ap, refl, subst, sym, Bool, true, false, cond, List, [], ◌∷◌, ◌++◌, map, ℕ, suc, zero, ◌-◌, ◌<◌, ◌≤◌}
use Rattle.base.specs.Basics.{le_of_suc-le-suc, not-suc-le-zero, arith, T, eqb, ltb, get_or, length, replicate, eq-eqb, ne_eqb}
use Rattle.base.proofs.Tests.{and_r, eqb_of, or_l, or_r}
use Rattle.base.specs.Lists.{any}
use Rattle.rules.specs.Book.{Book, User, find, nobody}
use Rattle.rules.specs.Calls.{id_known, is_shipper}
use Rattle.rules.specs.Day.{printed_level}
use Rattle.rules.specs.Levels.{Limits, afternoon_level, morning_level, shipper}
use Rattle.rules.specs.Queries.{Query, a_level, about_query, afternoon_level_of, found, morning_level_of, only_number, reply_after}
use Rattle.rules.specs.Questions.{after, ids_rise, known, refusal}
use Rattle.book_format.proofs.Passed.{passed}
use Rattle.book_format.specs.Book.{book_of}
use Rattle.book_format.specs.Questions.{book_number}
use Rattle.requests.proofs.Opened.{opening-zero}
use Rattle.requests.specs.Request.{Setting, enquiry_after, limits_on, opening}
use Rattle.rights.proofs.Operator.{operator_asked}
use Rattle.rights.specs.Acting.{enquiry_by}
use Rattle.rights.specs.Party.{matter_of, operator}
use Rattle.views.proofs.Told.{known_above}
use Rattle.user_levels.specs.Claims.{RowOf, RowsClaim, level_reply}
use Rattle.user_levels.specs.Levels.{AllLevels, UserLevels, all_levels, all_levels_after, levels_after, levels_in, levels_of, no_levels, no_user, user_rows}
use Rattle.laws.proofs.Refusals.{after_passed}

-- ---- the user at a place is the one of its id

abbrev id_in : List User → ℕ → ℕ
id_in us i = (get_or us i nobody).party.id

known_at : (us : List User) (i : ℕ) → i < length us → T (known us (id_in us i))
unfolding known any
known_at [] i h = absurd (not-suc-le-zero h)
known_at (u ∷ us) zero h = or_l (eqb u.party.id u.party.id) (any (λ v. eqb v.party.id u.party.id) us) (eqb_of u.party.id u.party.id refl)
known_at (u ∷ us) (suc i) h = or_r (eqb u.party.id (id_in us i)) (known us (id_in us i)) (known_at us i (le_of_suc-le-suc h))

find_at : (us : List User) (low i : ℕ) → T (ids_rise low us) → i < length us → find us (id_in us i) ≡ get_or us i nobody
unfolding find ids_rise
find_at [] low i r h = absurd (not-suc-le-zero h)
find_at (u ∷ us) low zero r h = rw (eq-eqb u.party.id u.party.id refl)
find_at (u ∷ us) low (suc i) r h =
    let rest = and_r (ltb low u.party.id) (ids_rise u.party.id us) r in
    let inside = le_of_suc-le-suc h in
    let above = known_above us u.party.id (id_in us i) rest (known_at us i inside) in
    rw (ne_eqb u.party.id (id_in us i) (λ e. omega (arith, above, e))) (find_at us u.party.id i rest inside)

-- ---- the rows

row_at : {A B : Type 0} (f : A → B) (xs : List A) (tail : List B) (i : ℕ) (a : A) (d : B) → i < length xs → get_or (map f xs ++ tail) i d ≡ f (get_or xs i a)
row_at f [] tail i a d h = absurd (not-suc-le-zero h)
row_at f (x ∷ xs) tail zero a d h = refl
row_at f (x ∷ xs) tail (suc i) a d h = row_at f xs tail i a d (le_of_suc-le-suc h)

none_past : {B : Type 0} (n i : ℕ) (d : B) → get_or (replicate n d) i d ≡ d
none_past zero i d = refl
none_past (suc n) zero d = refl
none_past (suc n) (suc i) d = none_past n i d

row_past : {A B : Type 0} (f : A → B) (xs : List A) (n i : ℕ) (d : B) → length xs ≤ i → get_or (map f xs ++ replicate n d) i d ≡ d
row_past f [] n i d h = none_past n i d
row_past f (x ∷ xs) n zero d h = absurd (not-suc-le-zero h)
row_past f (x ∷ xs) n (suc i) d h = row_past f xs n i d (le_of_suc-le-suc h)

-- ---- where nothing refuses

-- the number is that of the opening questions
number_after : (n : ℕ) (limits : Limits) (s : List ℕ) → (levels_after n limits s).number ≡ 0 → n ≡ 0
unfolding levels_after after no_levels
number_after zero limits s e = refl
number_after (suc n) limits s e = absurd (omega (arith, e))

module _ (g : Setting) (s : List ℕ) (accepted : (all_levels g s).number ≡ 0) where
  opens : opening (book_number s) g s ≡ 0
  unfolding all_levels_after
  opens = number_after (opening (book_number s) g s) (limits_on g (book_of s)) s accepted

  rows_are : (all_levels g s).users ≡ user_rows (limits_on g (book_of s)) (book_of s)
  unfolding all_levels_after levels_after levels_in
  rows_are = ap (λ (x : AllLevels). x.users) (after_passed no_levels (levels_in (limits_on g (book_of s)) (book_of s)) opens)

  -- a query of a user's id
  module _ (i : ℕ) (inside : i < length (book_of s).users) where
    abbrev book : Book
    book = book_of s

    abbrev user : User
    user = get_or book.users i nobody

    user_found : find book.users user.party.id ≡ user
    user_found = find_at book.users 0 i (passed s (opening-zero (book_number s) g s opens)).sound.ids inside

    user-known : known book.users user.party.id ≡ true
    user-known = go (known book.users user.party.id) (known_at book.users i inside)
      where
        go : (k : Bool) → T k → k ≡ true
        go true h = refl
        go false h = absurd h

    replied : (q : Query) (level : User → ℕ) → about_query book q ≡ id_known book user.party.id ∷ (is_shipper (find book.users user.party.id) ∷ [])
        → found (limits_on g book) book q ≡ a_level (level (find book.users user.party.id))
        → enquiry_by operator g s q ≡ level_reply (shipper user) (cond (shipper user) (level user) 0)
    unfolding enquiry_after reply_after id_known is_shipper refusal after level_reply a_level only_number
    replied q level asks finds =
        ap (λ (n : ℕ). enquiry_after n g s q) (operator_asked (matter_of q) s)
        ∙ after_passed only_number (after (refusal (about_query book q)) only_number (found (limits_on g book) book q)) opens
        ∙ rw (asks, finds, user-known, user_found) (go (shipper user))
      where
        go : (ships : Bool) → after (refusal (record { number = 9; holds = ships } ∷ [])) only_number (a_level (level user)) ≡ level_reply ships (cond ships (level user) 0)
        go true = refl
        go false = refl

    of_user : RowOf g s user (levels_of (limits_on g book) book user)
    unfolding levels_of about_query found printed_level
    of_user =
        record {
          id = refl;
          morning = replied (morning_level_of user.party.id) (morning_level (limits_on g book) book) refl refl;
          afternoon = replied (afternoon_level_of user.party.id) (afternoon_level (limits_on g book) book) refl refl;
          state = refl;
        }

    row_is : get_or (all_levels g s).users i no_user ≡ levels_of (limits_on g book) book user
    unfolding user_rows
    row_is =
        ap (λ (rows : List UserLevels). get_or rows i no_user) rows_are
        ∙ row_at (levels_of (limits_on g book) book) book.users (replicate (64 - length book.users) no_user) i nobody no_user inside

    row : RowOf g s user (get_or (all_levels g s).users i no_user)
    row = subst (RowOf g s user) (sym row_is) of_user

  past : (i : ℕ) → length (book_of s).users ≤ i → get_or (all_levels g s).users i no_user ≡ no_user
  unfolding user_rows
  past i h =
      ap (λ (rows : List UserLevels). get_or rows i no_user) rows_are
      ∙ row_past (levels_of (limits_on g (book_of s)) (book_of s)) (book_of s).users (64 - length (book_of s).users) i no_user h

pub rows_claim : RowsClaim
rows_claim = record { row = λ g s e i h. row g s e i h; past = λ g s e i h. past g s e i h }
