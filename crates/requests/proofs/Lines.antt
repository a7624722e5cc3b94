-- A list of postings after its opening questions, asked once: an accepted posting leaves a book that passes them again, so that asking them before each line gives the
-- same. Assumes nothing.
use Rattle.base.specs.Basics.{◌≡◌, ◌∙◌, ap, ap₂, refl, sym, Bool, cond, true, false, List, [], ◌∷◌, map, ℕ, arith, ltb, ltb→lt, suc, zero}
use Rattle.base.specs.Basics.{ℤ, ◌+ℤ◌}
use Rattle.fields.specs.Field.{AllBytes}
use Rattle.laws.proofs.Posting.{posting_sound}
use Rattle.laws.proofs.Refusals.{first_yes, first_zero, second_zero}
use Rattle.base.proofs.Tests.{and_l, and_r}
use Rattle.laws.proofs.Changed.{keeps_party}
use Rattle.laws.specs.Sound.{Sound}
use Rattle.rules.specs.Book.{Book, Header, User, at, find}
use Rattle.rules.specs.Calls.{about, call_after, effect, entry_in_range, id_known, only, posting, result_in, unchanged}
use Rattle.rules.specs.Changes.{change, posted, with_users}
use Rattle.rules.specs.Levels.{Limits}
use Rattle.rules.specs.Questions.{after, first_of, refusal}
use Rattle.rules.specs.Signed.{within}
use Rattle.book_format.proofs.Passed.{passed}
use Rattle.book_format.proofs.Written.{all_bytes_bytes_of, book_of_bytes_of, written_number}
use Rattle.book_format.specs.Book.{book_of}
use Rattle.book_format.specs.Questions.{book_number}
use Rattle.book_format.specs.Steps.{in_bytes}
use Rattle.store.specs.Store.{store_number}
use Rattle.requests.specs.Request.{Lines, Setting, about_lines, as_bytes, lines_fit, lines_in, opening, opening_in, opening_lines, step_in}

-- ---- the opening questions

-- 15 by itself
pub fit_number : (v : Lines) → refusal (about_lines v) ≡ cond (lines_fit v) 0 15
unfolding about_lines refusal after
fit_number v = go (lines_fit v)
  where
    go : (c : Bool) → refusal (record { number = 15; holds = c } ∷ []) ≡ cond c 0 15
    go true = refl
    go false = refl

-- a list that passes its opening questions fits, and each of its lines would pass its own
pub lines_opening : (n : ℕ) (g : Setting) (v : Lines) (s : List ℕ) → opening (opening_lines n v) g s ≡ 0 → (lines_fit v ≡ true) × (opening n g s ≡ 0)
unfolding opening_in opening_lines
lines_opening n g v s e =
    let store = store_number g.store (book_of s).header.date in
    let own = refusal (about_lines v) in
    let z = first_zero (first_of n own) store e in
    (fits (lines_fit v) (sym (fit_number v) ∙ second_zero n own z), ap (λ (k : ℕ). first_of k store) (first_zero n own z ∙ sym z) ∙ e)
  where
    fits : (c : Bool) → cond {A = ℕ} c 0 15 ≡ 0 → c ≡ true
    fits true h = refl
    fits false h = absurd (omega (arith, h))

-- ---- a list by its number

-- the answer of its lines is 0 alone
pub lines_answer : (g : Setting) (t xs ys : List ℕ) (zs : List ℤ) → (lines_in as_bytes g t xs ys zs).answer ≡ only 0
unfolding lines_in
lines_answer g t [] ys zs = refl
lines_answer g t (x ∷ xs) [] zs = refl
lines_answer g t (x ∷ xs) (y ∷ ys) [] = refl
lines_answer g t (x ∷ xs) (y ∷ ys) (z ∷ zs) = refl

-- ---- one posting after another

-- one line, and the lines after it on the bytes that it leaves
pub one_line : (g : Setting) (s t : List ℕ) (id area : ℕ) (z : ℤ) (r : ℕ) (ids areas : List ℕ) (amounts : List ℤ)
    → (step_in as_bytes (book_number s) g s (posting id area z)).answer.number ≡ r → (step_in as_bytes (book_number s) g s (posting id area z)).book ≡ t
    → ((lines_in as_bytes g s (id ∷ ids) (area ∷ areas) (z ∷ amounts)).book ≡ (lines_in as_bytes g t ids areas amounts).book)
    × ((lines_in as_bytes g s (id ∷ ids) (area ∷ areas) (z ∷ amounts)).numbers ≡ r ∷ (lines_in as_bytes g t ids areas amounts).numbers)
unfolding lines_in
one_line g s t id area z r ids areas amounts e f =
    (ap (λ (u : List ℕ). (lines_in as_bytes g u ids areas amounts).book) f, ap₂ (λ (n : ℕ) (u : List ℕ). n ∷ (lines_in as_bytes g u ids areas amounts).numbers) e f)

-- a posting on bytes that pass their questions leaves bytes that pass them, with the header and the parties as they were
pub record Onward (s t : List ℕ) : Type 0 where
  pub bytes : AllBytes t
  pub number : book_number t ≡ 0
  pub header : (book_of t).header ≡ (book_of s).header
  pub parties : map (λ u. u.party) (book_of t).users ≡ map (λ u. u.party) (book_of s).users

-- changed users have their parties
change_parties : (id area : ℕ) (z : ℤ) (us : List User) → map (λ u. u.party) (change id (posted area z) us) ≡ map (λ u. u.party) us
unfolding change posted
change_parties id area z [] = refl
change_parties id area z (u ∷ us) = λ i. keeps_party (posted area z) (λ v. refl) id u i ∷ change_parties id area z us i

pub posting_onward : (limits : Limits) (s : List ℕ) (id area : ℕ) (z : ℤ) → AllBytes s → book_number s ≡ 0 → Onward s (call_after in_bytes 0 limits s (posting id area z)).book
unfolding call_after after unchanged result_in about effect id_known entry_in_range with_users
posting_onward limits s id area z b h = go (refusal (about limits (book_of s) (posting id area z))) refl
  where
    book : Book
    book = book_of s

    next : Book
    next = with_users book (change id (posted area z) book.users)

    go : (n : ℕ) → refusal (about limits book (posting id area z)) ≡ n → Onward s (after n (unchanged s) (result_in in_bytes (effect limits book (posting id area z)))).book
    go zero e =
        let q8 = first_yes _ _ e tt in
        let q10 = first_yes _ _ q8.1 tt in
        let ok = within 1000000 (at (find book.users id).physical area +ℤ z) in
        let sound : Sound next = posting_sound book id area z (passed s h).sound q8.0 (ltb→lt area 3 (and_l (ltb area 3) ok q10.0)) (and_r (ltb area 3) ok q10.0) in
        let back = book_of_bytes_of next sound in
        record {
          bytes = all_bytes_bytes_of next;
          number = written_number next sound;
          header = ap (λ (n : Book). n.header) back;
          parties = ap (λ (n : Book). map (λ u. u.party) n.users) back ∙ change_parties id area z book.users;
        }
    go (suc n) e = record { bytes = b; number = h; header = refl; parties = refl }

-- and so the opening questions of the next posting are passed too: the store is asked on the same date
pub onward_opening : (g : Setting) {s t : List ℕ} → Onward s t → book_number s ≡ 0 → opening (book_number s) g s ≡ 0 → opening (book_number t) g t ≡ 0
unfolding opening_in
onward_opening g {s} {t} w h e =
    ap (λ (x : Header). first_of (book_number t) (store_number g.store x.date)) w.header ∙ ap (λ (n : ℕ). first_of n (store_number g.store (book_of s).header.date)) (w.number ∙ sym h) ∙ e
