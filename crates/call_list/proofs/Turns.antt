-- The lines one after another: what is left of the list, on the bytes of now, gives the whole. Assumes nothing.
use Rattle.base.specs.Basics.{◌≡◌, ◌∙◌, ap, refl, subst⁻¹, sym, List, [], ◌∷◌, ◌++◌, append_assoc, append-nil, ℕ, suc, zero, ◌+◌, ◌<◌, ◌≤◌, add-one}
use Rattle.base.specs.Basics.{arith, ℤ, pos, length, take, drop, get_or, set, length-set, drop_of_length-le, drop-cons, take_all, take-suc-set}
use Rattle.call_entry.proofs.Asked.{entry_unknown}
use Rattle.fields.specs.Field.{AllBytes}
use Rattle.book_format.specs.After.{CalledAfter}
use Rattle.book_format.specs.Book.{book_of, users_of}
use Rattle.book_format.specs.Questions.{book_number}
use Rattle.book_format.specs.Steps.{in_bytes, place_of}
use Rattle.book_parties.proofs.Known.{place_in_place_of}
use Rattle.book_parties.specs.Ids.{place_in}
use Rattle.call_posting.proofs.Ways.{refused}
use Rattle.call_posting.specs.Posting.{posting_of}
use Rattle.requests.proofs.Lines.{Onward, one_line, onward_opening, posting_onward}
use Rattle.requests.specs.Request.{Setting, as_bytes, limits_on, lines_in, opening, step_in}
use Rattle.rules.specs.Calls.{Answer, Result, call_after, only, posting}
use Rattle.rules.specs.Levels.{Limits, today}
use Rattle.rules.specs.Questions.{after}
use Rattle.call_list.proofs.Ids.{known_onward}
use Rattle.call_list.specs.Lines.{Known, LinesPosted, ListedAfter}

-- ---- the user of a line

-- the place that was searched is the user's
pub place_searched : {known : List ℕ} {n at size : ℕ} {s : List ℕ} (id : ℕ) {place : ℕ} → Known known n at size s → place ≡ place_in (take n known) id → place ≡ place_of (users_of s) id
place_searched {s = s} id k e = e ∙ ap (λ (xs : List ℕ). place_in xs id) k.listed ∙ place_in_place_of (users_of s) id

-- past the last there is none
pub line_refused : {known : List ℕ} {n at size : ℕ} {s : List ℕ} (id area : ℕ) (z : ℤ) {place : ℕ} → Known known n at size s → place ≡ place_in (take n known) id → n ≤ place
    → (limits : Limits) → CalledAfter 0 limits s (posting_of id area z) (only 8) s
unfolding after
line_refused {s = s} id area z {place} k e h limits = refused 0 limits s id area z (entry_unknown s id (omega (arith, k.count, place_searched id k e))) (λ c. omega arith)

-- ---- line by line

-- i lines are posted
pub record Going (known : List ℕ) (n at size : ℕ) (ids areas : List ℕ) (amounts : List ℤ) (s₀ s places : List ℕ) (i : ℕ) : Type 0 where
  pub bytes : AllBytes s
  pub searched : Known known n at size s
  pub whole : length s ≡ length s₀
  pub room : length places ≡ length ids
  pub within : i ≤ length ids
  pub opened : (g : Setting) → opening (book_number s₀) g s₀ ≡ 0 → opening (book_number s) g s ≡ 0
  pub on_bytes : (g : Setting) → opening (book_number s₀) g s₀ ≡ 0 → (lines_in as_bytes g s (drop i ids) (drop i areas) (drop i amounts)).book ≡ (lines_in as_bytes g s₀ ids areas amounts).book
  pub on_numbers : (g : Setting) → opening (book_number s₀) g s₀ ≡ 0 → take i places ++ (lines_in as_bytes g s (drop i ids) (drop i areas) (drop i amounts)).numbers ≡ (lines_in as_bytes g s₀ ids areas amounts).numbers

module _ {known : List ℕ} {n at size : ℕ} {ids areas : List ℕ} {amounts : List ℤ} {s₀ : List ℕ} where
  pub going_start : {places : List ℕ} → AllBytes s₀ → Known known n at size s₀ → length places ≡ length ids → Going known n at size ids areas amounts s₀ s₀ places 0
  going_start b k r =
      record { bytes = b; searched = k; whole = refl; room = r; within = omega arith; opened = λ g e. e; on_bytes = λ g e. refl; on_numbers = λ g e. refl }

  module _ {s t places : List ℕ} {i : ℕ} (r : ℕ) (p : Going known n at size ids areas amounts s₀ s places i) (h : i < length ids) (ar : length areas ≡ length ids) (am : length amounts ≡ length ids)
      (c : (limits : Limits) → CalledAfter 0 limits s (posting_of (get_or ids i 0) (get_or areas i 0) (get_or amounts i (pos 0))) (only r) t) where
    onward : Onward s t
    onward =
        subst⁻¹ (Onward s) (c today).bytes
        (posting_onward today s (get_or ids i 0) (get_or areas i 0) (get_or amounts i (pos 0)) p.bytes p.searched.passes)

    -- the line by itself, in a setting
    first : (g : Setting) → opening (book_number s) g s ≡ 0 → ((step_in as_bytes (book_number s) g s (posting (get_or ids i 0) (get_or areas i 0) (get_or amounts i (pos 0)))).answer.number ≡ r) ×
        ((step_in as_bytes (book_number s) g s (posting (get_or ids i 0) (get_or areas i 0) (get_or amounts i (pos 0)))).book ≡ t)
    unfolding step_in only
    first g e =
        let call = posting (get_or ids i 0) (get_or areas i 0) (get_or amounts i (pos 0)) in
        let limits = limits_on g (book_of s) in
        let o : step_in as_bytes (book_number s) g s call ≡ call_after in_bytes 0 limits s call = ap (λ (m : ℕ). call_after in_bytes m limits s call) e in
        (ap (λ (x : Result (List ℕ)). x.answer.number) o ∙ ap (λ (a : Answer). a.number) (sym (c limits).answer), ap (λ (x : Result (List ℕ)). x.book) o ∙ sym (c limits).bytes)

    -- the line and those after it
    line_then : (g : Setting) → opening (book_number s) g s ≡ 0
        → ((lines_in as_bytes g s (drop i ids) (drop i areas) (drop i amounts)).book ≡ (lines_in as_bytes g t (drop (i + 1) ids) (drop (i + 1) areas) (drop (i + 1) amounts)).book)
        × ((lines_in as_bytes g s (drop i ids) (drop i areas) (drop i amounts)).numbers ≡ r ∷ (lines_in as_bytes g t (drop (i + 1) ids) (drop (i + 1) areas) (drop (i + 1) amounts)).numbers)
    line_then g e =
        rw (add-one, drop-cons ids i 0 h, drop-cons areas i 0 (omega arith), drop-cons amounts i (pos 0) (omega arith))
        (one_line g s t (get_or ids i 0) (get_or areas i 0) (get_or amounts i (pos 0)) r (drop (suc i) ids) (drop (suc i) areas) (drop (suc i) amounts) (first g e).0 (first g e).1)

    pub going_more : length t ≡ length s → Going known n at size ids areas amounts s₀ t (set places i r) (i + 1)
    going_more l =
        record {
          bytes = onward.bytes;
          searched = known_onward onward p.searched;
          whole = l ∙ p.whole;
          room = length-set places i r ∙ p.room;
          within = omega arith;
          opened = λ g e. onward_opening g onward p.searched.passes (p.opened g e);
          on_bytes = λ g e. sym (line_then g (p.opened g e)).0 ∙ p.on_bytes g e;
          on_numbers = λ g e.
              ap (λ (l : List ℕ). l ++ (lines_in as_bytes g t (drop (i + 1) ids) (drop (i + 1) areas) (drop (i + 1) amounts)).numbers)
              (ap (λ (m : ℕ). take m (set places i r)) (add-one i) ∙ take-suc-set places i r (omega (arith, p.room)))
              ∙ append_assoc (take i places) (r ∷ []) (lines_in as_bytes g t (drop (i + 1) ids) (drop (i + 1) areas) (drop (i + 1) amounts)).numbers
              ∙ ap (λ (l : List ℕ). take i places ++ l) (sym (line_then g (p.opened g e)).1)
              ∙ p.on_numbers g e;
        }

  pub going_end : {s places : List ℕ} {i : ℕ} → Going known n at size ids areas amounts s₀ s places i → length ids ≤ i → LinesPosted ids areas amounts s₀ s places
  unfolding lines_in
  going_end {s} {places} {i} p h =
      record {
        bytes = λ g e. sym (ap (λ (l : List ℕ). (lines_in as_bytes g s l (drop i areas) (drop i amounts)).book) (drop_of_length-le ids {i = i} h)) ∙ p.on_bytes g e;
        beside = λ g e.
            sym (append-nil places)
            ∙ ap (λ (l : List ℕ). l ++ []) (sym (take_all i places (omega (arith, p.room))))
            ∙ ap (λ (l : List ℕ). take i places ++ (lines_in as_bytes g s l (drop i areas) (drop i amounts)).numbers) (sym (drop_of_length-le ids {i = i} h))
            ∙ p.on_numbers g e;
      }

-- ---- by the number of the opening questions

module _ {ids areas : List ℕ} {amounts : List ℤ} {places s : List ℕ} where
  pub listed_refused : (number : ℕ) → (number ≡ 0 → ⊥) → ListedAfter number ids areas amounts places s number s places
  unfolding after
  listed_refused zero h = absurd (h refl)
  listed_refused (suc n) h = record { asked = refl; bytes = λ g e. refl; beside = λ g e. refl }

  pub listed_posted : (number : ℕ) {t left : List ℕ} → number ≡ 0 → LinesPosted ids areas amounts s t left → ListedAfter number ids areas amounts places s 0 t left
  unfolding after
  listed_posted zero e p = record { asked = refl; bytes = λ g o. p.bytes g (o refl); beside = λ g o. p.beside g (o refl) }
  listed_posted (suc n) e p = absurd (omega arith)
