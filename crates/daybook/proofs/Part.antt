-- A record shown after the opening questions is the part that its request hands back: by the number of both, the record or the empty part. Assumes nothing.
use Rattle.base.specs.Basics.{◌≡◌, ◌∙◌, ap, refl, sym, Bool, false, true, List, [], ℕ, ◌+◌, suc, zero}
use Rattle.rules.specs.Levels.{Limits}
use Rattle.rules.specs.Queries.{Reply, a_record, about_query, found, only_number, reply_after, shown_record}
use Rattle.rules.specs.Questions.{after, first_of, refusal}
use Rattle.book_format.specs.Book.{book_of}
use Rattle.requests.specs.Carried.{Admitted, part_at, part_shown}
use Rattle.requests.specs.Request.{Setting}
use Rattle.rights.proofs.Replied.{replied_by, told_by_lem}
use Rattle.rights.specs.Trades.{Told, TradeHanded, id_of, trade_of}
use Rattle.call_level.specs.Times.{query_of}
use Rattle.call_told.specs.Told.{TradeAfter}
use Rattle.rights.specs.Acting.{HandedBy, entering_number}
use Rattle.rights.specs.Party.{Party, matter_of, own}
use Rattle.call_show.specs.Shown.{PartAfter, ShownAfter, showing}
use Rattle.laws.proofs.Refusals.{after_first}

module _ (actor : Party) (g : Setting) (s : List ℕ) (id opened : ℕ) where
  -- by the number of the opening questions and question 8
  by_number : {R : Type 0} {number : ℕ} (f : ℕ → R) (x : R) → number ≡ first_of opened (refusal (about_query (book_of s) (shown_record id))) → showing opened s id f x ≡ after number f x
  unfolding showing
  by_number f x e = sym (after_first opened (refusal (about_query (book_of s) (shown_record id))) f x) ∙ ap (λ (n : ℕ). after n f x) (sym e)

  -- the number of the request
  asked_number : (limits : Limits) → first_of opened (refusal (about_query (book_of s) (shown_record id))) ≡ (reply_after opened limits (book_of s) (shown_record id)).number
  unfolding reply_after after only_number found a_record
  asked_number limits = go opened (refusal (about_query (book_of s) (shown_record id)))
    where
      go : (n m : ℕ) → first_of n m ≡ (after n only_number (after m only_number (found limits (book_of s) (shown_record id)))).number
      go (suc n) m = refl
      go zero zero = refl
      go zero (suc m) = refl

  pub handed : {limits : Limits} {number : ℕ} {part : List ℕ} {book place : ℕ × ℕ} → Admitted (entering_number actor (own id) s) g s opened limits → ShownAfter opened s id number part → PartAfter opened s id book place → HandedBy actor g s id number part book place
  unfolding part_shown part_at matter_of
  handed {limits} {book = book} d shown at =
      record {
        asked = shown.asked ∙ asked_number limits ∙ ap (λ (r : Reply). r.number) (replied_by (shown_record id) d);
        shows = shown.shows ∙ by_number (λ n. []) _ shown.asked;
        block = at.block;
        offset = at.offset ∙ ap (λ (n : ℕ). book.1 + n) (by_number (λ n. 0) _ shown.asked);
      }

-- a trade by ordinal after the opening questions is the part that its request hands back
pub trade_handed : (actor : Party) (g : Setting) (s : List ℕ) (id ordinal : ℕ) {opened number : ℕ} {limits : Limits} {part : List ℕ} {book place : ℕ × ℕ}
    → Admitted (entering_number actor (own id) s) g s opened limits → TradeAfter opened s id ordinal number part book place
    → TradeHanded actor g s id ordinal number part book place
unfolding id_of
trade_handed actor g s id ordinal {limits = limits} d t =
    let e = told_by_lem (trade_of id ordinal) d in
    record {
      asked = t.asked limits ∙ ap (λ (r : Told). r.number) e;
      shows = t.shows limits ∙ ap (λ (r : Told). r.part) e;
      block = t.block;
      offset = t.offset;
    }

-- a level is the user's own matter at both times of the day
pub of_level : (actor : Party) (afternoon : Bool) (id : ℕ) {g : Setting} {s : List ℕ} {number : ℕ} {limits : Limits} → Admitted (entering_number actor (own id) s) g s number limits
    → Admitted (entering_number actor (matter_of (query_of afternoon id)) s) g s number limits
unfolding matter_of
of_level actor true id d = d
of_level actor false id d = d
