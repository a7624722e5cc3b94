-- The numbers of the opening questions, one after the other, are those of the first "no" among all of them in their order. Assumes nothing.
use Rattle.base.specs.Basics.{◌≡◌, ◌∙◌, ap, sym, Option, some, List, [], ◌++◌, ℕ}
use Rattle.rules.specs.Calls.{Call, about}
use Rattle.rules.specs.Levels.{Limits}
use Rattle.rules.specs.Questions.{Question, after, first_of, refusal}
use Rattle.book_format.specs.Book.{book_of}
use Rattle.book_format.specs.Questions.{about_bytes, book_number}
use Rattle.log_format.specs.Fits.{about_log, log_number}
use Rattle.log_format.specs.Log.{entries_of}
use Rattle.log_format.specs.Noted.{has_entry, lastly, room}
use Rattle.store.specs.Store.{store_number}
use Rattle.requests.specs.Logged.{AskedInOrder}
use Rattle.requests.specs.Request.{Lines, Setting, about_lines, about_setting, as_bytes, logged_after, opening, opening_in, opening_lines, opening_with, opening_with_in, refused_given, withdrawal_after}
use Rattle.laws.proofs.Refusals.{after-append, after_nonzero, refusal-append}

module _ (g : Setting) (s : List ℕ) where
  -- the store's after some questions
  store_after : (qs : List Question) → opening (refusal qs) g s ≡ refusal (qs ++ about_setting g (book_of s))
  unfolding opening_in store_number about_setting
  store_after qs = sym (refusal-append qs (about_setting g (book_of s)))

  log_after : (qs : List Question) (log : Option (List ℕ)) → opening_with (refusal qs) g log s ≡ refusal ((qs ++ about_setting g (book_of s)) ++ about_log log s)
  unfolding opening_with_in log_number
  log_after qs log =
      ap (λ (n : ℕ). first_of n (refusal (about_log log s))) (store_after qs) ∙ sym (refusal-append (qs ++ about_setting g (book_of s)) (about_log log s))

of_lists : (g : Setting) (log : Option (List ℕ)) (v : Lines) (s : List ℕ)
    → opening_with (opening_lines (book_number s) v) g log s ≡ refusal (((about_bytes s ++ about_lines v) ++ about_setting g (book_of s)) ++ about_log log s)
unfolding opening_lines book_number
of_lists g log v s =
    ap (λ (n : ℕ). opening_with n g log s) (sym (refusal-append (about_bytes s) (about_lines v))) ∙ log_after g s (about_bytes s ++ about_lines v) log

of_own : (limits : Limits) (l s : List ℕ) (c : Call) → (refusal (about limits (book_of s) c) ≡ 0 → ⊥)
    → logged_after as_bytes 0 limits l s c ≡ refused_given (some l) s (refusal (about limits (book_of s) c))
unfolding logged_after after
of_own limits l s c h = after-append (about limits (book_of s) c) (lastly (room l) c) _ _ ∙ after_nonzero _ _ h

of_none : (l s : List ℕ) → entries_of s l ≡ [] → withdrawal_after as_bytes 0 l s ≡ refused_given (some l) s 18
unfolding withdrawal_after after refusal has_entry
of_none l s e = rw e

pub asked_in_order : AskedInOrder
unfolding book_number
asked_in_order =
    record {
      opening_of_calls = λ g log s. log_after g s (about_bytes s) log;
      opening_of_lists = of_lists;
      own_first = of_own;
      no_entry = of_none;
    }
