-- Acts with a lent log, given or not, after the questions of the book, and 26, whose number is n; a lent log that is not given changes nothing. What the public functions stand on.
-- Assumes nothing.
use Rattle.base.specs.Basics.{◌≡◌, ◌∙◌, ap, refl, sym, Option, none, some, List, [], ◌∷◌, ◌++◌, ℕ, suc, zero, ℤ}
use Rattle.rules.specs.Calls.{Answer, Call, about}
use Rattle.rules.specs.Levels.{Limits}
use Rattle.rules.specs.Questions.{after, refusal}
use Rattle.book_format.specs.After.{CalledAfter}
use Rattle.book_format.specs.Book.{book_of}
use Rattle.log_format.specs.Fits.{about_log, log_number}
use Rattle.log_format.specs.Log.{entries_of}
use Rattle.log_format.specs.Noted.{Entered, call_entered, has_entry, lastly, room, withdrawal_entered}
use Rattle.requests.proofs.Opened.{carried}
use Rattle.requests.specs.Logged.{AdmittedWith, GivesLogged, LoggedAfter, lent_log}
use Rattle.requests.specs.Request.{call, postings, withdrawal, Act, Outcome, Request, Setting, act_by, act_in, act_with, as_bytes, emptied_in, entered_in, limits_on, lines_in}
use Rattle.requests.specs.Request.{logged_after, opening, opening_lines, opening_with, opening_with_in, outcome, refused_given, request_after, request_in, withdrawal_after}
use Rattle.laws.proofs.Refusals.{first_alone}

-- an act in a setting, with a log or none
abbrev pub act_lent : Setting → Option (List ℕ) → Act → Request
act_lent g log a = record { setting = g; log = log; act = a }

-- ---- the opening questions

-- without a log nothing more is asked
pub without_number : (n : ℕ) (g : Setting) (s : List ℕ) → opening_with n g none s ≡ opening n g s
unfolding opening_with_in log_number about_log refusal after
without_number n g s = first_alone (opening n g s)

-- ---- the log afterwards

pub lines_log : (g : Setting) (t xs ys : List ℕ) (zs : List ℤ) → (lines_in as_bytes g t xs ys zs).log ≡ none
unfolding lines_in
lines_log g t [] ys zs = refl
lines_log g t (x ∷ xs) [] zs = refl
lines_log g t (x ∷ xs) (y ∷ ys) [] = refl
lines_log g t (x ∷ xs) (y ∷ ys) (z ∷ zs) = refl

-- there is none where none is given,
pub without_log : (n : ℕ) (g : Setting) (s : List ℕ) (a : Act) → (request_after n (act_lent g none a) s).log ≡ none
unfolding request_in act_by act_in refused_given outcome after
without_log n g s (call c) = refl
without_log n g s (postings v) = go (opening (opening_lines n v) g s)
  where
    go : (k : ℕ) → (after k (refused_given none s) (lines_in as_bytes g s v.ids v.areas v.amounts)).log ≡ none
    go zero = lines_log g s v.ids v.areas v.amounts
    go (suc k) = refl
without_log n g s withdrawal = refl

-- and one where one is given
pub with_log : (n : ℕ) (g : Setting) (l s : List ℕ) (a : Act) (m : List ℕ) → (request_after n (act_lent g (some l) a) s).log ≡ some (lent_log (request_after n (act_lent g (some l) a) s).log m)
unfolding request_in act_by act_with logged_after withdrawal_after lent_log after refused_given entered_in emptied_in
with_log n g l s a m = of_act a
  where
    entered : (k i : ℕ) (e : Entered) → let r = after k (refused_given (some l) s) (after i (refused_given (some l) s) (entered_in as_bytes e)) in r.log ≡ some (lent_log r.log m)
    entered zero zero e = refl
    entered zero (suc i) e = refl
    entered (suc k) i e = refl

    listed : (k : ℕ) (o : Outcome (List ℕ)) → let r = after k (refused_given (some l) s) (emptied_in as_bytes o) in r.log ≡ some (lent_log r.log m)
    listed zero o = refl
    listed (suc k) o = refl

    of_act : (a : Act) → (request_after n (act_lent g (some l) a) s).log ≡ some (lent_log (request_after n (act_lent g (some l) a) s).log m)
    of_act (call c) =
        let b = book_of s in
        let limits = limits_on g b in
        entered (opening_with n g (some l) s) (refusal (about limits b c ++ lastly (room l) c)) (call_entered limits (room l) (entries_of s l) b c)
    of_act (postings v) = listed (opening_with (opening_lines n v) g (some l) s) (lines_in as_bytes g s v.ids v.areas v.amounts)
    of_act withdrawal = entered (opening_with n g (some l) s) (refusal (has_entry (entries_of s l) ∷ [])) (withdrawal_entered (entries_of s l) (book_of s))

-- ---- the public functions

-- a refused call gives the same whatever the figures
logged_same : (n : ℕ) {x y : Limits} (l s : List ℕ) (c : Call) → (n ≡ 0 → x ≡ y) → logged_after as_bytes n x l s c ≡ logged_after as_bytes n y l s c
unfolding logged_after after
logged_same zero l s c h = ap (λ (k : Limits). logged_after as_bytes 0 k l s c) (h refl)
logged_same (suc n) l s c h = refl

-- an outcome that has a log
gives_lent : {n : ℕ} {r : Request} {s : List ℕ} {o : Outcome (List ℕ)} {a : Answer} {t l m : List ℕ} → o ≡ request_after n r s → GivesLogged o a t m → LoggedAfter n r s a t l m
unfolding lent_log
gives_lent {l = l} e k =
    record {
      carried = record { answer = k.answer ∙ ap (λ (o : Outcome (List ℕ)). o.answer) e; bytes = k.bytes ∙ ap (λ (o : Outcome (List ℕ)). o.book) e };
      log = ap (λ (o : Option (List ℕ)). lent_log o l) (k.log ∙ ap (λ (o : Outcome (List ℕ)). o.log) e);
    }

module _ {n : ℕ} {g : Setting} {s : List ℕ} {number : ℕ} where
  -- a call with a log, from its outcome after its opening questions
  pub logged_call : {l : List ℕ} {limits : Limits} {c : Call} {a : Answer} {t m : List ℕ} → AdmittedWith n g (some l) s number limits
      → GivesLogged (logged_after as_bytes number limits l s c) a t m → LoggedAfter n (act_lent g (some l) (call c)) s a t l m
  unfolding request_in act_by act_with
  logged_call {l} {c = c} d k =
      gives_lent (logged_same number l s c d.taken ∙ ap (λ (m : ℕ). logged_after as_bytes m (limits_on g (book_of s)) l s c) d.asked) k

  -- a withdrawal, from its outcome
  pub logged_withdrawal : {l : List ℕ} {a : Answer} {t m : List ℕ} → number ≡ opening_with n g (some l) s
      → GivesLogged (withdrawal_after as_bytes number l s) a t m → LoggedAfter n (act_lent g (some l) withdrawal) s a t l m
  unfolding request_in act_by act_with
  logged_withdrawal {l} d k = gives_lent (ap (λ (m : ℕ). withdrawal_after as_bytes m l s) d) k

  -- a call that is given no log: what is lent stays
  pub logged_without : {limits : Limits} {c : Call} {a : Answer} {t l : List ℕ} → AdmittedWith n g none s number limits → CalledAfter number limits s c a t
      → LoggedAfter n (act_lent g none (call c)) s a t l l
  unfolding lent_log
  logged_without {c = c} {l = l} d k =
      record {
        carried = carried (record { asked = d.asked ∙ without_number n g s; taken = d.taken }) k;
        log = ap (λ (o : Option (List ℕ)). lent_log o l) (sym (without_log n g s (call c)));
      }
