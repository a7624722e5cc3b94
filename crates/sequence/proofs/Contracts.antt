-- The contracts of the public functions give links, as specs/Contracts.antt states it: calls and withdrawals have no lines, the places beside a list hold its lines' numbers
-- where it is accepted, a refused list has none; and a lent log afterwards is the one that the request leaves. Assumes nothing.
use Rattle.base.specs.Basics.{◌≡◌, ◌∙◌, ap, refl, sym, Bool, false, true, Option, none, some, List, [], ◌∷◌, ◌++◌, ℕ, suc, zero, arith, length}
use Rattle.book_format.specs.Book.{book_of}
use Rattle.book_format.specs.Questions.{book_number}
use Rattle.log_format.specs.Log.{entries_of}
use Rattle.log_format.specs.Noted.{Entered, call_entered, has_entry, lastly, room, withdrawal_entered}
use Rattle.requests.proofs.Lines.{lines_answer}
use Rattle.requests.proofs.Logged.{act_lent, with_log, without_log}
use Rattle.requests.specs.Logged.{lent_log}
use Rattle.requests.specs.Request.{call, postings, withdrawal, Act, Lines, Outcome, Setting, act_by, act_in, act_with, as_bytes, emptied_in, entered_in, limits_on, lines_in, lines_of, outcome}
use Rattle.requests.specs.Request.{logged_after, opening, opening_lines, opening_with, refused_given, request_after, request_in, setting_of, withdrawal_after}
use Rattle.rules.specs.Calls.{Answer, Call, about, only}
use Rattle.rules.specs.Questions.{after, refusal}
use Rattle.store.specs.Store.{given}
use Rattle.sequence.specs.ContractLinks.{ContractsLink, call_link, list_link, withdrawal_link}
use Rattle.sequence.specs.Links.{then}

-- ---- numbers of lines: of requests after the questions of the book, and 26, whose number is n

-- what the rules give with a log and a refusal have none
entered_numbers : (k m : ℕ) (l s : List ℕ) (e : Entered) → [] ≡ (after k (refused_given (some l) s) (after m (refused_given (some l) s) (entered_in as_bytes e))).numbers
unfolding after refused_given entered_in
entered_numbers zero zero l s e = refl
entered_numbers zero (suc m) l s e = refl
entered_numbers (suc k) m l s e = refl

-- so a call has none,
pub call_numbers_lem : (n : ℕ) (g : Setting) (log : Option (List ℕ)) (s : List ℕ) (c : Call) → [] ≡ (request_after n (act_lent g log (call c)) s).numbers
unfolding request_in act_by act_in act_with outcome logged_after
call_numbers_lem n g none s c = refl
call_numbers_lem n g (some l) s c =
    let b = book_of s in
    let limits = limits_on g b in
    entered_numbers (opening_with n g (some l) s) (refusal (about limits b c ++ lastly (room l) c)) l s (call_entered limits (room l) (entries_of s l) b c)

-- nor has a withdrawal
pub withdrawal_numbers_lem : (n : ℕ) (g : Setting) (l s : List ℕ) → [] ≡ (request_after n (act_lent g (some l) withdrawal) s).numbers
unfolding request_in act_by act_with withdrawal_after
withdrawal_numbers_lem n g l s = entered_numbers (opening_with n g (some l) s) (refusal (has_entry (entries_of s l) ∷ [])) l s (withdrawal_entered (entries_of s l) (book_of s))

-- a refused list has none
pub refused_numbers : (n : ℕ) (g : Setting) (log : Option (List ℕ)) (s : List ℕ) (v : Lines) (m : ℕ) → (request_after n (act_lent g log (postings v)) s).answer ≡ only (suc m)
    → [] ≡ (request_after n (act_lent g log (postings v)) s).numbers
unfolding request_in act_by act_in act_with after refused_given emptied_in only
refused_numbers n g log s v m = of_log log
  where
    by_number : (kept : Option (List ℕ)) (x : Outcome (List ℕ)) → x.answer ≡ only 0 → (k : ℕ) → (after k (refused_given kept s) x).answer ≡ only (suc m) → [] ≡ (after k (refused_given kept s) x).numbers
    by_number kept x z zero e = absurd (let i : ◌≡◌ {A = ℕ} 0 (suc m) = ap (λ (a : Answer). a.number) (sym z ∙ e) in omega arith)
    by_number kept x z (suc k) e = refl

    zero_answer : (lines_in as_bytes g s v.ids v.areas v.amounts).answer ≡ only 0
    zero_answer = lines_answer g s v.ids v.areas v.amounts

    of_log : (log : Option (List ℕ)) → (request_after n (act_lent g log (postings v)) s).answer ≡ only (suc m) → [] ≡ (request_after n (act_lent g log (postings v)) s).numbers
    of_log none e = by_number none (lines_in as_bytes g s v.ids v.areas v.amounts) zero_answer (opening (opening_lines n v) g s) e
    of_log (some l) e = by_number (some l) (emptied_in as_bytes (lines_in as_bytes g s v.ids v.areas v.amounts)) zero_answer (opening_with (opening_lines n v) g (some l) s) e

-- what the places of a list hold, by the number that it returned
pub list_numbers : (n : ℕ) (g : Setting) (log : Option (List ℕ)) (s : List ℕ) (v : Lines) (number : ℕ) (places : List ℕ) {left : List ℕ} → let r = request_after n (act_lent g log (postings v)) s in
    only number ≡ r.answer → left ≡ after number (λ k. places) r.numbers → after number (λ k. []) left ≡ r.numbers
unfolding after
list_numbers n g log s v zero places a p = p
list_numbers n g log s v (suc m) places a p = refused_numbers n g log s v m (sym a)

-- ---- the log afterwards

pub log_left : (n : ℕ) (g : Setting) (lent : Bool) (s : List ℕ) (a : Act) (l : List ℕ) {m : List ℕ} → let r = request_after n (act_lent g (given lent l) a) s in m ≡ lent_log r.log l → given lent m ≡ r.log
unfolding given
log_left n g true s a l k = ap some k ∙ sym (with_log n g l s a l)
log_left n g false s a l k = sym (without_log n g s a)

-- ---- links

pub contracts_link : (store : Option (List ℕ)) → ContractsLink store
unfolding call_link withdrawal_link list_link given
contracts_link store =
    let g = setting_of store in
    record {
      carried_links = λ {s} {t} {u} {l} {m} {c} {a} {ls} lent k rest.
          then refl refl k.carried (call_numbers_lem (book_number s) g (given lent l) s c) (log_left (book_number s) g lent s (call c) l k.log) rest;
      withdrawn_links = λ {s} {t} {u} {l} {m} {a} {ls} k rest.
          then refl refl k.carried (withdrawal_numbers_lem (book_number s) g l s) (log_left (book_number s) g true s withdrawal l k.log) rest;
      posted_links = λ {s} {t} {u} {ids} {areas} {places} {left} {l} {m} {amounts} {number} {ls} lent p rest.
          let v = lines_of ids areas amounts (length places) in
          then refl refl p.logged.carried (list_numbers (book_number s) g (given lent l) s v number places p.logged.carried.answer p.beside)
          (log_left (book_number s) g lent s (postings v) l p.logged.log) rest;
    }
