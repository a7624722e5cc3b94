-- A request without a store is the call of document 01: its opening questions are those of the book alone, and its figures are today's. Assumes nothing.
use Rattle.base.specs.Basics.{◌≡◌, ◌∙◌, ap, refl, sym, none, List, [], ◌++◌, ℕ, suc, zero, drop, take}
use Rattle.laws.proofs.Refusals.{after-append, first_alone}
use Rattle.rules.specs.Calls.{Call, about, call_after, effect, result_in, unchanged}
use Rattle.rules.specs.Levels.{today}
use Rattle.rules.specs.Queries.{Query, Reply, a_record, about_query, found, only_number, reply_after, shown_record}
use Rattle.rules.specs.Questions.{after, refusal}
use Rattle.book_format.specs.Book.{book_of, place_of_user, size_of_user, version_of}
use Rattle.book_format.specs.Questions.{about_bytes, book_number}
use Rattle.book_format.specs.Steps.{in_bytes, place_of}
use Rattle.store.specs.Store.{about_store, limits_of, store_number}
use Rattle.requests.specs.Carried.{part_shown}
use Rattle.requests.specs.Request.{Setting, act_by, act_in, enquiry, enquiry_after, limits_on, opening, opening_in, outcome, request, request_in, request_of, step_in}

-- the setting of a call of document 01
unfoldable pub alone : Setting
alone = record { store = none }

-- nothing is asked but the questions of the book
opening-alone : (s : List ℕ) → opening (book_number s) alone s ≡ book_number s
unfolding opening_in store_number about_store alone refusal after
opening-alone s = first_alone (book_number s)

-- ---- calls

-- a request without a store and a log is the call of document 01: its own questions are asked after those of the book
pub plain_request : (s : List ℕ) (c : Call)
    → request (request_of none c) s ≡ outcome (after (refusal (about_bytes s ++ about today (book_of s) c)) (unchanged s) (result_in in_bytes (effect today (book_of s) c)))
unfolding request_in act_by act_in step_in call_after limits_on limits_of alone book_number
plain_request s c =
    ap (λ (n : ℕ). outcome (call_after in_bytes n today s c)) (opening-alone s)
    ∙ ap outcome (sym (after-append (about_bytes s) (about today (book_of s) c) (unchanged s) (result_in in_bytes (effect today (book_of s) c))))

-- ---- queries

pub plain_reply : (s : List ℕ) (q : Query) → enquiry alone s q ≡ after (refusal (about_bytes s ++ about_query (book_of s) q)) only_number (found today (book_of s) q)
unfolding enquiry_after reply_after limits_on limits_of alone book_number
plain_reply s q =
    ap (λ (n : ℕ). reply_after n today (book_of s) q) (opening-alone s)
    ∙ sym (after-append (about_bytes s) (about_query (book_of s) q) only_number (found today (book_of s) q))

-- a shown record: the user's bytes, "an empty part where a part is due"
pub plain_part : (s : List ℕ) (id : ℕ) → part_shown (enquiry alone s (shown_record id)).number s id
    ≡ after (refusal (about_bytes s ++ about_query (book_of s) (shown_record id))) (λ n. []) (take (size_of_user (version_of s)) (drop (place_of_user s (place_of (book_of s).users id)) s))
unfolding part_shown only_number found a_record after
plain_part s id =
    ap (λ (r : Reply). part_shown r.number s id) (plain_reply s (shown_record id)) ∙ go (refusal (about_bytes s ++ about_query (book_of s) (shown_record id)))
  where
    record_part : List ℕ
    record_part = take (size_of_user (version_of s)) (drop (place_of_user s (place_of (book_of s).users id)) s)

    go : (n : ℕ) → after (after n only_number (found today (book_of s) (shown_record id))).number (λ k. []) record_part ≡ after n (λ k. []) record_part
    go zero = refl
    go (suc n) = refl
