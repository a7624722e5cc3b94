-- What a party's query, its flag and its trades give, from what asked their opening questions and the contract of the inner function. Assumes nothing.
use Rattle.base.specs.Basics.{◌≡◌, ◌∙◌, ap, refl, List, ℕ, suc, zero}
use Rattle.rules.specs.Levels.{Limits}
use Rattle.rules.specs.Queries.{Query, only_number, reply_after}
use Rattle.rules.specs.Questions.{after}
use Rattle.book_format.specs.Book.{book_of}
use Rattle.requests.specs.Carried.{Admitted}
use Rattle.requests.specs.Request.{Setting, enquiry_after, limits_on}
use Rattle.rights.proofs.Entered.{enquiry_stopped}
use Rattle.rights.specs.Acting.{enquiry_by, entering_number}
use Rattle.rights.specs.Party.{Party, matter_of}
use Rattle.rights.specs.Trades.{Asking, told_after, told_in}

-- ---- a query

reply_same : (n : ℕ) {l m : Limits} (s : List ℕ) (q : Query) → (n ≡ 0 → l ≡ m) → reply_after n l (book_of s) q ≡ reply_after n m (book_of s) q
unfolding reply_after after
reply_same zero s q h = ap (λ (k : Limits). reply_after 0 k (book_of s) q) (h refl)
reply_same (suc n) s q h = refl

pub replied_by : (q : Query) {n : ℕ} {g : Setting} {s : List ℕ} {number : ℕ} {limits : Limits} → Admitted n g s number limits → reply_after number limits (book_of s) q ≡ enquiry_after n g s q
unfolding enquiry_after
replied_by q {g = g} {s} {number} d = reply_same number s q d.taken ∙ ap (λ (k : ℕ). reply_after k (limits_on g (book_of s)) (book_of s) q) d.asked

-- a refusal by the questions up to 26: the number alone
pub stopped_enquiry : (actor : Party) (g : Setting) (s : List ℕ) (q : Query) (n : ℕ) → entering_number actor (matter_of q) s ≡ suc n → enquiry_by actor g s q ≡ only_number (suc n)
stopped_enquiry actor g s q n e = ap (λ (k : ℕ). enquiry_after k g s q) e ∙ enquiry_stopped g s q n

-- ---- flag and trades

told_same : (n : ℕ) {l m : Limits} (s : List ℕ) (a : Asking) → (n ≡ 0 → l ≡ m) → told_after n l s a ≡ told_after n m s a
unfolding told_after after
told_same zero s a h = ap (λ (k : Limits). told_after 0 k s a) (h refl)
told_same (suc n) s a h = refl

pub told_by_lem : (a : Asking) {n : ℕ} {g : Setting} {s : List ℕ} {number : ℕ} {limits : Limits} → Admitted n g s number limits → told_after number limits s a ≡ told_in n g s a
unfolding told_in
told_by_lem a {g = g} {s} {number} d = told_same number s a d.taken ∙ ap (λ (k : ℕ). told_after k (limits_on g (book_of s)) s a) d.asked
