-- A whole cancellation after its opening questions, and what is claimed of an accepted one. Assumes nothing.
use Rattle.base.specs.Basics.{◌≡◌, ◌∙◌, ap, refl, subst, sym, Bool, List, ℕ, suc, zero, ◌-◌, ◌≤◌, arith, T, leb, leb→le}
use Rattle.laws.proofs.Refusals.{append_yes, first_yes}
use Rattle.base.proofs.Tests.{and_l}
use Rattle.rules.specs.Book.{Book, User, find}
use Rattle.rules.specs.Calls.{about, reduction}
use Rattle.rules.specs.Levels.{Limits}
use Rattle.rules.specs.Questions.{Question, after, refusal}
use Rattle.rules.specs.Reduction.{eligible, target}
use Rattle.book_format.specs.Book.{book_of}
use Rattle.book_format.specs.Questions.{book_number}
use Rattle.cut_sets.specs.Places.{marks_at, set_number, worth_in}
use Rattle.cut_sets.proofs.Places.{place_claim, place_more_tries}
use Rattle.cut_sets.proofs.Reading.{every_set}
use Rattle.requests.specs.Cancellation.{Cancellation, CancellationClaim, CancelledSet, CancelledSetClaim, Cancels, MoreTries, about_cancellation, cancellation, cancellation_after, cancellation_in, cancelled, cancelled_for, marks_of, not_cancelled, search_for}
use Rattle.requests.specs.Cancellation.{set_worth, tries_in_range, whole_worth, worth_suffices}
use Rattle.requests.specs.Carried.{Admitted}
use Rattle.requests.specs.Request.{Setting, limits_on, opening}

-- ---- after the opening questions

-- a refused one gives the same whatever the figures
cancellation_same : (n : ℕ) {l m : Limits} (s : List ℕ) (id tries : ℕ) → (n ≡ 0 → l ≡ m) → cancellation_after n l s id tries ≡ cancellation_after n m s id tries
unfolding cancellation_after after
cancellation_same zero s id tries h = ap (λ (k : Limits). cancellation_after 0 k s id tries) (h refl)
cancellation_same (suc n) s id tries h = refl

-- a public call, from what asked its opening questions and the contract of the inner call
pub cancellation_opened : {n : ℕ} {g : Setting} {s : List ℕ} (id tries : ℕ) {number : ℕ} {limits : Limits} → Admitted n g s number limits → cancellation_after number limits s id tries ≡ cancellation_in n g s id tries
unfolding cancellation_in
cancellation_opened {g = g} {s} id tries {number} d = cancellation_same number s id tries d.taken ∙ ap (λ (k : ℕ). cancellation_after k (limits_on g (book_of s)) s id tries) d.asked

-- ---- an accepted one

module _ (g : Setting) (s : List ℕ) (id tries : ℕ) where
  abbrev limits : Limits
  limits = limits_on g (book_of s)

  own : List Question
  own = about_cancellation limits (book_of s) id tries

  -- no question refuses it
  none_refuses : (k : ℕ) → (cancellation_after k limits s id tries).number ≡ 0 → (k ≡ 0) × (refusal own ≡ 0)
  unfolding cancellation_after after own not_cancelled
  none_refuses zero h = (refl, go (refusal own) h)
    where
      go : (n : ℕ) → (after n not_cancelled (cancelled limits (book_of s) (find (book_of s).users id) tries)).number ≡ 0 → n ≡ 0
      go zero k = refl
      go (suc n) k = absurd (omega (arith, k))
  none_refuses (suc k) h = absurd (omega (arith, h))

  module _ (h : (cancellation g s id tries).number ≡ 0) where
    passes : (opening (book_number s) g s ≡ 0) × (refusal own ≡ 0)
    unfolding cancellation_in
    passes = none_refuses (opening (book_number s) g s) h

    accepted_is : cancellation g s id tries ≡ cancelled limits (book_of s) (find (book_of s).users id) tries
    unfolding cancellation_in cancellation_after after own
    accepted_is = rw (passes.0, passes.1)

    own_none : refusal (about_cancellation limits (book_of s) id tries) ≡ 0
    unfolding own
    own_none = passes.1

    some_tries : 1 ≤ tries
    unfolding about_cancellation tries_in_range
    some_tries = leb→le 1 tries (and_l (leb 1 tries) (leb tries 65535) (first_yes _ _ own_none tt).0)

    reached : T (worth_suffices (book_of s) (find (book_of s).users id) (target limits (book_of s) (find (book_of s).users id))).holds
    unfolding about_cancellation tries_in_range worth_suffices
    reached = (first_yes _ _ (append_yes (about limits (book_of s) (reduction id)) _ (first_yes _ _ own_none tt).1).1 tt).0

pub cancellation_claim : CancellationClaim
unfolding cancelled cancelled_for search_for worth_suffices
cancellation_claim g s id tries h =
    let b = book_of s in
    let u = find b.users id in
    let l = limits_on g b in
    subst (λ (a : Cancellation). Cancels l b u tries a) (sym (accepted_is g s id tries h))
    (record {
      set = (search_for b u (target l b u) tries).choice.set;
      marked = refl;
      claim = place_claim (eligible b u) (whole_worth b) b.trades (target l b u) tries (leb→le _ _ (reached g s id tries h)) (some_tries g s id tries h);
    })

-- every set is one of the numbers that are claimed of
set_told : {limits : Limits} {b : Book} {u : User} {tries : ℕ} {a : Cancellation} → Cancels limits b u tries a → CancelledSet limits b u a
unfolding marks_of set_worth worth_in
set_told {limits} {b} {u} {tries} {a} c =
    let sets = every_set (eligible b u) b.trades in
    record {
      own = marks_at (eligible b u) b.trades c.set;
      marked = c.marked;
      among = sets.set c.set;
      reaches = c.claim.reaches;
      least =
          λ complete other h.
          subst (λ (marks : List Bool). target limits b u ≤ set_worth b marks → a.excess ≤ set_worth b marks - target limits b u) (sets.told other h)
          (c.claim.least complete (set_number (eligible b u) b.trades other) (sets.inside other h));
    }

pub cancelled_set_claim : CancelledSetClaim
cancelled_set_claim g s id tries h = set_told (cancellation_claim g s id tries h)

pub more_tries_claim : MoreTries
unfolding cancelled cancelled_for search_for
more_tries_claim g s id tries more h k l =
    let b = book_of s in
    let u = find b.users id in
    rw (accepted_is g s id tries k, accepted_is g s id more l) (place_more_tries (eligible b u) (whole_worth b) b.trades (target (limits_on g b) b u) tries more h)
