-- The ways out of a whole cancellation: refused by the opening questions, by 25, by 8, by a question on the user's level, by 14 or by 24, or done. Assumes nothing.
use Rattle.base.specs.Basics.{◌≡◌, refl, sym, ap, ◌∙◌, ◌⊎◌, inl, inr, Bool, true, false, cond, ◌||◌, List, [], ◌∷◌, ◌++◌, ℕ, zero, suc, ◌+◌, ◌^◌, ◌≤◌}
use Rattle.base.specs.Basics.{◌<◌, arith, get_or, take, le-leb, lt-leb}
use Rattle.call_questions.proofs.Asked.{level_passed, level_refused}
use Rattle.call_questions.specs.Asked.{ShortfallOf, level_questions}
use Rattle.cut_sets.proofs.Places.{place_search_lem, worths_sum}
use Rattle.cut_sets.specs.Found.{Answered, search_of}
use Rattle.cut_sets.specs.Places.{count_of}
use Rattle.cut_sets.specs.Search.{Search, whole_search}
use Rattle.cut_sets.specs.declared.Found.{Found}
use Rattle.call_entry.proofs.Asked.{entry_found, entry_refused}
use Rattle.call_entry.specs.Entered as entered
use Rattle.book_format.proofs.OneUser.{find_place}
use Rattle.book_format.specs.Book.{book_of, users_of}
use Rattle.base.specs.Sums.{sum}
use Rattle.requests.specs.Cancellation.{about_cancellation, cancellation_after, cancelled, cancelled_for, marks_of, not_cancelled, search_for, tries_in_range, whole_worth, worth_suffices}
use Rattle.rules.specs.Book.{Book, User, find, nobody}
use Rattle.rules.specs.Calls.{about, eligible_trade, id_known}
use Rattle.rules.specs.Levels.{Limits}
use Rattle.base.specs.Lists.{any}
use Rattle.rules.specs.Questions.{Question, after, first_of, refusal}
use Rattle.rules.specs.Reduction.{eligible, has_eligible, target}
use Rattle.call_cancellation.specs.Call.{on_sales, on_user}
use Rattle.call_cancellation.specs.Sales.{Worths, unmarked}
use Rattle.laws.proofs.Refusals.{after-append, after_first, after_nonzero}

-- ---- the user's eligible trades

module _ {A : Type 0} (p : A → Bool) where
  none_pass : (ts : List A) → count_of p ts ≡ 0 → any p ts ≡ false
  unfolding count_of sum any
  none_pass [] h = refl
  none_pass (t ∷ ts) h = go (p t) h (none_pass ts)
    where
      go : (e : Bool) → cond e 1 0 + count_of p ts ≡ 0 → (count_of p ts ≡ 0 → any p ts ≡ false) → (e || any p ts) ≡ false
      go true k ih = absurd (omega arith)
      go false k ih = ih (omega arith)

  some_pass : (ts : List A) → 0 < count_of p ts → any p ts ≡ true
  unfolding count_of sum any
  some_pass [] h = absurd (omega arith)
  some_pass (t ∷ ts) h = go (p t) h (some_pass ts)
    where
      go : (e : Bool) → 0 < cond e 1 0 + count_of p ts → (0 < count_of p ts → any p ts ≡ true) → (e || any p ts) ≡ true
      go true k ih = refl
      go false k ih = ih (omega arith)

module _ {b : Book} {u : User} {k : ℕ} {worths : List ℕ} (w : Worths b u k worths) (asked tries : ℕ) where
  -- 14 refuses who has none
  pub sales_none : k ≡ 0 → on_sales b u asked tries ≡ not_cancelled 14
  unfolding on_sales eligible_trade has_eligible refusal after
  sales_none e = rw (none_pass (eligible b u) b.trades (sym w.count_is ∙ e))

  module _ (some : k ≡ 0 → ⊥) {together : ℕ} (t : together ≡ sum (λ x. x) (take k worths)) where
    has_some : has_eligible b u ≡ true
    unfolding has_eligible
    has_some = some_pass (eligible b u) b.trades (above (count_of (eligible b u) b.trades) (λ e. some (w.count_is ∙ e)))
      where
        above : (n : ℕ) → (n ≡ 0 → ⊥) → 0 < n
        above zero h = absurd (h refl)
        above (suc n) h = omega arith

    together_is : together ≡ sum (λ x. cond (eligible b u x) (whole_worth b x) 0) b.trades
    together_is = t ∙ ap (sum (λ x. x)) w.worths_are ∙ worths_sum (eligible b u) (whole_worth b) b.trades

    -- 24 whose are worth less than the target
    pub sales_short : together < asked → on_sales b u asked tries ≡ not_cancelled 24
    unfolding on_sales eligible_trade worth_suffices refusal after
    sales_short l = rw (has_some, lt-leb asked (sum (λ x. cond (eligible b u x) (whole_worth b x) 0) b.trades) (omega (arith, together_is)))

    -- else what the search finds is cancelled
    pub sales_found : asked ≤ together → {r : Found} {marks : List Bool} → Answered (2 ^ k) asked tries (take k worths) r → marks ≡ unmarked b u r.left
        → record { number = 0; marks = marks; excess = r.excess; tries = r.tries; complete = r.complete } ≡ on_sales b u asked tries
    unfolding on_sales eligible_trade worth_suffices refusal after cancelled_for search_for search_of
    sales_found l {r} {marks} a e =
        let reach = le-leb asked (sum (λ x. cond (eligible b u x) (whole_worth b x) 0) b.trades) (omega (arith, together_is)) in
        let found : search_of (2 ^ count_of (eligible b u) b.trades) r ≡ search_for b u asked tries =
        ap (λ (n : ℕ). search_of (2 ^ n) r) (sym w.count_is) ∙ a.search_is ∙ ap (λ (ws : List ℕ). whole_search ws asked tries) w.worths_are
        ∙ sym (place_search_lem (eligible b u) (whole_worth b) b.trades asked tries) in
        rw (has_some, reach, e)
        (ap (λ (x : Search). record { number = 0; marks = marks_of b u x.choice.set; excess = x.choice.excess; tries = x.tries; complete = x.complete }) found)

-- ---- the user at a place

module _ (limits : Limits) (b : Book) (u : User) (tries : ℕ) where
  -- refused by 9, 11 or 13
  pub user_refused : {n asked : ℕ} → ShortfallOf limits b u n asked → (n ≡ 0 → ⊥) → on_user limits b u tries ≡ not_cancelled n
  unfolding on_user
  user_refused q h = rw (level_refused limits b u (eligible_trade b u ∷ (worth_suffices b u (target limits b u) ∷ [])) q h) (after_nonzero not_cancelled (cancelled limits b u tries) h)

  -- or 14 and 24 are asked, for the user's target
  pub user_asked : {n asked : ℕ} → ShortfallOf limits b u n asked → n ≡ 0 → on_user limits b u tries ≡ on_sales b u asked tries
  unfolding on_user on_sales cancelled
  user_asked q h = rw (level_passed limits b u (eligible_trade b u ∷ (worth_suffices b u (target limits b u) ∷ [])) q h, q.target_is h)

-- ---- the call

-- the number of the opening questions and of 25 after them
abbrev pub tries_asked : ℕ → ℕ → ℕ
tries_asked before tries = first_of before (refusal (tries_in_range tries ∷ []))

-- the numbers
pub tries_refused : (before tries : ℕ) → (before ≡ 0 → ⊥) → before ≡ tries_asked before tries
tries_refused before tries h = sym (after_nonzero (λ k. k) (refusal (tries_in_range tries ∷ [])) h)

module _ (tries : ℕ) where
  pub tries_outside : (tries < 1) ⊎ ((1 ≤ tries) × (65535 < tries)) → 25 ≡ tries_asked 0 tries
  unfolding after refusal tries_in_range
  tries_outside (inl h) = rw (lt-leb 1 tries h)
  tries_outside (inr h) = rw (le-leb 1 tries h.0, lt-leb tries 65535 h.1)

  pub tries_within : 1 ≤ tries → tries ≤ 65535 → 0 ≡ tries_asked 0 tries
  unfolding after refusal tries_in_range
  tries_within h k = rw (le-leb 1 tries h, le-leb tries 65535 k)

-- what is asked after them
after_tries : {R : Type 0} (f : ℕ → R) (x : R) (before tries : ℕ) (rest : List Question)
    → after before f (after (refusal (tries_in_range tries ∷ rest)) f x) ≡ after (tries_asked before tries) f (after (refusal rest) f x)
after_tries f x before tries rest =
    let first = tries_in_range tries ∷ [] in
    ap (after before f) (after-append first rest f x) ∙ sym (after_first before (refusal first) f (after (refusal rest) f x))

module _ (before : ℕ) (limits : Limits) (s : List ℕ) (id tries : ℕ) where
  abbrev user : User
  user = find (book_of s).users id

  -- what is asked after the entry
  rest : List Question
  rest = level_questions limits (book_of s) user ++ (eligible_trade (book_of s) user ∷ (worth_suffices (book_of s) user (target limits (book_of s) user) ∷ []))

  own : about_cancellation limits (book_of s) id tries ≡ tries_in_range tries ∷ (id_known (book_of s) id ∷ rest)
  unfolding about_cancellation about level_questions rest
  own = refl

  -- the call is what follows the entry
  entering : cancellation_after before limits s id tries
      ≡ after (tries_asked before tries) not_cancelled (after (refusal (id_known (book_of s) id ∷ rest)) not_cancelled (cancelled limits (book_of s) user tries))
  unfolding cancellation_after
  entering = rw own (after_tries not_cancelled (cancelled limits (book_of s) user tries) before tries (id_known (book_of s) id ∷ rest))

  pub call_unentered : {m n : ℕ} → m ≡ tries_asked before tries → n ≡ first_of m (refusal (id_known (book_of s) id ∷ [])) → (n ≡ 0 → ⊥) → cancellation_after before limits s id tries ≡ not_cancelled n
  call_unentered {m} {n} z e h =
      entering ∙ entry_refused s id rest not_cancelled (cancelled limits (book_of s) user tries) (tries_asked before tries) n (rw z at e) h

  -- the user that the entry found stands at the place
  pub call_entered_lem : {place : ℕ} → tries_asked before tries ≡ 0 → entered.Found s id place → cancellation_after before limits s id tries ≡ on_user limits (book_of s) (get_or (users_of s) place nobody) tries
  unfolding on_user book_of rest after
  call_entered_lem z f =
      entering ∙ rw (z, entry_found s id rest f)
      (ap (λ (v : User). on_user limits (book_of s) v tries) (find_place (users_of s) id ∙ ap (λ (i : ℕ). get_or (users_of s) i nobody) (sym f.stands)))
