-- Document 02, ask 8: a whole cancellation in its setting. It asks and changes no book; what it gives on a book in bytes, and what is claimed of it. Assumes nothing.
use Rattle.std.specs.Prelude.{◌≡◌, ◌&&◌, ◌∷◌, ◌++◌, ◌+◌, ◌*◌, ◌-◌, ◌^◌, ◌≤◌}
use Rattle.base.specs.Basics.{Bool, true, false, cond, List, [], map, ℕ, T, leb, length, replicate}
use Rattle.base.specs.Sums.{sum}
use Rattle.rules.specs.Areas.{tariff}
use Rattle.rules.specs.Book.{Book, Trade, User, find}
use Rattle.rules.specs.Calls.{about, reduction}
use Rattle.rules.specs.Levels.{Limits}
use Rattle.rules.specs.Questions.{Question, after, refusal}
use Rattle.rules.specs.Reduction.{eligible, target}
use Rattle.book_format.specs.Book.{book_of}
use Rattle.book_format.specs.Questions.{book_number}
use Rattle.cut_sets.specs.Sets.{marked_worth}
use Rattle.cut_sets.specs.Search.{Search}
use Rattle.cut_sets.specs.Places.{count_of, is_set, marks_at, place_search, worth_in}
use Rattle.cut_sets.specs.Claims.{Claim}
use Rattle.requests.specs.Request.{Setting, limits_on, opening}

-- ---- the answer

-- the number; "told as 256 marks by trade place, with that excess and the tries made. It says complete .."
pub record Cancellation : Type 0 where
  pub number : ℕ
  pub marks : List Bool
  pub excess : ℕ
  pub tries : ℕ
  pub complete : Bool

-- "A refusal returns the number with every other field 0"
unfoldable pub not_cancelled : ℕ → Cancellation
not_cancelled n = record { number = n; marks = replicate 256 false; excess = 0; tries = 0; complete = false }

-- ---- on a book

-- a whole trade's "worth at tariff"
unfoldable pub whole_worth : Book → Trade → ℕ
whole_worth b t = t.standing * tariff b.header.prices t.terms.area

-- a set's "worth at tariff", where it is told by one mark for each trade
unfoldable pub set_worth : Book → List Bool → ℕ
set_worth b marks = marked_worth marks (map (whole_worth b) b.trades)

-- "told as 256 marks by trade place": the marks of a set of the user's eligible trades, of both tiers; places past the trades have none
unfoldable pub marks_of : Book → User → ℕ → List Bool
marks_of b u m = marks_at (eligible b u) b.trades m ++ replicate (256 - length b.trades) false

-- 25: "a number of tries from 1 to 65,535"
unfoldable pub tries_in_range : ℕ → Question
tries_in_range tries = record { number = 25; holds = leb 1 tries && leb tries 65535 }

-- 24: "If all eligible trades together are worth less than T it is refused with 24"
unfoldable pub worth_suffices : Book → User → ℕ → Question
worth_suffices b u asked = record { number = 24; holds = leb asked (sum (λ t. cond (eligible b u t) (whole_worth b t) 0) b.trades) }

-- the search for "a set of whole eligible trades, from both tiers, whose worth at tariff is at least the target T"
unfoldable pub search_for : Book → User → ℕ → ℕ → Search
search_for b u asked tries = place_search (eligible b u) (whole_worth b) b.trades asked tries

-- "The answer is the tried set that reaches T with the smallest excess, the first such"
unfoldable pub cancelled_for : Book → User → ℕ → ℕ → Cancellation
cancelled_for b u asked tries =
    let s = search_for b u asked tries in
    record { number = 0; marks = marks_of b u s.choice.set; excess = s.choice.excess; tries = s.tries; complete = s.complete }

module _ (limits : Limits) (b : Book) where
  -- "The questions are a reduction's", 25 "asked after 17 and before question 8", 24 "asked last"
  unfoldable pub about_cancellation : ℕ → ℕ → List Question
  about_cancellation id tries =
      let u = find b.users id in
      tries_in_range tries ∷ (about limits b (reduction id) ++ (worth_suffices b u (target limits b u) ∷ []))

  -- for the user's target
  unfoldable pub cancelled : User → ℕ → Cancellation
  cancelled u tries = cancelled_for b u (target limits b u) tries

-- ---- on a book in bytes

-- after the opening questions, by their number
unfoldable pub cancellation_after : ℕ → Limits → List ℕ → ℕ → ℕ → Cancellation
cancellation_after number limits s id tries =
    let b = book_of s in
    after number not_cancelled (after (refusal (about_cancellation limits b id tries)) not_cancelled (cancelled limits b (find b.users id) tries))

-- in a setting: after the questions of the book, and 26 where a party is asked, whose number is n, the other opening questions, then its own by the figures of the setting
unfoldable pub cancellation_in : ℕ → Setting → List ℕ → ℕ → ℕ → Cancellation
cancellation_in n g s id tries = cancellation_after (opening n g s) (limits_on g (book_of s)) s id tries

abbrev pub cancellation : Setting → List ℕ → ℕ → ℕ → Cancellation
cancellation g s id tries = cancellation_in (book_number s) g s id tries

-- ---- what is claimed

-- "we want a set of whole eligible trades": an answer tells one, by its number, of which all holds that is claimed of a search for the user's target
pub record Cancels (limits : Limits) (b : Book) (u : User) (tries : ℕ) (a : Cancellation) : Type 0 where
  pub set : ℕ
  pub marked : a.marks ≡ marks_of b u set
  pub claim : Claim (worth_in (eligible b u) (whole_worth b) b.trades) (target limits b u) (2 ^ count_of (eligible b u) b.trades) tries
      (record { choice = record { set = set; excess = a.excess }; tries = a.tries; complete = a.complete })

-- the answer's set beside every other, each told by one mark for each trade: what holds of all choices among the user's eligible trades
pub record CancelledSet (limits : Limits) (b : Book) (u : User) (a : Cancellation) : Type 0 where
  -- "a set of whole eligible trades .. told as 256 marks by trade place"
  pub own : List Bool
  pub marked : a.marks ≡ own ++ replicate (256 - length b.trades) false
  pub among : T (is_set (eligible b u) b.trades own)
  -- "whose worth at tariff is at least the target T", "with that excess"
  pub reaches : set_worth b own ≡ target limits b u + a.excess
  -- "It says complete ..; then every other set that reaches T has at least this excess"
  pub least : a.complete ≡ true → (other : List Bool) → T (is_set (eligible b u) b.trades other) → target limits b u ≤ set_worth b other
      → a.excess ≤ set_worth b other - target limits b u

-- every accepted cancellation: "The answer is the tried set that reaches T with the smallest excess", "complete exactly when the excess is 0 or every set was tried"
abbrev pub CancellationClaim : Type 0
CancellationClaim =
    (g : Setting) (s : List ℕ) (id tries : ℕ) → (cancellation g s id tries).number ≡ 0
    → Cancels (limits_on g (book_of s)) (book_of s) (find (book_of s).users id) tries (cancellation g s id tries)

-- and beside every other set: "then every other set that reaches T has at least this excess"
abbrev pub CancelledSetClaim : Type 0
CancelledSetClaim =
    (g : Setting) (s : List ℕ) (id tries : ℕ) → (cancellation g s id tries).number ≡ 0
    → CancelledSet (limits_on g (book_of s)) (book_of s) (find (book_of s).users id) (cancellation g s id tries)

-- "More tries never give a larger excess."
abbrev pub MoreTries : Type 0
MoreTries =
    (g : Setting) (s : List ℕ) (id tries more : ℕ) → tries ≤ more → (cancellation g s id tries).number ≡ 0 → (cancellation g s id more).number ≡ 0
    → (cancellation g s id more).excess ≤ (cancellation g s id tries).excess
