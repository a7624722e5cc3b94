-- A run on arrays: what stays, what one reduction gives, and what all give. Assumes nothing.
use Rattle.std.specs.Prelude.{◌≡◌, ◌+◌, ◌≤◌, ◌<◌, Option}
use Rattle.std.specs.Option.{ForSome}
use Rattle.base.specs.Basics.{Bool, List, ℕ, length, get_or}
use Rattle.book_format.specs.Book.{book_of}
use Rattle.cut_peaks.specs.Keeping.{Chosen, KeptFor}
use Rattle.cut_peaks.specs.Peaks.{NoneCut}
use Rattle.cut_peaks.specs.declared.Choice.{Choice}
use Rattle.cut_peaks.specs.declared.Kept.{Kept}
use Rattle.cut_worth.specs.Tallies.{as_tally}
use Rattle.cut_worth.specs.Totals.{totals}
use Rattle.cut_worth.specs.declared.Tally.{Tally}
use Rattle.cut_worth.specs.declared.Totals.{Totals}
use Rattle.laws.specs.Sound.{Sound}
use Rattle.laws.specs.Trades.{Lowered, Pairwise}
use Rattle.rules.specs.Areas.{Prices}
use Rattle.rules.specs.Book.{Book}
use Rattle.rules.specs.Calls.{Result, answer_of_cuts, reduced}
use Rattle.rules.specs.Levels.{Limits}
use Rattle.rules.specs.Reduction.{target, with_trades}
use Rattle.run_positions.specs.Moving.{ShortIn}
use Rattle.run_state.proofs.Left.{Left}
use Rattle.run_state.specs.Asked.{member_at}
use Rattle.run_state.specs.Going.{Going, StandingIn}
use Rattle.laws_sales.specs.Borne.{borne_book, borne_user}
use Rattle.laws_sales.specs.Parts.{part}
use Rattle.laws_sales.specs.Reduced.{own_cuts}

-- a run of a book has come to some book
pub record Ongoing (limits : Limits) (o : Book) (ns ps ts : List ℕ) (es : List Bool) : Type 0 where
  pub book : Book
  pub going : Going limits o book ns ps ts es

-- an array of cuts in which there is none outside a part
pub record CutIn (from to : ℕ) (cs : List ℕ) : Type 0 where
  pub room : length cs ≡ 256
  pub before : (k : ℕ) → k < from → get_or cs k 0 ≡ 0
  pub behind : (k : ℕ) → to ≤ k → get_or cs k 0 ≡ 0

-- the reduction of the user at a place of the book b, to which a run of o has come: the arrays after it, what the user's own sales lost, the tally, and a place before which no target has changed
pub record Turned (limits : Limits) (o b : Book) (place : ℕ) (ts₀ ns ps ts : List ℕ) (es : List Bool) (cs : List ℕ) (tally : Tally) (least : ℕ) : Type 0 where
  pub going : Going limits o (reduced limits b (member_at b place)).book ns ps ts es
  pub answer : (reduced limits b (member_at b place)).answer ≡ answer_of_cuts (target limits b (member_at b place)) (as_tally tally)
  pub cuts : cs ≡ own_cuts (borne_book b) (borne_user b.users (member_at b place)) (target limits b (member_at b place))
  pub least_most : least ≤ place
  pub before : (j : ℕ) → j < least → get_or ts j 0 ≡ get_or ts₀ j 0

-- the same, whatever the cuts
pub record TurnedSome (limits : Limits) (o b : Book) (place : ℕ) (ts₀ ns ps ts : List ℕ) (es : List Bool) (tally : Tally) (least : ℕ) : Type 0 where
  pub cuts : List ℕ
  pub turned : Turned limits o b place ts₀ ns ps ts es cuts tally least

-- what stands of the sales of every user but the one at a place is what stood
pub record OthersStand (n : ℕ) (ss : List ℕ) (place : ℕ) (ns ms : List ℕ) : Type 0 where
  pub each : (i : ℕ) → i < n → (i ≡ place → ⊥) → part (get_or ss i 0) (get_or ss (i + 1) 0) ms ≡ part (get_or ss i 0) (get_or ss (i + 1) 0) ns

-- of every user with many sales
pub record ManyStand (n : ℕ) (ss ns ms : List ℕ) : Type 0 where
  pub each : (i : ℕ) → i < n → get_or ss i 0 + 8 < get_or ss (i + 1) 0 → part (get_or ss i 0) (get_or ss (i + 1) 0) ms ≡ part (get_or ss i 0) (get_or ss (i + 1) 0) ns

-- ---- long runs

-- cuts are filled in between two places, for an amount, of the sales from..to of the user at a place; where they fit, they are all of its cuts
pub record Sweepable (f : Prices) (asked : ℕ) (ns areas ps : List ℕ) (place from to : ℕ) (cs : List ℕ) (c : Choice) : Type 0 where
  pub short : List Bool
  pub short_in_lem : ShortIn ps place short
  pub none : List ℕ
  pub none_cut : NoneCut none
  pub chosen : Chosen f short asked ns areas from to none cs c

-- what is kept of the user at a place, where anything is known of it, is that of its sales
pub record Keeps (f : Prices) (ss ns areas : List ℕ) (place : ℕ) (o : Option Kept) : Type 0 where
  pub kept : ForSome o (λ k. KeptFor f k ns areas (get_or ss place 0) (get_or ss (place + 1) 0))

-- ---- all of them

-- a run of the book in bytes s of n users has come so far: some book, the totals, no cuts in their array, and the place of the first user that is due
pub record RunTo (limits : Limits) (s : List ℕ) (n : ℕ) (ns ps ts : List ℕ) (es : List Bool) (cs rs : List ℕ) (t : Totals) (place : ℕ) : Type 0 where
  pub book : Book
  pub going : Going limits (book_of s) book ns ps ts es
  pub left : Left limits (book_of s) book t.reductions t.mwh.0 t.worth.0
  pub none_cut : NoneCut cs
  pub rests_room : length rs ≡ 256
  pub within : place ≤ n
  pub before : (j : ℕ) → j < place → get_or ts j 0 ≡ 0
  pub here : place < n → 0 < get_or ts place 0

-- reductions of the book o, one after another, have given a result of the rules: its answer, and what stands of the own sales of its book as its risk is borne
pub record Ran (end : Result Book) (o : Book) (ns : List ℕ) (r : Totals) : Type 0 where
  pub answer : totals r ≡ end.answer
  pub sound : Sound end.book
  pub lowered : Pairwise Lowered o.trades end.book.trades
  pub same : end.book ≡ with_trades o end.book.trades
  pub borne : Pairwise Lowered (borne_book o).trades (borne_book end.book).trades
  pub standing : StandingIn (borne_book o) (borne_book end.book) ns
  pub room : length ns ≡ 256
