-- Demand 3 as one claim about a whole sequence of requests that are all given one store, or none, and whatever logs, from bytes s that pass the questions 1 to 7 to bytes t. Assumes
-- nothing.
use Rattle.std.specs.Prelude.{◌≡◌, ◌∷◌, ◌+◌, ◌*◌, ◌<◌, ◌+ℤ◌}
use Rattle.base.specs.Basics.{not, Option, List, [], ℕ, T, length, take, drop}
use Rattle.book_format.specs.Book.{size_of_header, trade_size, version_of, trades_at, count_of_trades, users_of, trades_of, book_of, bytes_of}
use Rattle.book_format.specs.Questions.{book_number}
use Rattle.base.specs.Sums.{sum_ℤ}
use Rattle.laws.specs.Statements.{AllCovered}
use Rattle.laws.specs.Trades.{Lowered, Pairwise, left_mwh, left_worth}
use Rattle.book_records.specs.Trade.{trade_of}
use Rattle.rules.specs.Book.{at, Book, bilateral_for_day}
use Rattle.requests.specs.Request.{call, withdrawal, Outcome, Request, request_given}
use Rattle.rules.specs.Calls.{run}
use Rattle.rules.specs.Levels.{Limits}
use Rattle.sequence.specs.Links.{Link, is_accepted, requests_of}
use Rattle.store.specs.Store.{limits_of}
use Rattle.sequence.specs.Totals.{posted_in, reported_mwh, reported_worth}

-- ---- "Each answer, and the book after each call, are those that these rules give from the opening book and the arguments of the calls so far"

-- what the rules give: the answers, the numbers of a list's lines, the books and the logs after a list of requests, from a book
unfoldable pub events : Book → List Request → List (Outcome Book)
events b [] = []
events b (r ∷ rs) = let gives = request_given r b in gives ∷ events gives.book rs

-- the book at the end
unfoldable pub final : Book → List Request → Book
final b [] = b
final b (r ∷ rs) = final (request_given r b).book rs

-- request by request: the answer that was given, the numbers of the lines, the bytes of the book, and the log
pub data AsDefined : List Link → List (Outcome Book) → Type 0 where
  as_none : AsDefined [] []
  as_also : {l : Link} {e : Outcome Book} {ls : List Link} {es : List (Outcome Book)} → l.gave.answer ≡ e.answer → l.gave.numbers ≡ e.numbers → l.gave.book ≡ bytes_of e.book → l.gave.log ≡ e.log → AsDefined ls es → AsDefined (l ∷ ls) (e ∷ es)

-- ---- "Every trade byte is as in the opening book, except standing where kind and day are 0."

-- the bytes of the trade at a place
unfoldable pub trade_bytes_at : List ℕ → ℕ → List ℕ
trade_bytes_at s place = take (trade_size (version_of s)) (drop (trades_at s + trade_size (version_of s) * place) s)

pub record TradeBytes (s t : List ℕ) : Type 0 where
  pub size : length t ≡ length s
  pub header : take (size_of_header (version_of s)) t ≡ take (size_of_header (version_of s)) s
  -- all but standing, which is the last field of four bytes
  pub terms : (i : ℕ) → i < count_of_trades s → take 16 (trade_bytes_at t i) ≡ take 16 (trade_bytes_at s i)
  pub others : (i : ℕ) → i < count_of_trades s → T (not (bilateral_for_day (trade_of (trade_bytes_at s i)))) → trade_bytes_at t i ≡ trade_bytes_at s i

-- ---- one request of the sequence

pub record Kept (limits : Limits) (l : Link) : Type 0 where
  -- the book stays accepted
  pub accepted : book_number l.gave.book ≡ 0
  -- "no trade raised or below zero"; "a trade may rise only by a withdrawal"
  pub lowered : (l.asked.act ≡ withdrawal → ⊥) → Pairwise Lowered (trades_of l.given) (trades_of l.gave.book)
  -- a refused request leaves the bytes and the log
  pub refused : T (not (is_accepted l)) → (l.gave.book ≡ l.given) × (l.gave.log ≡ l.asked.log)
  -- "no accepted run ends while a short user has a sale to cut", judged on the book that it leaves; "demand 3's last sentence is then of the runs that return 0"
  pub covered : l.asked.act ≡ call run → l.gave.answer.number ≡ 0 → AllCovered limits (book_of l.gave.book)

pub data Each (limits : Limits) : List Link → Type 0 where
  each_none : Each limits []
  each_also : {l : Link} {ls : List Link} → Kept limits l → Each limits ls → Each limits (l ∷ ls)

-- ---- the claim

pub record Claim (store : Option (List ℕ)) (s : List ℕ) (ls : List Link) (t : List ℕ) : Type 0 where
  pub defined : AsDefined ls (events (book_of s) (requests_of ls))
  pub book : book_of t ≡ final (book_of s) (requests_of ls)
  pub bytes : t ≡ bytes_of (final (book_of s) (requests_of ls))
  pub accepted : book_number t ≡ 0
  -- by the figures of that store: no request changes the date
  pub each : Each (limits_of store (book_of s).header.date) ls
  pub positions : (a : ℕ) → a < 3
      → sum_ℤ (λ u. at u.position a) (users_of t) ≡ sum_ℤ (λ u. at u.physical a) (users_of s) +ℤ sum_ℤ (posted_in a) ls
  pub mwh : left_mwh (trades_of s) (trades_of t) ≡ sum_ℤ reported_mwh ls
  pub worth : left_worth (book_of s).header.prices (trades_of s) (trades_of t) ≡ sum_ℤ reported_worth ls
  pub trades : TradeBytes s t
