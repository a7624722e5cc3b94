-- A run with a log on arrays: the places of the own sales, and what the run gives. Assumes nothing.
use Rattle.std.specs.Prelude.{◌≡◌, ◌+◌, ◌-◌, ◌<◌, ◌≤◌}
use Rattle.base.specs.Basics.{Bool, true, false, none, some, List, ℕ, length, get_or}
use Rattle.cut_worth.specs.declared.Totals.{Totals}
use Rattle.rules.specs.Book.{Book, User}
use Rattle.rules.specs.Calls.{next_reduced, run_for}
use Rattle.rules.specs.Levels.{Limits}
use Rattle.run_state.specs.Asked.{member_at}
use Rattle.run_book.specs.Books.{RanIn}
use Rattle.run_turns.specs.Turns.{Ran}
use Rattle.laws_sales.specs.Groups.{places}
use Rattle.laws_sales.specs.Parts.{part}
use Rattle.log_format.specs.Log.{most_entries}
use Rattle.log_format.specs.Noted.{noted}
use Rattle.log_entries.specs.Entries.{EntriesIn}

-- where the own sales of each user stand among the trades of a book
pub record OriginsIn (b : Book) (ss origins : List ℕ) : Type 0 where
  pub room : length origins ≡ 256
  pub each : (i : ℕ) → i < length b.users → part (get_or ss i 0) (get_or ss (i + 1) 0) origins ≡ places b.trades (member_at b i).party.id

-- a run of the book o with a log of `count` entries: the rules' run of as many reductions as the log has room for, whether one more is due after it, and the log's entries
-- before and after, with their number
pub record NotedBy (limits : Limits) (o : Book) (count : ℕ) (l l' ns : List ℕ) (totals : Totals) (many : ℕ) (due : Bool) : Type 0 where
  pub ran : Ran (run_for limits (most_entries - count) o) o ns totals
  pub rest : due ≡ false → next_reduced limits (run_for limits (most_entries - count) o).book (run_for limits (most_entries - count) o).book.users ≡ none
  pub next : User
  pub more : due ≡ true → next_reduced limits (run_for limits (most_entries - count) o).book (run_for limits (most_entries - count) o).book.users ≡ some next
  pub size : length l' ≡ length l
  pub few : many ≤ most_entries
  pub entries : (es : List (List ℕ)) → EntriesIn (length o.trades) es l → length es ≡ count
      → EntriesIn (length o.trades) (noted limits (most_entries - count) o es) l' × (many ≡ length (noted limits (most_entries - count) o es))

-- the same in bytes, which hold the run's book
pub record NotedIn (limits : Limits) (o : Book) (count : ℕ) (l l' s : List ℕ) (totals : Totals) (many : ℕ) (due : Bool) : Type 0 where
  pub ran : RanIn (run_for limits (most_entries - count) o) s totals
  pub rest : due ≡ false → next_reduced limits (run_for limits (most_entries - count) o).book (run_for limits (most_entries - count) o).book.users ≡ none
  pub next : User
  pub more : due ≡ true → next_reduced limits (run_for limits (most_entries - count) o).book (run_for limits (most_entries - count) o).book.users ≡ some next
  pub size : length l' ≡ length l
  pub few : many ≤ most_entries
  pub entries : (es : List (List ℕ)) → EntriesIn (length o.trades) es l → length es ≡ count
      → EntriesIn (length o.trades) (noted limits (most_entries - count) o es) l' × (many ≡ length (noted limits (most_entries - count) o es))
