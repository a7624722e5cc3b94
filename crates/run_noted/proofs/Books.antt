-- A run with a log in the bytes of a book: where its own sales stand, and its end. Assumes nothing.
use Rattle.base.specs.Basics.{Bool, List, ℕ, ◌-◌}
use Rattle.cut_lists.proofs.Own.{own_origins}
use Rattle.cut_worth.specs.declared.Totals.{Totals}
use Rattle.rules.specs.Book.{Book}
use Rattle.rules.specs.Calls.{run_for}
use Rattle.rules.specs.Levels.{Limits}
use Rattle.run_book.specs.Books.{RanIn}
use Rattle.run_reduction.specs.Books.{Listed}
use Rattle.run_noted.specs.Noted.{NotedBy, NotedIn, OriginsIn}

pub listed_origins : {b : Book} {ss origins ns area_codes bs : List ℕ} {count : ℕ} → Listed b ss origins ns area_codes bs count → OriginsIn b ss origins
listed_origins l = record { room = l.room.origins_room; each = λ i k. own_origins l.sales i k }

pub noted_in : {limits : Limits} {o : Book} {count : ℕ} {l l' ns : List ℕ} {totals : Totals} {many : ℕ} {due : Bool} {s : List ℕ} → NotedBy limits o count l l' ns totals many due
    → RanIn (run_for limits (256 - count) o) s totals → NotedIn limits o count l l' s totals many due
noted_in p r = record { ran = r; rest = p.rest; next = p.next; more = p.more; size = p.size; few = p.few; entries = p.entries }
