-- The lists of a book in bytes, and what stays through its reductions. Assumes nothing.
use Rattle.base.specs.Basics.{◌≡◌, ◌∙◌, List, ℕ, length, take}
use Rattle.book_format.specs.Book.{book_of}
use Rattle.laws_sales.specs.Borne.{borne_book}
use Rattle.risk_bearers.specs.Bearers.{RiskIn, trades_in, users_in}
use Rattle.laws.proofs.Trades.{lowered_refl}
use Rattle.rules.specs.Areas.{Prices}
use Rattle.rules.specs.Book.{Book}
use Rattle.rules.specs.Levels.{Limits}
use Rattle.run_state.proofs.Stays.{with_same}
use Rattle.run_state.proofs.Grouped.{sales_listed, standing_listed}
use Rattle.risk_user.specs.UserAt.{PositionsOf}
use Rattle.run_state.specs.Going.{SalesIn, StandingIn}
use Rattle.run_reduction.specs.Reductions.{Reached, RunOf}
use Rattle.run_reduction.specs.Books.{Listed}

-- ---- the lists of a book

module _ {b : Book} {ss origins ns area_codes bs : List ℕ} {count : ℕ} (l : Listed b ss origins ns area_codes bs count) where
  -- of each user
  pub listed_sales : SalesIn b ss area_codes bs
  listed_sales =
      let q = l.sales in
      sales_listed b q.all q.few q.starts_at q.areas_are q.buyers_are l.room.areas_room l.room.buyers_room

  pub listed_standing : {ms : List ℕ} → take count ms ≡ take count ns → StandingIn b b ms
  listed_standing e = standing_listed b l.sales.all (e ∙ l.standing.standing_are)

-- ---- an accepted book

module _ {limits : Limits} {f : Prices} {s sums : List ℕ} (r : RiskIn limits f s sums) where
  module _ {ss origins ns area_codes bs : List ℕ} {count : ℕ} (l : Listed (borne_book (book_of s)) ss origins ns area_codes bs count) where
    -- what stays
    pub run_stays : RunOf limits f s sums ss area_codes bs
    run_stays = record { risk = r; sales = listed_sales l }

    -- no reduction has been made yet
    pub first_reached : {ms ps : List ℕ} → take count ms ≡ take count ns → length ms ≡ 256 → PositionsOf (users_in s) ps → length ps ≡ 192 → Reached (book_of s) (book_of s) ms ps
    first_reached e long p room =
        record {
          sound = r.opened.accepted.sound;
          lowered = lowered_refl (book_of s).trades;
          borne = lowered_refl (trades_in s);
          same = with_same (book_of s);
          standing = listed_standing l e;
          positions = p;
          standing_room = long;
          positions_room = room;
        }
