-- The arrays that a run starts from. Assumes nothing.
use Rattle.base.specs.Basics.{◌≡◌, refl, Bool, List, ℕ, arith, length, take}
use Rattle.book_format.specs.Book.{book_of, count_of_users}
use Rattle.laws_sales.specs.Borne.{borne_book}
use Rattle.risk_bearers.specs.Bearers.{RiskIn, trades_in, users_in}
use Rattle.rules.specs.Areas.{Prices}
use Rattle.rules.specs.Levels.{Limits}
use Rattle.run_state.proofs.Grouped.{going_first}
use Rattle.risk_user.specs.UserAt.{PositionsOf}
use Rattle.run_state.specs.Going.{Going, OwedOf}
use Rattle.cut_parties.specs.Flags.{CutFlags}
use Rattle.run_targets.specs.Asking.{Opening}
use Rattle.run_reduction.specs.Books.{Listed}
use Rattle.run_reduction.proofs.Start.{listed_standing}

module _ {limits : Limits} {f : Prices} {s sums : List ℕ} (r : RiskIn limits f s sums)
    {ss origins ns area_codes bs : List ℕ} {count : ℕ} (l : Listed (borne_book (book_of s)) ss origins ns area_codes bs count) where
  -- what the first targets are asked from
  pub run_opening : {n : ℕ} → n ≡ count_of_users s → {ps : List ℕ} {flags : List Bool} → PositionsOf (users_in s) ps → CutFlags (users_in s) (trades_in s) flags
      → Opening limits f n s sums ps ss ns flags
  run_opening e p c =
      let q = l.sales in
      record {
        risk = r;
        users_are = e;
        positions = p;
        starts_at = q.starts_at;
        few = omega (arith, q.all, q.few);
        standing_room = l.room.standing_room;
        standing = listed_standing l refl;
        below = c;
      }

  -- the run starts at its opening book
  pub run_going : {ms ps ts : List ℕ} {es : List Bool} → take count ms ≡ take count ns → length ms ≡ 256 → PositionsOf (users_in s) ps → length ps ≡ 192
      → OwedOf limits (book_of s) ts es → length ts ≡ 64 → length es ≡ 64 → Going limits (book_of s) (book_of s) ms ps ts es
  run_going e long p ps-room w ts-room es-room =
      going_first r.opened.accepted.sound (listed_standing l e) p w (record { standing = long; positions = ps-room; targets = ts-room; eligible = es-room })
