-- The book that a struct is fits its bytes, since the struct's fields are of their types. Assumes nothing.
use Rattle.base.specs.Basics.{◌≡◌, refl, Bool, cond, true, false, List, [], ◌∷◌, map, ℕ, zero, suc, ◌<◌, ◌^◌, arith, length, take, length-map}
use Rattle.base.specs.Basics.{length-take}
use Rattle.fields.specs.Layout.{Every}
use Rattle.rules.specs.Areas.{managers_in, selling_in}
use Rattle.rules.specs.Book as model
use Rattle.units.specs.Prices.{as_prices}
use Rattle.book_records.specs.Trade.{FitsTrade, as_trade}
use Rattle.book_records.specs.User.{FitsManagers, FitsRecord}
use Rattle.book_tables.specs.Book.{as_book, kept_managers, kept_prices}
use Rattle.book_tables.specs.Record.{as_managers, as_record}
use Rattle.book_tables.specs.declared.Book.{Book}
use Rattle.book_tables.specs.declared.Record.{Record}
use Rattle.book_value.specs.Written.{InCounts}
use Rattle.book_format.proofs.Offsets.{known-lt}
use Rattle.book_format.proofs.Written.{FitsBook, FitsSelling}
use Rattle.book_format.specs.Book.{header_values, header_widths, mark}
use Rattle.round_trip.specs.RoundTrip.{Typed, TypedRecord}

-- what holds of every record holds, as it is taken, of the first n
every_taken : {R M : Type 0} (P : R → Type 0) (Q : M → Type 0) (f : R → M) → ((r : R) → P r → Q (f r)) → (n : ℕ) (rs : List R) → Every P rs → Every Q (map f (take n rs))
every_taken P Q f g zero rs h = tt
every_taken P Q f g (suc n) [] h = tt
every_taken P Q f g (suc n) (r ∷ rs) h = (g r h.0, every_taken P Q f g n rs h.1)

-- an id of 32 bits, or 0 in a version without managers
kept_lt : (managed : Bool) (ms : model.Managers) → ms.pvb < 2 ^ 32 → ms.tvb < 2 ^ 32 → ms.avb < 2 ^ 32 → FitsManagers managed (cond managed ms model.unmanaged)
kept_lt true ms p t a = record { pvb = p; tvb = t; avb = a }
kept_lt false ms p t a = record { pvb = omega arith; tvb = omega arith; avb = omega arith }

-- a record as its version has it
record_fits : (version : ℕ) (r : Record) → TypedRecord r → FitsRecord (managers_in version) (kept_managers version (as_record r))
unfolding kept_managers as_record as_managers
record_fits version r h =
    let u = h.user in
    record {
      user = record { id = u.id; role = u.role; physical = u.physical; position = u.position; charges = u.charges; assigned = u.assigned; blocked = u.blocked };
      managers = kept_lt (managers_in version) _ h.pvb h.tvb h.avb;
    }

module _ (b : Book) (counts : InCounts b) (typed : Typed b) where
  pub user_count_lem : length (as_book b).users ≡ b.user_count
  unfolding as_book
  user_count_lem = rw (length-map, length-take) (omega (arith, counts.users, typed.user_room))

  pub trade_count_lem : length (as_book b).trades ≡ b.trade_count
  unfolding as_book
  trade_count_lem = rw (length-map, length-take) (omega (arith, counts.trades, typed.trade_room))

  selling_kept : (x : Bool) → selling_in b.version ≡ x → FitsSelling b.version (kept_prices b.version (as_prices b.prices))
  unfolding kept_prices
  selling_kept true e = record { s = rw e typed.prices.s; u = rw e typed.prices.u; none = λ k. (rw k refl, rw k refl) }
  selling_kept false e = record { s = rw e (omega arith); u = rw e (omega arith); none = λ k. (rw k refl, rw k refl) }

  pub typed_fits : FitsBook (as_book b)
  unfolding as_book kept_prices header_widths header_values mark
  typed_fits =
      let v = known-lt b.version counts.version in
      let n = user_count_lem in
      let m = trade_count_lem in
      let few = counts.users in
      let many = counts.trades in
      let d = typed.date in
      let f = typed.prices in
      record {
        header = (omega arith, (omega arith, (omega arith, (omega arith, (omega arith, (f.p, (f.q, (f.l, (f.x, (f.i, tt))))))))));
        selling = selling_kept (selling_in b.version) refl;
        users = every_taken TypedRecord (FitsRecord (managers_in b.version)) (λ r. kept_managers b.version (as_record r)) (record_fits b.version) b.user_count b.users typed.users;
        trades = every_taken (λ t. FitsTrade (as_trade t)) FitsTrade as_trade (λ t h. h) b.trade_count b.trades typed.trades;
      }
