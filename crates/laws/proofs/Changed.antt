-- A book after one user's record is changed: it is accepted where the new record keeps its party and is valid. Assumes nothing.
use Rattle.base.specs.Basics.{◌≡◌, refl, cond, ℕ, T, eqb, length-map}
use Rattle.laws.specs.Sound.{Sound}
use Rattle.base.proofs.Tests.{by_test}
use Rattle.laws.proofs.{Bearers.groups_map, Users.trades_map, Users.change-all, Users.ids_rise-map}
use Rattle.rules.specs.{Book.User, Book.Book, Book.find, Changes.change, Changes.with_users}
use Rattle.rules.specs.Questions.{counts_are_valid, groups_valid, user_is_valid, positions_are_valid, version_is_valid}

-- one user's record is replaced by one of the same party
pub keeps_party : (f : User → User) → ((u : User) → (f u).party ≡ u.party) → (id : ℕ) (u : User) → (cond (eqb u.party.id id) (f u) u).party ≡ u.party
keeps_party f k id u = by_test (λ (v : User). v.party ≡ u.party) (eqb u.party.id id) (λ t. k u) (λ t. refl)

-- The book after a change of one record, which keeps its party and stays valid.
pub change_sound : (b : Book) (id : ℕ) (f : User → User) → ((u : User) → (f u).party ≡ u.party) → Sound b
    → T (user_is_valid (f (find b.users id))) → T (positions_are_valid b.trades (f (find b.users id))) → Sound (with_users b (change id f b.users))
unfolding with_users change version_is_valid counts_are_valid groups_valid
change_sound b id f k s v p =
    let keep = keeps_party f k id in
    record {
      version = s.version;
      counts = rw (length-map b.users (λ u. cond (eqb u.party.id id) (f u) u)) s.counts;
      header = s.header;
      ids = rw (ids_rise-map (λ u. cond (eqb u.party.id id) (f u) u) keep 0 b.users) s.ids;
      users = change-all user_is_valid user_is_valid f id (λ u h. h) b.users 0 s.ids s.users v;
      groups = groups_map (λ u. cond (eqb u.party.id id) (f u) u) keep b.header.version b.users s.groups;
      trades = trades_map (λ u. cond (eqb u.party.id id) (f u) u) keep b.users b.trades s.trades;
      positions = change-all (positions_are_valid b.trades) (positions_are_valid b.trades) f id (λ u h. h) b.users 0 s.ids s.positions p;
    }
