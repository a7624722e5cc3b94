-- Document 02, ask 5, "Group portfolios": "a group manager bears the group's risk in an area". Users and trades as they are borne. Where nobody has a manager, users and trades are
-- borne as they are.
use Rattle.base.specs.Basics.{cond, List, map, ℕ, eqb, ℤ, pos}
use Rattle.base.specs.Sums.{sum_ℤ}
use Rattle.rules.specs.Book.{PerArea, at, manager_in, User, Trade, Book, find}

-- the id of who bears a user's risk in an area: of the manager there, or, with "0 for none", of the user
unfoldable pub bearer : User → ℕ → ℕ
bearer u area =
    let manager = manager_in u.party.managers area in
    cond (eqb manager 0) u.party.id manager

-- "the sums over itself and its members": an amount in an area, over the users whose risk the user of an id bears there; "a managed user counts 0 there"
unfoldable pub borne_sum : (User → PerArea) → List User → ℕ → ℕ → ℤ
borne_sum amounts us id area = sum_ℤ (λ v. cond (eqb (bearer v area) id) (at (amounts v) area) (pos 0)) us

-- a trade as it is borne: between those who bear the risk of its seller and of its buyer in its area
unfoldable pub as_borne : List User → Trade → Trade
as_borne us t =
    let r = t.terms in
    record {
      terms = record {
        seller = bearer (find us r.seller) r.area;
        buyer = bearer (find us r.buyer) r.area;
        area = r.area;
        kind = r.kind;
        day = r.day;
        notified = r.notified;
      };
      standing = t.standing;
    }

-- the trades of a book as they are borne
unfoldable pub borne : Book → List Trade
borne b = map (as_borne b.users) b.trades
