-- A book as its risk is borne: each user with the sums over itself and its members, each trade between those who bear the risk of its parties. What the rules say of a book with
-- managers they say of this one without. Assumes nothing.
use Rattle.std.specs.Prelude.{◌≡◌, ◌&&◌, ◌||◌, ◌<◌}
use Rattle.base.specs.Basics.{Bool, not, cond, List, map, ℕ, T, eqb, leb, ltb, length, get_or}
use Rattle.laws.specs.Statements.{own_holding}
use Rattle.rules.specs.Bearers.{as_borne, borne_sum}
use Rattle.rules.specs.Book.{Book, PerArea, Trade, User, bilateral_for_day, find, nobody}
use Rattle.rules.specs.Calls.{Result}
use Rattle.rules.specs.Levels.{holding, party_to, seller_of, sells}
use Rattle.rules.specs.Questions.{known, trade_is_valid}

-- a trade whose parties are one is of a kind that cannot be cut: "a sale between two of one group there is never eligible"
unfoldable pub shut : Trade → Trade
shut t =
    let r = t.terms in
    record {
      terms = record {
        seller = r.seller;
        buyer = r.buyer;
        area = r.area;
        kind = cond (eqb r.seller r.buyer) 1 r.kind;
        day = r.day;
        notified = r.notified;
      };
      standing = t.standing;
    }

unfoldable pub borne_trade : List User → Trade → Trade
borne_trade us t = shut (as_borne us t)

-- the sums over those whose risk the user of an id bears, in each area
unfoldable pub borne_sums : (User → PerArea) → List User → ℕ → PerArea
borne_sums amounts us id =
    record { pvb = borne_sum amounts us id 0; tvb = borne_sum amounts us id 1; avb = borne_sum amounts us id 2 }

unfoldable pub borne_user : List User → User → User
borne_user us u =
    record {
      party = u.party;
      physical = borne_sums (λ v. v.physical) us u.party.id;
      position = borne_sums (λ v. v.position) us u.party.id;
      blocked = u.blocked;
    }

unfoldable pub borne_book : Book → Book
borne_book b =
    record {
      header = b.header;
      users = map (borne_user b.users) b.users;
      trades = map (borne_trade b.users) b.trades;
    }

-- what a call gives, with the book as its risk is borne
unfoldable pub borne_result : Result Book → Result Book
borne_result r = record { answer = r.answer; book = borne_book r.book }

-- what holds of a trade as it is borne: its parties are users, two of them where it can be cut; its area is one of three; no more stands than was notified
unfoldable pub borne_valid : List User → Trade → Bool
borne_valid us t =
    let r = t.terms in
    (known us r.seller && known us r.buyer)
    && (not (bilateral_for_day t && eqb r.seller r.buyer) && (ltb r.area 3 && (leb t.standing r.notified && leb r.notified 100000)))

-- in a book of a version without managers everybody bears its own risk: what the rules read of users and trades is document 01's
pub record OwnRisk (b : Book) : Type 0 where
  pub book : borne_book b ≡ b
  pub held : (i : ℕ) → i < length b.users → (area : ℕ) → holding b (get_or b.users i nobody) area ≡ own_holding b (get_or b.users i nobody) area
  pub sale : (u : User) (t : Trade) → T (trade_is_valid b.users t) → sells b u t ≡ eqb t.terms.seller u.party.id
  pub party : (u : User) (t : Trade) → T (trade_is_valid b.users t)
      → party_to b u t ≡ (eqb t.terms.seller u.party.id || eqb t.terms.buyer u.party.id)
  pub seller : (t : Trade) → T (trade_is_valid b.users t) → seller_of b t ≡ find b.users t.terms.seller
