-- Document 02, ask 9, "Who may see and do what": what a party, a shipper with an id, may see of a book. Assumes nothing.
use Rattle.std.specs.Prelude.{◌||◌}
use Rattle.base.specs.Basics.{Bool, List, ℕ, eqb}
use Rattle.base.specs.Lists.{any}
use Rattle.laws_sales.specs.Kept.{kept}
use Rattle.rules.specs.Areas.{areas}
use Rattle.rules.specs.Bearers.{as_borne, bearer}
use Rattle.rules.specs.Book.{Book, Trade, User}

-- "its own record .., and for an area where it manages others their records": the record of a user whose risk the party bears in some area. A managed user sees its own
-- record too.
unfoldable pub sees_user : ℕ → User → Bool
sees_user party u = eqb u.party.id party || any (λ area. eqb (bearer u area) party) areas

-- "its own .. trades, and for an area where it manages others .. their trades in that area": the party sells or buys, or bears the risk of who does in the trade's area. A
-- managed user sees its own trades too.
unfoldable pub sees_trade : List User → ℕ → Trade → Bool
sees_trade us party t =
    let r = t.terms in
    let borne = (as_borne us t).terms in
    (eqb r.seller party || eqb r.buyer party) || (eqb borne.seller party || eqb borne.buyer party)

-- "in book order": the trades that the party may see
unfoldable pub trades_seen : Book → ℕ → List Trade
trades_seen b party = kept (sees_trade b.users party) b.trades

-- the header, and in book order what the party may see
unfoldable pub view_of : ℕ → Book → Book
view_of party b = record { header = b.header; users = kept (sees_user party) b.users; trades = trades_seen b party }
