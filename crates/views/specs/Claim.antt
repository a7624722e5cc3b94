-- Document 02, ask 9: "It may see its own record and trades, and for an area where it manages others their records and their trades in that area." What a party may see, by
-- the ids of users and managers alone. Assumes nothing.
use Rattle.std.specs.Prelude.{◌≡◌, ◌||◌, ◌<◌}
use Rattle.base.specs.Basics.{Bool, List, ℕ, T, eqb}
use Rattle.base.specs.Lists.{any}
use Rattle.rules.specs.Areas.{areas}
use Rattle.rules.specs.Book.{Trade, User, find, manager_in}
use Rattle.rules.specs.Questions.{known}
use Rattle.views.specs.Views.{sees_trade, sees_user}

-- the party is the user's manager in an area
unfoldable pub manages : ℕ → User → ℕ → Bool
manages party u area = eqb (manager_in u.party.managers area) party

-- exactly these, and no other: of a party with an id, over users whose trades have parties among them
pub record ViewClaim (party : ℕ) : Type 0 where
  pub users : (u : User) → sees_user party u ≡ (eqb u.party.id party || any (manages party u) areas)
  pub trades : (us : List User) (t : Trade) → T (known us t.terms.seller) → T (known us t.terms.buyer)
      → sees_trade us party t
      ≡ ((eqb t.terms.seller party || eqb t.terms.buyer party)
      || (manages party (find us t.terms.seller) t.terms.area || manages party (find us t.terms.buyer) t.terms.area))

abbrev pub ViewsClaim : Type 0
ViewsClaim = (party : ℕ) → 0 < party → ViewClaim party
