-- A trade that a party may see, by the places of its seller and its buyer. Assumes nothing.
use Rattle.std.specs.Prelude.{◌||◌}
use Rattle.base.specs.Basics.{Bool, List, ℕ, eqb, get_or}
use Rattle.rules.specs.Book.{Trade, User, nobody}
use Rattle.rules.specs.Bearers.{bearer}

-- the party is the user, or bears its risk in an area
unfoldable pub stands_for : ℕ → ℕ → User → Bool
stands_for party area u = eqb u.party.id party || eqb (bearer u area) party

-- for one of the users at two places
unfoldable pub sees_at : List User → ℕ → ℕ → ℕ → Trade → Bool
sees_at us party seller buyer t = stands_for party t.terms.area (get_or us seller nobody) || stands_for party t.terms.area (get_or us buyer nobody)
