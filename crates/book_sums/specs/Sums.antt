-- What trades give to the sum of a user in an area for a day, by the places of their parties. Assumes nothing.
use Rattle.std.specs.Prelude.{◌&&◌, ◌∷◌, ◌+◌}
use Rattle.base.specs.Basics.{Bool, cond, List, [], map, ℕ, eqb, ltb}
use Rattle.rules.specs.Book.{Terms, Trade}
use Rattle.book_parties.specs.Ids.{among, place_in}

-- what a trade gives to the sum of a day at a place in an area, counted for a party at a place
unfoldable pub given : ℕ → ℕ → Trade → ℕ → ℕ → ℕ
given day party t i area = cond (eqb party i) (cond (eqb t.terms.area area && eqb t.terms.day day) t.standing 0) 0

-- what trades give there, each counted for the party whose place stands beside it
unfoldable pub given_by : ℕ → List ℕ → List Trade → ℕ → ℕ → ℕ
given_by day [] ts i area = 0
given_by day (p ∷ ps) [] i area = 0
given_by day (p ∷ ps) (t ∷ ts) i area = given day p t i area + given_by day ps ts i area

-- both parties of a trade are among ids, and its area is one of the three
unfoldable pub parties_among : List ℕ → Trade → Bool
parties_among ids t = (among ids t.terms.seller && among ids t.terms.buyer) && ltb t.terms.area 3

-- the place among ids of the party of each trade, the seller's or the buyer's
abbrev pub places_of : List ℕ → (Terms → ℕ) → List Trade → List ℕ
places_of ids side ts = map (λ t. place_in ids (side t.terms)) ts
