-- A user's own sales, which alone a reduction of the user cuts, and the cuts of such a list of sales. Assumes nothing.
use Rattle.std.specs.Prelude.{◌&&◌, ◌||◌, ◌∷◌, ◌-◌}
use Rattle.base.specs.Basics.{Bool, false, not, cond, List, [], map, ℕ, eqb, ltb, pos, neg_ℤ, get_or, set}
use Rattle.base.specs.Parts.{neg_part}
use Rattle.rules.specs.Areas.{Prices}
use Rattle.rules.specs.Book.{at, User, Trade, bilateral_for_day, nobody}
use Rattle.rules.specs.Changes.{moved}
use Rattle.rules.specs.Reduction.{lot, together}
use Rattle.rules.specs.Shares.{Lot, tier_worth, cuts_of_tier}
use Rattle.laws_sales.specs.Kept.{kept}

-- the trade is a sale of the user of an id that can be cut: kind 0, day 0
unfoldable pub own_sale : ℕ → Trade → Bool
own_sale id t = eqb t.terms.seller id && bilateral_for_day t

-- the own sales of the user of an id, in the order of the trades
abbrev pub sales_of : List Trade → ℕ → List Trade
sales_of ts id = kept (own_sale id) ts

-- the user of an id sells or buys in the trade
unfoldable pub is_party : ℕ → Trade → Bool
is_party id t = eqb t.terms.seller id || eqb t.terms.buyer id

-- ---- cuts

-- the user's position is negative in the area
unfoldable pub short_at : User → ℕ → Bool
short_at u area = ltb 0 (neg_part (at u.position area))

-- the sales in a tier: what stands of those in areas that pass a test, 0 of the others, each with its tariff
unfoldable pub sale_lots : Prices → (ℕ → Bool) → List Trade → List Lot
sale_lots f belongs ss = map (lot f (λ t. belongs t.terms.area)) ss

-- the cuts of own sales for an amount: tier one has those in areas that pass the test, tier two the others
unfoldable pub sale_cuts : Prices → (ℕ → Bool) → ℕ → List Trade → List ℕ
sale_cuts f short asked ss =
    let one = sale_lots f short ss in
    let two = sale_lots f (λ area. not (short area)) ss in
    together (cuts_of_tier asked one) (cuts_of_tier (asked - tier_worth one) two)

-- some sale that passes a test has a cut above 0
unfoldable pub some_cut : (Trade → Bool) → List ℕ → List Trade → Bool
some_cut p [] ss = false
some_cut p (c ∷ cs) [] = false
some_cut p (c ∷ cs) (s ∷ ss) = (p s && ltb 0 c) || some_cut p cs ss

-- the users after a cut in an area, by the places of its seller, whose position rises, and of its buyer, whose position falls
unfoldable pub settled_at : ℕ → ℕ → ℕ → ℕ → List User → List User
settled_at seller buyer area c us =
    let risen = set us seller (moved area (pos c) (get_or us seller nobody)) in
    set risen buyer (moved area (neg_ℤ (pos c)) (get_or risen buyer nobody))

-- ---- the same in lists of numbers

-- of what stands, each in its area: what stands in areas that pass a test, 0 in the others
unfoldable pub standing_in : (ℕ → Bool) → List ℕ → List ℕ → List ℕ
standing_in belongs [] areas = []
standing_in belongs (s ∷ ss) [] = []
standing_in belongs (s ∷ ss) (a ∷ areas) = cond (belongs a) s 0 ∷ standing_in belongs ss areas

-- amounts less their cuts
unfoldable pub less : List ℕ → List ℕ → List ℕ
less [] ns = ns
less (c ∷ cs) [] = []
less (c ∷ cs) (n ∷ ns) = (n - c) ∷ less cs ns
