-- Document 01, "Levels and calls": what enters a user's level, the two levels, and who is flagged, called in and short of cover.
use Rattle.std.specs.Prelude.{◌&&◌, ◌||◌, ◌+◌, ◌*◌, ◌+ℤ◌, ◌-ℤ◌}
use Rattle.base.specs.Basics.{Bool, not, cond, ℕ, max, min, ltb, leb, eqb, ℤ, pos, neg_ℤ}
use Rattle.base.specs.Parts.{pos_part, neg_part}
use Rattle.base.specs.Sums.{sum}
use Rattle.rules.specs.Areas.{Prices, areas, reference_price_of, selling_tariff_of}
use Rattle.base.specs.Lists.{any}
use Rattle.rules.specs.Book.{User, Trade, Book, sold, bought, find}
use Rattle.rules.specs.Bearers.{borne_sum, as_borne, borne}

-- The three figures that the rules take as given: MWh of a flag, cents of a call, cents of the least level.
pub record Limits : Type 0 where
  pub flag_mwh : ℕ
  pub margin : ℕ
  pub floor : ℕ

-- the figures of today: 30,000 MWh, 1,000,000 cents, 10,000,000 cents
unfoldable pub today : Limits
today = record { flag_mwh = 30000; margin = 1000000; floor = 10000000 }

-- ---- what enters a user's levels, flag and tiers: the only definitions below that read users and trades, all but `buys` as they are borne

-- of one user in one area: physical entry, position, sold and bought for d and for d+1, all kinds at standing; of a manager "the sums over itself and its members"
pub record Holding : Type 0 where
  pub physical : ℤ
  pub position : ℤ
  pub sold : ℕ
  pub bought : ℕ
  pub sold_next : ℕ
  pub bought_next : ℕ

unfoldable pub holding : Book → User → ℕ → Holding
holding b u area =
    record {
      physical = borne_sum (λ v. v.physical) b.users u.party.id area;
      position = borne_sum (λ v. v.position) b.users u.party.id area;
      sold = sold (borne b) u.party.id area 0;
      bought = bought (borne b) u.party.id area 0;
      sold_next = sold (borne b) u.party.id area 1;
      bought_next = bought (borne b) u.party.id area 1;
    }

-- the trade is one of the user's sales; a manager's "include its members' in that area, and not the members' own; a sale between two of one group there" is nobody's
unfoldable pub sells : Book → User → Trade → Bool
sells b u t =
    let r = (as_borne b.users t).terms in
    eqb r.seller u.party.id && not (eqb r.buyer u.party.id)

-- the trade is one of the user's purchases: who is warned is the buyer itself
unfoldable pub buys : Book → User → Trade → Bool
buys b u t = eqb t.terms.buyer u.party.id

-- the user is party to the trade: "A member's trade there calls in the manager in place of the member"
unfoldable pub party_to : Book → User → Trade → Bool
party_to b u t =
    let r = (as_borne b.users t).terms in
    eqb r.seller u.party.id || eqb r.buyer u.party.id

-- the user whose flag counts for the seller of a trade: "at midday the manager's flag stands for a managed seller's"
unfoldable pub seller_of : Book → Trade → User
seller_of b t = find b.users (as_borne b.users t).terms.seller

-- ---- the levels

-- Morning: "need = −physical + sold − bought over d and d+1"
unfoldable pub need_of_morning : Holding → ℤ
need_of_morning h = neg_ℤ h.physical +ℤ pos (h.sold + h.sold_next) -ℤ pos (h.bought + h.bought_next)

-- Afternoon: what a long position takes off the need, "max(0, position) in areas 1 and 2"
unfoldable pub stock : ℕ → Holding → ℕ
stock area h = cond (eqb area 0) 0 (pos_part h.position)

-- Afternoon: "need = sold − bought for d+1, minus max(0, position) in areas 1 and 2"
unfoldable pub need_of_afternoon : ℕ → Holding → ℤ
need_of_afternoon area h = pos h.sold_next -ℤ pos h.bought_next -ℤ pos (stock area h)

-- "sum of max(0, −position) × w"
unfoldable pub exposure : Prices → (ℕ → Holding) → ℕ
exposure f h = sum (λ area. neg_part (h area).position * reference_price_of f area) areas

-- Morning: "Level = charges + sum of max(0, need) × w", before its floor
unfoldable pub morning_sum : Prices → (ℕ → Holding) → ℤ → ℤ
morning_sum f h charges =
    charges +ℤ pos (sum (λ area. pos_part (need_of_morning (h area)) * reference_price_of f area) areas)

-- "max(0, position) × selling tariff for each area": 0 where the selling tariffs are
unfoldable pub credit : Prices → (ℕ → Holding) → ℕ
credit f h = sum (λ area. pos_part (h area).position * selling_tariff_of f area) areas

-- Afternoon: "Level = charges + sum of max(0, need) × w + sum of max(0, −position) × w"; from version 2 on it "loses" the credit; before its floor
unfoldable pub afternoon_sum : Prices → (ℕ → Holding) → ℤ → ℤ
afternoon_sum f h charges =
    charges +ℤ pos (sum (λ area. pos_part (need_of_afternoon area (h area)) * reference_price_of f area) areas)
    +ℤ pos (exposure f h)
    -ℤ pos (credit f h)

-- "the least w"
unfoldable pub lowest_reference_price : Prices → ℕ
lowest_reference_price f = min (reference_price_of f 0) (min (reference_price_of f 1) (reference_price_of f 2))

-- "(0 shipper, 1 clearing house)"
unfoldable pub shipper : User → Bool
shipper u = eqb u.party.role 0

module _ (limits : Limits) where
  -- "Either level is at least 10,000,000."
  unfoldable pub floored : ℤ → ℕ
  floored z = max limits.floor (pos_part z)

  unfoldable pub morning_level : Book → User → ℕ
  morning_level b u = floored (morning_sum b.header.prices (holding b u) u.party.charges)

  module _ (f : Prices) (u : User) (h : ℕ → Holding) where
    -- the afternoon level of a user with these holdings
    abbrev pub level_from : ℕ
    level_from = floored (afternoon_sum f h u.party.charges)

    -- Flagged: "sum of max(0, −position) × w, minus blocked, exceeds 30,000 × the least w"
    abbrev pub flagged_from : Bool
    flagged_from = ltb (limits.flag_mwh * lowest_reference_price f + u.blocked) (exposure f h)

  unfoldable pub afternoon_level : Book → User → ℕ
  afternoon_level b u = level_from b.header.prices u (holding b u)

  unfoldable pub flagged : Book → User → Bool
  flagged b u = flagged_from b.header.prices u (holding b u)

  -- Called in: "flagged, or party to a trade standing below notified"
  unfoldable pub called_in : Book → User → Bool
  called_in b u = flagged b u || any (λ t. party_to b u t && ltb t.standing t.terms.notified) b.trades

  -- "Level − blocked > 1,000,000"
  unfoldable pub exceeds_its_margin : ℕ → User → Bool
  exceeds_its_margin level u = ltb (limits.margin + u.blocked) level

  -- "afternoon level − blocked > 1,000,000, assigned < level"
  abbrev pub uncovered : User → ℕ → Bool
  uncovered u level = exceeds_its_margin level u && ltb u.party.assigned level

  -- Short of cover: "shipper, called in", and a level that the guarantees do not cover
  unfoldable pub short_of_cover : Book → User → Bool
  short_of_cover b u = (shipper u && called_in b u) && uncovered u (afternoon_level b u)
