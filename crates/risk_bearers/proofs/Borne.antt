-- The book that bytes hold, as its risk is borne: as many users and trades as the bytes have, and what is read of a trade in the bytes. Assumes nothing.
use Rattle.base.specs.Basics.{◌≡◌, refl, sym, ap, ◌∙◌, Bool, true, false, not, cond, ◌&&◌, List, map, map-map, ℕ, ◌<◌, arith, T, eqb, length, get_or}
use Rattle.base.specs.Basics.{length-map, get_or-map}
use mathlib.Core.Bool.{and-true}
use Rattle.base.proofs.Fronts.{get_or_inside}
use Rattle.base.proofs.Tests.{all_by, and-false, and_l, and_r}
use Rattle.base.specs.Lists.{all}
use Rattle.book_format.proofs.Passed.{length-trades_of, length-users_of}
use Rattle.book_format.specs.Book.{book_of, count_of_trades, trades_of, count_of_users, users_of}
use Rattle.book_format.specs.Held.{Accepted}
use Rattle.book_parties.specs.Ids.{id_at}
use Rattle.laws_sales.proofs.Valid.{borne_ids, borne_valid_lem}
use Rattle.laws_sales.specs.Borne.{borne_book, borne_trade, borne_user, borne_valid, shut}
use Rattle.rules.specs.Bearers.{as_borne}
use Rattle.rules.specs.Book.{Trade, User, bilateral_for_day, no_trade, nobody}
use Rattle.rules.specs.Questions.{ids_rise, known}
use Rattle.risk_bearers.specs.Bearers.{BorneIn, trades_in, users_in}
use Rattle.risk_bearers.proofs.Places.{party-id, party_is, party_within}

module _ (s : List ℕ) where
  -- as many
  pub length-users_in : length (users_in s) ≡ count_of_users s
  unfolding borne_book book_of
  length-users_in = length-map (users_of s) (borne_user (users_of s)) ∙ length-users_of s

  pub length-trades_in : length (trades_in s) ≡ count_of_trades s
  unfolding borne_book book_of
  length-trades_in = length-map (trades_of s) (borne_trade (users_of s)) ∙ length-trades_of s

  -- the trade at a place
  pub trade_in : (i : ℕ) → i < count_of_trades s → get_or (trades_in s) i no_trade ≡ borne_trade (users_of s) (get_or (trades_of s) i no_trade)
  unfolding borne_book book_of
  trade_in i h =
      let f = borne_trade (users_of s) in
      get_or_inside (map f (trades_of s)) i no_trade (f no_trade) (omega (arith, length-map (trades_of s) f, length-trades_of s)) ∙ get_or-map f (trades_of s) i no_trade

  -- what stands, what was notified, its area and its day are as they are read
  pub standing_in_lem : (i : ℕ) → i < count_of_trades s → (get_or (trades_in s) i no_trade).standing ≡ (get_or (trades_of s) i no_trade).standing
  unfolding borne_trade shut as_borne
  standing_in_lem i h = ap (λ (t : Trade). t.standing) (trade_in i h)

  pub notified_in : (i : ℕ) → i < count_of_trades s → (get_or (trades_in s) i no_trade).terms.notified ≡ (get_or (trades_of s) i no_trade).terms.notified
  unfolding borne_trade shut as_borne
  notified_in i h = ap (λ (t : Trade). t.terms.notified) (trade_in i h)

  pub area_in : (i : ℕ) → i < count_of_trades s → (get_or (trades_in s) i no_trade).terms.area ≡ (get_or (trades_of s) i no_trade).terms.area
  unfolding borne_trade shut as_borne
  area_in i h = ap (λ (t : Trade). t.terms.area) (trade_in i h)

  -- the id at a place
  pub id_in_lem : (p : ℕ) → id_at (users_in s) p ≡ id_at (users_of s) p
  unfolding borne_book book_of borne_user nobody
  id_in_lem p =
      sym (get_or-map (λ (u : User). u.party.id) (map (borne_user (users_of s)) (users_of s)) p nobody)
      ∙ ap (λ (xs : List ℕ). get_or xs p 0) (map-map (λ (u : User). u.party.id) (borne_user (users_of s)) (users_of s))
      ∙ get_or-map (λ (u : User). u.party.id) (users_of s) p nobody

  module _ (a : Accepted s) where
    pub ids_in : T (ids_rise 0 (users_in s))
    ids_in = borne_ids (book_of s) a.sound

    pub valid_in : T (all (borne_valid (users_in s)) (trades_in s))
    valid_in = borne_valid_lem (book_of s) a.sound

    pub sellers_known : T (all (λ t. known (users_in s) t.terms.seller) (trades_in s))
    unfolding borne_valid
    sellers_known = all_by (borne_valid (users_in s)) (λ t. known (users_in s) t.terms.seller) (λ t v. search (and_l, and_r)) (trades_in s) valid_in

    pub buyers_known : T (all (λ t. known (users_in s) t.terms.buyer) (trades_in s))
    unfolding borne_valid
    buyers_known = all_by (borne_valid (users_in s)) (λ t. known (users_in s) t.terms.buyer) (λ t v. search (and_l, and_r)) (trades_in s) valid_in

-- who bears the risk of the parties of a trade
module _ (s sellers buyers : List ℕ) (b : BorneIn s sellers buyers) {i : ℕ} (l : i < count_of_trades s) where
  module _ {seller : ℕ} (e : seller ≡ get_or sellers i 0) where
    pub seller_within : seller < count_of_users s
    seller_within =
        omega (arith, length-users_in s, party_within (λ r. r.seller) (users_in s) (trades_in s) sellers (ids_in s b.accepted) (sellers_known s b.accepted) b.placed.of_sellers (omega (arith, length-trades_in s)) e)

    pub seller_is : (p : ℕ) → p < count_of_users s → eqb seller p ≡ eqb (get_or (trades_in s) i no_trade).terms.seller (id_at (users_in s) p)
    seller_is p h =
        party_is (λ r. r.seller) (users_in s) (trades_in s) sellers (ids_in s b.accepted) (sellers_known s b.accepted) b.placed.of_sellers (omega (arith, length-trades_in s)) e p (omega (arith, length-users_in s))

  module _ {buyer : ℕ} (e : buyer ≡ get_or buyers i 0) where
    pub buyer_within : buyer < count_of_users s
    buyer_within =
        omega (arith, length-users_in s, party_within (λ r. r.buyer) (users_in s) (trades_in s) buyers (ids_in s b.accepted) (buyers_known s b.accepted) b.placed.of_buyers (omega (arith, length-trades_in s)) e)

    pub buyer_is : (p : ℕ) → p < count_of_users s → eqb buyer p ≡ eqb (get_or (trades_in s) i no_trade).terms.buyer (id_at (users_in s) p)
    buyer_is p h =
        party_is (λ r. r.buyer) (users_in s) (trades_in s) buyers (ids_in s b.accepted) (buyers_known s b.accepted) b.placed.of_buyers (omega (arith, length-trades_in s)) e p (omega (arith, length-users_in s))

    buyer_id : id_at (users_in s) buyer ≡ (get_or (trades_in s) i no_trade).terms.buyer
    buyer_id =
        party-id (λ r. r.buyer) (users_in s) (trades_in s) buyers (ids_in s b.accepted) (buyers_known s b.accepted) b.placed.of_buyers (omega (arith, length-trades_in s)) e

    -- a trade can be cut as it is borne where it can be cut, and two bear the risk of its parties
    pub bilateral_in : {seller : ℕ} → seller ≡ get_or sellers i 0
        → bilateral_for_day (get_or (trades_in s) i no_trade) ≡ (bilateral_for_day (get_or (trades_of s) i no_trade) && not (eqb seller buyer))
    unfolding bilateral_for_day borne_trade shut as_borne
    bilateral_in {seller} f =
        let t = get_or (trades_of s) i no_trade in
        let r = (as_borne (users_of s) t).terms in
        let same : eqb seller buyer ≡ eqb r.seller r.buyer
        = seller_is f buyer buyer_within ∙ ap (λ (id : ℕ). eqb (get_or (trades_in s) i no_trade).terms.seller id) buyer_id
        ∙ ap (λ (x : Trade). eqb x.terms.seller x.terms.buyer) (trade_in s i l) in
        ap (λ (x : Trade). eqb x.terms.kind 0 && eqb x.terms.day 0) (trade_in s i l) ∙ go (eqb r.seller r.buyer) same
      where
        go : (c : Bool) → eqb seller buyer ≡ c
            → (eqb (cond c 1 (get_or (trades_of s) i no_trade).terms.kind) 0 && eqb (get_or (trades_of s) i no_trade).terms.day 0)
            ≡ ((eqb (get_or (trades_of s) i no_trade).terms.kind 0 && eqb (get_or (trades_of s) i no_trade).terms.day 0) && not (eqb seller buyer))
        go true e = rw (e, and-false (eqb (get_or (trades_of s) i no_trade).terms.kind 0 && eqb (get_or (trades_of s) i no_trade).terms.day 0)) refl
        go false e = rw (e, and-true (eqb (get_or (trades_of s) i no_trade).terms.kind 0 && eqb (get_or (trades_of s) i no_trade).terms.day 0)) refl
