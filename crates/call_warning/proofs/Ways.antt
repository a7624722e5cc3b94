-- The ways out of a warning, of a trade that warns, and of a flagged shipper. Assumes nothing.
use Rattle.base.specs.Basics.{◌≡◌, refl, sym, ap, subst, ◌∙◌, Bool, true, false, ◌||◌, List, [], ◌∷◌, ℕ, ◌+◌, ◌≤◌, ◌<◌, arith, T, drop, get_or, eq-eqb, le-ltb, lt-ltb, ne_eqb}
use Rattle.std.proofs.lemmas.List.{drop_all, drop_more}
use Rattle.base.proofs.Linear.{by_order}
use Rattle.base.specs.Lists.{any}
use Rattle.rules.specs.Areas.{managers_in}
use Rattle.rules.specs.Bearers.{as_borne, bearer}
use Rattle.rules.specs.Book.{Book, Trade, User, bilateral_for_day, find, no_trade, nobody}
use Rattle.rules.specs.Calls.{id_known, is_shipper}
use Rattle.rules.specs.Levels.{Limits, buys, flagged, flagged_from, seller_of, shipper}
use Rattle.rules.specs.Queries.{a_warning, about_query, found, only_number, reply_after, warned, warning, warns}
use Rattle.rules.specs.Questions.{Question, after, first_of, known, refusal, trade_is_valid}
use Rattle.laws.proofs.Managers.{bearer-known}
use Rattle.laws.proofs.Positions.{seller_known}
use Rattle.laws.proofs.Settle.{area-lt}
use Rattle.laws_sales.proofs.Alone.{own_risk}
use Rattle.units.specs.Prices.{as_prices, InRange}
use Rattle.units.specs.declared.Net.{Net}
use Rattle.units.specs.declared.Prices.{Prices}
use Rattle.book_records.specs.User.{alone, as_amounts, as_user}
use Rattle.book_records.specs.declared.User as code
use Rattle.book_format.specs.Book.{book_of, count_of_trades, count_of_users, trades_of, users_of, version_of}
use Rattle.book_format.specs.Held.{Accepted}
use Rattle.book_format.specs.Questions.{book_number}
use Rattle.book_format.specs.Steps.{place_of}
use Rattle.book_format.proofs.OneUser.{find_place, unknown_place}
use Rattle.book_format.proofs.Passed.{length-trades_of, length-users_of}
use Rattle.call_entry.proofs.Calls.{query_found, query_refused}
use Rattle.call_entry.specs.Entered.{Found}
use Rattle.risk_bearers.specs.Bearers.{users_in}
use Rattle.risk_holdings.specs.Holdings.{positioned}
use Rattle.risk_members.proofs.Members.{read_blocked}
use Rattle.risk_user.proofs.Accepted.{blocked_within, prices_within}
use Rattle.risk_user.proofs.Held.{flagged_row}
use Rattle.call_warning.specs.Warned.{Priced, flagged_shipper, buyer_is_warned}

-- ---- a flagged shipper

module _ (limits : Limits) (b : Book) where
  pub shipper_no : (u : User) → (u.party.role ≡ 0 → ⊥) → false ≡ flagged_shipper limits b u
  unfolding flagged_shipper shipper
  shipper_no u h = rw (ne_eqb u.party.role 0 h)

  pub shipper_yes : (u : User) → u.party.role ≡ 0 → flagged limits b u ≡ flagged_shipper limits b u
  unfolding flagged_shipper shipper
  shipper_yes u h = rw (eq-eqb u.party.role 0 h)

  -- ---- a trade that warns its buyer

  pub other_buyer : (id : ℕ) (t : Trade) → (t.terms.buyer ≡ id → ⊥) → false ≡ buyer_is_warned limits b id t
  unfolding buyer_is_warned
  other_buyer id t h = rw (ne_eqb t.terms.buyer id h)

  module _ (id : ℕ) (t : Trade) (h : t.terms.buyer ≡ id) where
    pub other_kind : bilateral_for_day t ≡ false → false ≡ buyer_is_warned limits b id t
    unfolding buyer_is_warned warns
    other_kind k = rw (eq-eqb t.terms.buyer id h, k)

    module _ (k : bilateral_for_day t ≡ true) where
      pub nothing_stands : t.standing ≡ 0 → false ≡ buyer_is_warned limits b id t
      unfolding buyer_is_warned warns
      nothing_stands e = rw (eq-eqb t.terms.buyer id h, k, le-ltb 0 t.standing (omega arith))

      pub by_seller : (t.standing ≡ 0 → ⊥) → flagged_shipper limits b (seller_of b t) ≡ buyer_is_warned limits b id t
      unfolding buyer_is_warned warns flagged_shipper
      by_seller e = rw (eq-eqb t.terms.buyer id h, k, lt-ltb 0 t.standing (omega arith))

  -- ---- who is warned

  pub warned-flagged : (u : User) → flagged limits b u ≡ true → true ≡ warned limits b u
  unfolding warned
  warned-flagged u h = rw h

  pub warned_buyer : (u : User) → flagged limits b u ≡ false → any (buyer_is_warned limits b u.party.id) b.trades ≡ warned limits b u
  unfolding warned buyer_is_warned buys
  warned_buyer u h = rw h

-- ---- the prices, and the user that is read at its place

pub prices_range : {s : List ℕ} {prices : Prices} → Priced s prices → InRange (as_prices prices)
prices_range {s} p = subst InRange p.same (prices_within s p.passes)

-- the user of a known id has a place
pub known_inside : (s : List ℕ) (id : ℕ) → T (known (users_of s) id) → place_of (users_of s) id < count_of_users s
known_inside s id k = by_order (place_of (users_of s) id) (count_of_users s) (λ h. h) (λ h. absurd (subst T (unknown_place s id h) k))

module _ (s : List ℕ) (passes : book_number s ≡ 0) {place : ℕ} (h : place < count_of_users s) where
  pub blocked_most : (u : code.User) → as_user u ≡ alone (get_or (users_of s) place nobody) → u.blocked.0 ≤ 1000000000000
  blocked_most u e = omega (arith, read_blocked u (get_or (users_of s) place nobody) e, blocked_within s passes h)

  -- whether it is flagged, by its positions as its risk is borne
  pub flag_at : (limits : Limits) (prices : Prices) → as_prices prices ≡ (book_of s).header.prices → (v : List Net) → as_amounts v ≡ (get_or (users_in s) place nobody).position
      → flagged_from limits (as_prices prices) (get_or (users_of s) place nobody) (positioned v) ≡ flagged limits (book_of s) (get_or (users_of s) place nobody)
  unfolding book_of
  flag_at limits prices priced v e = flagged_row (book_of s) place (omega (arith, length-users_of s)) limits priced v e

-- ---- one trade after the other

-- none of the first i warns: what is left to look at has the whole answer
pub record Unwarned (p : Trade → Bool) (s : List ℕ) (i : ℕ) : Type 0 where
  pub within : i ≤ count_of_trades s
  pub left : any p (drop i (trades_of s)) ≡ any p (trades_of s)

module _ (p : Trade → Bool) (s : List ℕ) where
  -- what is left begins with the next trade
  next_trade : (i : ℕ) → i < count_of_trades s → any p (drop i (trades_of s)) ≡ p (get_or (trades_of s) i no_trade) || any p (drop (i + 1) (trades_of s))
  unfolding any
  next_trade i h = ap (any p) (drop_more (trades_of s) i no_trade (omega (arith, length-trades_of s)))

  next_is : {i : ℕ} {b : Bool} → i < count_of_trades s → p (get_or (trades_of s) i no_trade) ≡ b → (b || any p (drop (i + 1) (trades_of s))) ≡ any p (drop i (trades_of s))
  next_is {i} h e = sym (next_trade i h ∙ ap (λ (b : Bool). b || any p (drop (i + 1) (trades_of s))) e)

  pub warned_here : {i : ℕ} → Unwarned p s i → i < count_of_trades s → p (get_or (trades_of s) i no_trade) ≡ true → true ≡ any p (trades_of s)
  warned_here now h e = next_is h e ∙ now.left

  pub unwarned_next : {i : ℕ} → Unwarned p s i → i < count_of_trades s → p (get_or (trades_of s) i no_trade) ≡ false → Unwarned p s (i + 1)
  unwarned_next now h e = record { within = omega arith; left = next_is h e ∙ now.left }

  pub none_warned : {i : ℕ} → Unwarned p s i → count_of_trades s ≤ i → false ≡ any p (trades_of s)
  unfolding any
  none_warned {i} now h = ap (any p) (sym (drop_all i (trades_of s) (omega (arith, length-trades_of s)))) ∙ now.left

-- ---- who bears the seller's risk

module _ (s : List ℕ) (a : Accepted s) (t : Trade) (valid : T (trade_is_valid (users_of s) t)) where
  pub seller_itself : managers_in (version_of s) ≡ false → (find (book_of s).users t.terms.seller ≡ seller_of (book_of s) t) × T (known (users_of s) t.terms.seller)
  unfolding book_of
  seller_itself none = (sym ((own_risk (book_of s) a.sound none).seller t valid), seller_known (users_of s) t valid)

  pub seller-place : {place : ℕ} → place ≡ place_of (users_of s) t.terms.seller → place < count_of_users s
  seller-place e = omega (arith, e, known_inside s t.terms.seller (seller_known (users_of s) t valid))

  pub seller_borne : {place r : ℕ} → place ≡ place_of (users_of s) t.terms.seller → r ≡ bearer (get_or (users_of s) place nobody) t.terms.area
      → (find (book_of s).users r ≡ seller_of (book_of s) t) × T (known (users_of s) r)
  unfolding book_of seller_of as_borne
  seller_borne {place} {r} e k =
      let us = users_of s in
      let id = t.terms.seller in
      let area = t.terms.area in
      let is : r ≡ bearer (find us id) area = k ∙ ap (λ (i : ℕ). bearer (get_or us i nobody) area) e ∙ ap (λ (u : User). bearer u area) (sym (find_place us id)) in
      (ap (find us) is, subst (λ (n : ℕ). T (known us n)) (sym is) (bearer-known (book_of s) a.sound id area (area-lt us t valid) (seller_known us t valid)))

-- ---- a warning

module _ (before : ℕ) (limits : Limits) (s : List ℕ) (id : ℕ) where
  -- what is asked after the entry
  rest : List Question
  rest = is_shipper (find (book_of s).users id) ∷ []

  own : about_query (book_of s) (warning id) ≡ id_known (book_of s) id ∷ rest
  unfolding about_query rest
  own = refl

  pub warning_refused : {n : ℕ} → n ≡ first_of before (refusal (id_known (book_of s) id ∷ [])) → (n ≡ 0 → ⊥) → only_number n ≡ reply_after before limits (book_of s) (warning id)
  warning_refused e h = sym (query_refused before limits s id rest (warning id) own e h)

  module _ {place : ℕ} (o : before ≡ 0) (f : Found s id place) where
    found_reply : reply_after before limits (book_of s) (warning id) ≡ after (refusal rest) only_number (found limits (book_of s) (warning id))
    found_reply = query_found before limits s id rest (warning id) own o f

    pub warning_of_house : ((find (book_of s).users id).party.role ≡ 0 → ⊥) → only_number 9 ≡ reply_after before limits (book_of s) (warning id)
    unfolding rest is_shipper shipper refusal after
    warning_of_house h = rw (found_reply, ne_eqb (find (book_of s).users id).party.role 0 h)

    pub warning_found : (find (book_of s).users id).party.role ≡ 0 → a_warning (warned limits (book_of s) (find (book_of s).users id)) ≡ reply_after before limits (book_of s) (warning id)
    unfolding rest is_shipper shipper refusal after found
    warning_found h = rw (found_reply, eq-eqb (find (book_of s).users id).party.role 0 h)
