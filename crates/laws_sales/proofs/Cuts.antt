-- The cuts of a reduction are those of the user's own sales, spread over the trades; what they do to the sales of each user and to the tally. Assumes nothing.
use Rattle.base.specs.Basics.{◌≡◌, refl, sym, ap, ap₂, subst, fun_ext, ◌∙◌, Bool, true, false, not, cond, ◌&&◌, ◌||◌, List, [], ◌∷◌, map, map-map, ℕ, ◌+◌, ◌-◌}
use Rattle.base.specs.Basics.{sub-zero, zero-mul, arith, T, eqb, leb, ltb, ℤ, length, length-map, ltb-false}
use Rattle.laws.proofs.{Cuts.together_within, Cuts.lot_standings, Shares.each_within, Shares.within_length, Shares.tier_length, Shares.tier_within}
use Rattle.base.proofs.Tests.{and_i, and_l, and_r, map_by, by_case, holds, or_by}
use Rattle.laws.specs.Trades.{cut_within, cuts_within, standing_if}
use Rattle.base.specs.Parts.{neg_part}
use Rattle.rules.specs.{Areas.Prices, Areas.tariff, Book.Book, Book.User, Book.Trade, Book.bilateral_for_day, Shares.Lot, Shares.tier_worth, Shares.cuts_of_tier}
use Rattle.rules.specs.{Bearers.as_borne, Levels.holding}
use Rattle.rules.specs.Reduction.{eligible, short_in, lot, tier_one, tier_two, together, cuts, cut_by, cut_all, Tally, tallied, tally_all}
use Rattle.laws_sales.proofs.Kept.{kept_map, kept_yes, kept_no, kept_pass, spread_yes, spread_no, spread_through, spread-together}
use Rattle.laws_sales.proofs.{Own.own_eligible, Sums.at_sums, Tiers.tier_kept, Tiers.worth_kept}
use Rattle.laws_sales.specs.{Borne.borne_book, Borne.borne_trade, Borne.borne_user, Borne.shut, Sales.own_sale, Sales.short_at, Sales.sale_lots, Sales.sale_cuts}
use Rattle.laws_sales.specs.{Kept.kept, Kept.spread, Own.EligibleBy, Own.OfTerms, Own.Owned, Reduced.cuts_by}

-- ---- the cuts of own sales

-- a tier has a cut for each sale
tier_count : (f : Prices) (belongs : ℕ → Bool) (asked : ℕ) (ss : List Trade) → length (cuts_of_tier asked (sale_lots f belongs ss)) ≡ length ss
unfolding sale_lots
tier_count f belongs asked ss = tier_length asked (sale_lots f belongs ss) ∙ length-map ss (lot f (λ t. belongs t.terms.area))

module _ (f : Prices) (short : ℕ → Bool) (asked : ℕ) (ss : List Trade) where
  -- a sale is of one of the tiers
  both : (s : Trade) → standing_if (λ t. short t.terms.area) s + standing_if (λ t. not (short t.terms.area)) s ≡ s.standing
  both s = by_case (short s.terms.area) (λ e. rw e (omega arith)) (λ e. rw e (omega arith))

  -- each cut is at most what stands, and there are as many cuts as sales
  pub sale_within : T (each_within (sale_cuts f short asked ss) (map (λ s. s.standing) ss))
  unfolding sale_cuts sale_lots
  sale_within =
      let p : Trade → Bool = λ t. short t.terms.area in
      let q : Trade → Bool = λ t. not (short t.terms.area) in
      let one = sale_lots f short ss in
      let two = sale_lots f (λ area. not (short area)) ss in
      subst (λ (g : Trade → ℕ). T (each_within (sale_cuts f short asked ss) (map g ss))) (fun_ext both)
      (together_within (standing_if p) (standing_if q) (cuts_of_tier asked one) (cuts_of_tier (asked - tier_worth one) two) ss
      (rw (lot_standings f p ss) at (tier_within asked one))
      (rw (lot_standings f q ss) at (tier_within (asked - tier_worth one) two)))

  pub sale_length : length (sale_cuts f short asked ss) ≡ length ss
  sale_length =
      within_length (sale_cuts f short asked ss) (map (λ s. s.standing) ss) sale_within ∙ length-map ss (λ s. s.standing)

-- ---- the cuts of a reduction

-- a sale of the user is eligible where it stands above 0
kept_standing : (own some belongs : Bool) (n : ℕ) → T own → (some ≡ false → n ≡ 0) → cond ((own && some) && belongs) n 0 ≡ cond belongs n 0
kept_standing true true belongs n h z = refl
kept_standing true false true n h z = sym (z refl)
kept_standing true false false n h z = refl
kept_standing false some belongs n h z = absurd h

other_standing : (own some belongs : Bool) (n : ℕ) → T (not own) → cond ((own && some) && belongs) n 0 ≡ 0
other_standing true some belongs n h = absurd h
other_standing false some belongs n h = refl

-- what does not stand above 0 is 0
not_above : (n : ℕ) → ltb 0 n ≡ false → n ≡ 0
not_above n e = omega (arith, ltb-false 0 n e)

module _ (b : Book) (u : User) (p : Trade → Bool) (own : EligibleBy b u p) where
  -- a tier of the book: the user's eligible trades in areas that pass a test
  lot_in : (ℕ → Bool) → Trade → Lot
  lot_in belongs = lot b.header.prices (λ t. eligible b u t && belongs t.terms.area)

  module _ (belongs : ℕ → Bool) where
    lot_none : (t : Trade) → T (not (p t)) → (lot_in belongs t).standing ≡ 0
    unfolding lot_in lot EligibleBy
    lot_none t h =
        ap (λ (c : Bool). cond (c && belongs t.terms.area) t.standing 0) (own t)
        ∙ other_standing (p t) (ltb 0 t.standing) (belongs t.terms.area) t.standing h

    lots_sales : map (lot_in belongs) (kept p b.trades) ≡ sale_lots b.header.prices belongs (kept p b.trades)
    unfolding lot_in lot sale_lots EligibleBy
    lots_sales =
        map_by p (lot_in belongs) (lot b.header.prices (λ t. belongs t.terms.area))
        (λ t h. ap (λ (n : ℕ). record { standing = n; tariff = tariff b.header.prices t.terms.area })
        (ap (λ (c : Bool). cond (c && belongs t.terms.area) t.standing 0) (own t)
        ∙ kept_standing (p t) (ltb 0 t.standing) (belongs t.terms.area) t.standing h (not_above t.standing)))
        (kept p b.trades) (kept_pass p b.trades)

    tier_worth_sales : tier_worth (map (lot_in belongs) b.trades) ≡ tier_worth (sale_lots b.header.prices belongs (kept p b.trades))
    tier_worth_sales = worth_kept p (lot_in belongs) lot_none b.trades ∙ ap tier_worth lots_sales

    tier_sales : (asked : ℕ) → cuts_of_tier asked (map (lot_in belongs) b.trades) ≡ spread p b.trades (cuts_of_tier asked (sale_lots b.header.prices belongs (kept p b.trades)))
    tier_sales asked =
        tier_kept p (lot_in belongs) lot_none asked b.trades
        ∙ ap (λ (xs : List Lot). spread p b.trades (cuts_of_tier asked xs)) lots_sales

  -- the cuts of a reduction are the cuts of the user's own sales, each at its place, and 0 elsewhere
  cuts-kept : (short : ℕ → Bool) → ((t : Trade) → short_in b u t ≡ short t.terms.area) → (asked : ℕ)
      → cuts b u asked ≡ spread p b.trades (sale_cuts b.header.prices short asked (kept p b.trades))
  unfolding cuts tier_one tier_two sale_cuts lot_in
  cuts-kept short is asked =
      let ss = kept p b.trades in
      let long : ℕ → Bool = λ area. not (short area) in
      let one = sale_lots b.header.prices short ss in
      let two = sale_lots b.header.prices long ss in
      let tiers : (Trade → Bool) → List ℕ
      = λ (q : Trade → Bool).
      let first = map (lot b.header.prices (λ t. eligible b u t && q t)) b.trades in
      together (cuts_of_tier asked first) (cuts_of_tier (asked - tier_worth first) (map (lot b.header.prices (λ t. eligible b u t && not (q t))) b.trades)) in
      ap tiers (fun_ext is)
      ∙ ap₂ together (tier_sales short asked)
      (ap (λ (n : ℕ). cuts_of_tier (asked - n) (map (lot_in long) b.trades)) (tier_worth_sales short) ∙ tier_sales long (asked - tier_worth one))
      ∙ spread-together p b.trades (cuts_of_tier asked one) (cuts_of_tier (asked - tier_worth one) two)
      (tier_count b.header.prices short asked ss ∙ sym (tier_count b.header.prices long (asked - tier_worth one) ss))

-- ---- trades as they are borne

module _ (us : List User) where
  -- what a tier reads of a sale is as it was
  lots_borne : (f : Prices) (belongs : ℕ → Bool) (ss : List Trade) → sale_lots f belongs (map (borne_trade us) ss) ≡ sale_lots f belongs ss
  unfolding sale_lots lot borne_trade shut as_borne
  lots_borne f belongs ss = map-map (lot f (λ t. belongs t.terms.area)) (borne_trade us) ss

  sale_cuts_borne : (f : Prices) (short : ℕ → Bool) (asked : ℕ) (ss : List Trade) → sale_cuts f short asked (map (borne_trade us) ss) ≡ sale_cuts f short asked ss
  unfolding sale_cuts
  sale_cuts_borne f short asked ss = rw (lots_borne f short ss, lots_borne f (λ area. not (short area)) ss)

  -- cuts of trades as they are borne
  pub cut_borne : (cs : List ℕ) (ts : List Trade) → map (borne_trade us) (cut_all cs ts) ≡ cut_all cs (map (borne_trade us) ts)
  unfolding cut_all cut_by borne_trade shut as_borne
  cut_borne [] ts = refl
  cut_borne (c ∷ cs) [] = refl
  cut_borne (c ∷ cs) (t ∷ ts) = ap (λ (ns : List Trade). borne_trade us (cut_by c t) ∷ ns) (cut_borne cs ts)

  -- what may be cut as it is borne may be cut
  pub within_borne : (cs : List ℕ) (ts : List Trade) → T (cuts_within bilateral_for_day cs (map (borne_trade us) ts)) → T (cuts_within bilateral_for_day cs ts)
  unfolding cuts_within cut_within bilateral_for_day borne_trade shut as_borne
  within_borne [] [] h = h
  within_borne [] (t ∷ ts) h = h
  within_borne (c ∷ cs) [] h = h
  within_borne (c ∷ cs) (t ∷ ts) h =
      let one = cut_within bilateral_for_day c (borne_trade us t) in
      let rest = cuts_within bilateral_for_day cs (map (borne_trade us) ts) in
      and_i (cut_within bilateral_for_day c t) (cuts_within bilateral_for_day cs ts) (here c t (and_l one rest h)) (within_borne cs ts (and_r one rest h))
    where
      kind : (x : Bool) (n d : ℕ) → T (eqb (cond x 1 n) 0 && eqb d 0) → T (eqb n 0 && eqb d 0)
      kind true n d h = absurd h
      kind false n d h = h

      here : (c : ℕ) (t : Trade) → T (cut_within bilateral_for_day c (borne_trade us t)) → T (cut_within bilateral_for_day c t)
      here c t h =
          let r = (as_borne us t).terms in
          let low = leb c t.standing in
          let all = eqb c 0 || bilateral_for_day (borne_trade us t) in
          and_i low (eqb c 0 || bilateral_for_day t) (and_l low all h)
          (or_by (eqb c 0) (bilateral_for_day (borne_trade us t)) (bilateral_for_day t)
          (kind (eqb r.seller r.buyer) t.terms.kind t.terms.day) (and_r low all h))

  -- and their tally
  pub tally_borne : (f : Prices) (cs : List ℕ) (ts : List Trade) (tally : Tally) → tally_all f cs (map (borne_trade us) ts) tally ≡ tally_all f cs ts tally
  unfolding tally_all tallied borne_trade shut as_borne
  tally_borne f [] ts tally = refl
  tally_borne f (c ∷ cs) [] tally = refl
  tally_borne f (c ∷ cs) (t ∷ ts) tally = tally_borne f cs ts (tallied f c t tally)

-- the position as it is borne is negative in the trade's area
short_borne : (b : Book) (u : User) (t : Trade) → short_in b u t ≡ short_at (borne_user b.users u) t.terms.area
unfolding short_in holding short_at borne_user
short_borne b u t = ap (λ (z : ℤ). ltb 0 (neg_part z)) (sym (at_sums (λ v. v.position) b.users u.party.id t.terms.area))

-- the cuts of a reduction, of the sales as they are borne
pub cuts_sales : (b : Book) (u : User) (asked : ℕ)
    → cuts b u asked ≡ spread (own_sale u.party.id) (borne_book b).trades (cuts_by own_sale (borne_book b) (borne_user b.users u) asked)
unfolding borne_book borne_user
cuts_sales b u asked =
    let own = own_sale u.party.id in
    let f = borne_trade b.users in
    let short = short_at (borne_user b.users u) in
    let real = kept (λ t. own (f t)) b.trades in
    cuts-kept b u (λ t. own (f t)) (own_eligible b u) short (short_borne b u) asked
    ∙ ap (spread (λ t. own (f t)) b.trades)
    (sym (sale_cuts_borne b.users b.header.prices short asked real)
    ∙ ap (sale_cuts b.header.prices short asked) (sym (kept_map own f b.trades)))
    ∙ sym (spread_through own f b.trades (cuts_by own_sale (borne_book b) (borne_user b.users u) asked))

-- ---- cuts of trades

-- a cut of 0 leaves the trade
pub cut_zero : (t : Trade) → cut_by 0 t ≡ t
unfolding cut_by
cut_zero t = ap (λ (n : ℕ). record { terms = t.terms; standing = n }) (sub-zero t.standing)

-- cuts for none of those that pass leave all
pub cut_nobody : (p : Trade → Bool) (ts : List Trade) → cut_all (spread p ts []) ts ≡ ts
unfolding spread cut_all
cut_nobody p [] = refl
cut_nobody p (t ∷ ts) = ap₂ (λ (n : Trade) (ns : List Trade). n ∷ ns) (cut_zero t) (cut_nobody p ts)

-- one element of the cuts of those that pass
pub cut_yes : (p : Trade → Bool) (t : Trade) (ts : List Trade) (c : ℕ) (cs : List ℕ) → p t ≡ true
    → cut_all (spread p (t ∷ ts) (c ∷ cs)) (t ∷ ts) ≡ cut_by c t ∷ cut_all (spread p ts cs) ts
unfolding cut_all
cut_yes p t ts c cs e = rw (spread_yes p t ts c cs e)

pub cut_no : (p : Trade → Bool) (t : Trade) (ts : List Trade) (cs : List ℕ) → p t ≡ false
    → cut_all (spread p (t ∷ ts) cs) (t ∷ ts) ≡ t ∷ cut_all (spread p ts cs) ts
unfolding cut_all
cut_no p t ts cs e = rw (spread_no p t ts cs e) (ap (λ (n : Trade). n ∷ cut_all (spread p ts cs) ts) (cut_zero t))

-- of those that pass, the cuts are taken off
pub kept_cut : (p : Trade → Bool) → OfTerms p → (ts : List Trade) (cs : List ℕ) → kept p (cut_all (spread p ts cs) ts) ≡ cut_all cs (kept p ts)
unfolding OfTerms cut_all kept spread cut_by
kept_cut p o ts [] = ap (kept p) (cut_nobody p ts)
kept_cut p o [] (c ∷ cs) = refl
kept_cut p o (t ∷ ts) (c ∷ cs) =
    by_case (p t)
    (λ e. ap (kept p) (cut_yes p t ts c cs e) ∙ kept_yes p (cut_by c t) (cut_all (spread p ts cs) ts) (o t (cut_by c t) refl ∙ e)
    ∙ ap (λ (ns : List Trade). cut_by c t ∷ ns) (kept_cut p o ts cs) ∙ ap (cut_all (c ∷ cs)) (sym (kept_yes p t ts e)))
    (λ e. ap (kept p) (cut_no p t ts (c ∷ cs) e) ∙ kept_no p t (cut_all (spread p ts (c ∷ cs)) ts) e
    ∙ kept_cut p o ts (c ∷ cs) ∙ ap (cut_all (c ∷ cs)) (sym (kept_no p t ts e)))

-- of others, nothing is
pub kept_apart : (p q : Trade → Bool) → OfTerms q → ((t : Trade) → T (p t) → q t ≡ false) → (ts : List Trade) (cs : List ℕ)
    → kept q (cut_all (spread p ts cs) ts) ≡ kept q ts
unfolding OfTerms cut_all spread cut_by
kept_apart p q o d ts [] = ap (kept q) (cut_nobody p ts)
kept_apart p q o d [] (c ∷ cs) = refl
kept_apart p q o d (t ∷ ts) (c ∷ cs) =
    by_case (p t)
    (λ e. ap (kept q) (cut_yes p t ts c cs e) ∙ kept_no q (cut_by c t) (cut_all (spread p ts cs) ts) (o t (cut_by c t) refl ∙ d t (holds e))
    ∙ kept_apart p q o d ts cs ∙ sym (kept_no q t ts (d t (holds e))))
    (λ e. ap (kept q) (cut_no p t ts (c ∷ cs) e)
    ∙ by_case (q t)
    (λ k. kept_yes q t (cut_all (spread p ts (c ∷ cs)) ts) k ∙ ap (λ (ns : List Trade). t ∷ ns) (kept_apart p q o d ts (c ∷ cs)) ∙ sym (kept_yes q t ts k))
    (λ k. kept_no q t (cut_all (spread p ts (c ∷ cs)) ts) k ∙ kept_apart p q o d ts (c ∷ cs) ∙ sym (kept_no q t ts k)))

module _ {own : ℕ → Trade → Bool} (o : Owned own) (id : ℕ) (ts : List Trade) (cs : List ℕ) where
  -- the user's own sales after the cuts
  pub sales_cut : kept (own id) (cut_all (spread (own id) ts cs) ts) ≡ cut_all cs (kept (own id) ts)
  sales_cut = kept_cut (own id) (o.of_terms id) ts cs

  -- another's
  pub sales_other : (other : ℕ) → (other ≡ id → ⊥) → kept (own other) (cut_all (spread (own id) ts cs) ts) ≡ kept (own other) ts
  sales_other other n = kept_apart (own id) (own other) (o.of_terms other) (o.apart id other n) ts cs

-- ---- the tally

module _ (f : Prices) where
  -- no cut changes no tally
  pub tally-zero : (t : Trade) (tally : Tally) → tallied f 0 t tally ≡ tally
  unfolding tallied
  tally-zero t tally =
      ap₂ (λ (m n : ℕ). record { mwh = m; worth = n }) (omega arith) (omega (arith, zero-mul (tariff f t.terms.area)))

  tally_nobody : (p : Trade → Bool) (ts : List Trade) (tally : Tally) → tally_all f (spread p ts []) ts tally ≡ tally
  unfolding spread tally_all
  tally_nobody p [] tally = refl
  tally_nobody p (t ∷ ts) tally = ap (tally_all f (spread p ts []) ts) (tally-zero t tally) ∙ tally_nobody p ts tally

  -- the tally of spread cuts is that of the cuts of those that pass
  pub tally-kept : (p : Trade → Bool) (ts : List Trade) (cs : List ℕ) (tally : Tally) → tally_all f (spread p ts cs) ts tally ≡ tally_all f cs (kept p ts) tally
  unfolding tally_all kept spread
  tally-kept p ts [] tally = tally_nobody p ts tally
  tally-kept p [] (c ∷ cs) tally = refl
  tally-kept p (t ∷ ts) (c ∷ cs) tally =
      by_case (p t)
      (λ e. rw (spread_yes p t ts c cs e, kept_yes p t ts e) (tally-kept p ts cs (tallied f c t tally)))
      (λ e. rw (spread_no p t ts (c ∷ cs) e, kept_no p t ts e) (ap (tally_all f (spread p ts (c ∷ cs)) ts) (tally-zero t tally) ∙ tally-kept p ts (c ∷ cs) tally))
