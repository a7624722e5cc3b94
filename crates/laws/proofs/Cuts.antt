-- What holds of a reduction's cuts, for any book, user and amount asked: they are within the user's eligible trades, some MWh is cut where something is asked and a trade
-- is eligible, and the tally's worth is between what is asked, or all there is, and what is asked and one MWh at the largest tariff. Both tiers' laws, added. Assumes nothing.
use Rattle.base.specs.Basics.{◌≡◌, refl, sym, ap, ap₂, subst, fun_ext, ◌∙◌, Bool, true, false, not, ◌&&◌, ◌||◌, List, [], ◌∷◌, map, map-map, ℕ, ◌+◌, ◌*◌, ◌-◌, suc}
use Rattle.base.specs.Basics.{◌≤◌, ◌<◌, min, add-mul, not-suc-le-zero, le_of_suc-le-suc, mul-pos, arith, T, leb, ltb, eqb, le→leb, leb→le, ltb→lt, length}
use Rattle.base.specs.Basics.{length-map}
use Rattle.base.proofs.{Linear.by_order, Sums.sum-add, Sums.sum_ext, Sums.sum-map}
use Rattle.base.proofs.Tests.{and_l, and_r, and_i, or_l, or_r, by_test, eqb_of, by_case, holds, all_yes, all_map, or_by}
use Rattle.base.specs.{Sums.sum, Lists.all, Lists.any}
use Rattle.laws.proofs.Shares.{each_within, worth_at, within_length, worth_pos, tier_worth_lem, tier_within, tier_length, tier_worth_le, tier_reaches}
use Rattle.laws.proofs.Shares.{tier_near, tier_none}
use Rattle.laws.specs.Trades.{cut_within, cuts_within, eligible_worth, standing_if, tariff_of}
use Rattle.rules.specs.{Areas.Prices, Areas.tariff, Questions.tariff_valid, Questions.prices_are_valid, Questions.header_is_valid}
use Rattle.rules.specs.{Book.Header, Book.User, Book.Trade, Book.Book, Book.bilateral_for_day, Book.at, Shares.tier_worth, Shares.cuts_of_tier}
use Rattle.rules.specs.Reduction.{eligible, has_eligible, short_in, lot, tier_one, tier_two, together, cuts, Tally, nothing, tallied, tally_all}

-- ---- lists of cuts

-- a cut within what stands of the trades that pass
within_standing : (p : Trade → Bool) (cs : List ℕ) (ts : List Trade) → T (each_within cs (map (standing_if p) ts)) → T (cuts_within p cs ts)
unfolding each_within cuts_within cut_within
within_standing p [] [] h = tt
within_standing p [] (t ∷ ts) h = h
within_standing p (c ∷ cs) [] h = h
within_standing p (c ∷ cs) (t ∷ ts) h =
    let l = leb→le c (standing_if p t) (and_l (leb c (standing_if p t)) (each_within cs (map (standing_if p) ts)) h) in
    and_i (cut_within p c t) (cuts_within p cs ts)
    (by_case (p t)
    (λ e. rw e (and_i (leb c t.standing) (eqb c 0 || true) (le→leb c t.standing (rw e at l)) (or_r (eqb c 0) true tt)))
    (λ e. let z : c ≤ 0 = rw e at l in
    rw e (and_i (leb c t.standing) (eqb c 0 || false) (le→leb c t.standing (omega arith)) (or_l (eqb c 0) false (eqb_of c 0 (omega arith))))))
    (within_standing p cs ts (and_r (leb c (standing_if p t)) (each_within cs (map (standing_if p) ts)) h))

-- a weaker test admits as much
pub cuts_within_by : (p q : Trade → Bool) → ((t : Trade) → T (p t) → T (q t)) → (cs : List ℕ) (ts : List Trade) → T (cuts_within p cs ts) → T (cuts_within q cs ts)
unfolding cuts_within cut_within
cuts_within_by p q f [] [] h = tt
cuts_within_by p q f [] (t ∷ ts) h = h
cuts_within_by p q f (c ∷ cs) [] h = h
cuts_within_by p q f (c ∷ cs) (t ∷ ts) h =
    let k = and_l (cut_within p c t) (cuts_within p cs ts) h in
    and_i (cut_within q c t) (cuts_within q cs ts)
    (and_i (leb c t.standing) (eqb c 0 || q t) (and_l (leb c t.standing) (eqb c 0 || p t) k)
    (or_by (eqb c 0) (p t) (q t) (f t) (and_r (leb c t.standing) (eqb c 0 || p t) k)))
    (cuts_within_by p q f cs ts (and_r (cut_within p c t) (cuts_within p cs ts) h))

-- two cuts of each trade as one
pub together_within : (f g : Trade → ℕ) (cs ds : List ℕ) (ts : List Trade) → T (each_within cs (map f ts)) → T (each_within ds (map g ts))
    → T (each_within (together cs ds) (map (λ t. f t + g t) ts))
unfolding each_within together
together_within f g [] ds [] h k = tt
together_within f g [] ds (t ∷ ts) h k = h
together_within f g (c ∷ cs) ds [] h k = absurd h
together_within f g (c ∷ cs) [] (t ∷ ts) h k = absurd k
together_within f g (c ∷ cs) (d ∷ ds) (t ∷ ts) h k =
    let l = leb→le c (f t) (and_l (leb c (f t)) (each_within cs (map f ts)) h) in
    let m = leb→le d (g t) (and_l (leb d (g t)) (each_within ds (map g ts)) k) in
    and_i (leb (c + d) (f t + g t)) (each_within (together cs ds) (map (λ t. f t + g t) ts)) (le→leb (c + d) (f t + g t) (omega arith))
    (together_within f g cs ds ts (and_r (leb c (f t)) (each_within cs (map f ts)) h) (and_r (leb d (g t)) (each_within ds (map g ts)) k))

pub length-together : (cs ds : List ℕ) → length ds ≡ length cs → length (together cs ds) ≡ length cs
unfolding together
length-together [] ds e = refl
length-together (c ∷ cs) [] e = e
length-together (c ∷ cs) (d ∷ ds) e = ap suc (length-together cs ds (omega arith))

-- their worths add up
together_worth : (cs ds ps : List ℕ) → length cs ≡ length ds → worth_at (together cs ds) ps ≡ worth_at cs ps + worth_at ds ps
unfolding together worth_at
together_worth [] [] ps e = refl
together_worth [] (d ∷ ds) ps e = absurd (omega arith)
together_worth (c ∷ cs) [] ps e = absurd (omega arith)
together_worth (c ∷ cs) (d ∷ ds) [] e = refl
together_worth (c ∷ cs) (d ∷ ds) (p ∷ ps) e =
    omega (arith, together_worth cs ds ps (omega arith), add-mul c d p)

-- ---- the running tally

module _ (f : Prices) where
  -- the MWh of the cuts are added
  pub tally_all_mwh : (cs : List ℕ) (ts : List Trade) (tally : Tally) → length cs ≤ length ts → (tally_all f cs ts tally).mwh ≡ tally.mwh + sum (λ c. c) cs
  unfolding tally_all tallied sum
  tally_all_mwh [] ts tally h = omega arith
  tally_all_mwh (c ∷ cs) [] tally h = absurd (not-suc-le-zero h)
  tally_all_mwh (c ∷ cs) (t ∷ ts) tally h = omega (arith, tally_all_mwh cs ts (tallied f c t tally) (le_of_suc-le-suc h))

  -- and each cut at its tariff
  pub tally_all_worth : (cs : List ℕ) (ts : List Trade) (tally : Tally) → (tally_all f cs ts tally).worth ≡ tally.worth + worth_at cs (map (tariff_of f) ts)
  unfolding tally_all tallied worth_at
  tally_all_worth [] ts tally = omega arith
  tally_all_worth (c ∷ cs) [] tally = omega arith
  tally_all_worth (c ∷ cs) (t ∷ ts) tally = omega (arith, tally_all_worth cs ts (tallied f c t tally))

-- ---- the tiers

-- an eligible trade is bilateral, of the day, and stands
pub eligible_is : (b : Book) (u : User) (t : Trade) → T (eligible b u t) → T (bilateral_for_day t) × (0 < t.standing)
unfolding eligible
eligible_is b u t h =
    let k : T (bilateral_for_day t && ltb 0 t.standing) = search (and_l, and_r) in
    (and_l (bilateral_for_day t) (ltb 0 t.standing) k, ltb→lt 0 t.standing (and_r (bilateral_for_day t) (ltb 0 t.standing) k))

module _ (f : Prices) (p : Trade → Bool) (ts : List Trade) where
  -- a tier's standings, tariffs and worth, read off the trades
  pub lot_standings : map (λ x. x.standing) (map (lot f p) ts) ≡ map (standing_if p) ts
  unfolding lot
  lot_standings = map-map (λ x. x.standing) (lot f p) ts

  lot_tariffs : map (λ x. x.tariff) (map (lot f p) ts) ≡ map (tariff_of f) ts
  unfolding lot
  lot_tariffs = map-map (λ x. x.tariff) (lot f p) ts

  lot_worth : tier_worth (map (lot f p) ts) ≡ sum (λ t. standing_if p t * tariff_of f t) ts
  unfolding lot
  lot_worth = tier_worth_lem (map (lot f p) ts) ∙ sum-map (λ x. x.standing * x.tariff) (lot f p) ts

-- every trade's tariff is P or Q
tariffs_le : (f : Prices) (m : ℕ) → f.p ≤ m → f.q ≤ m → (ts : List Trade) → T (all (λ n. leb n m) (map (tariff_of f) ts))
unfolding tariff
tariffs_le f m h k ts =
    rw (all_map (λ n. leb n m) (tariff_of f) ts)
    (all_yes (λ t. leb (tariff_of f t) m) (λ t. le→leb (tariff_of f t) m (by_test (λ (n : ℕ). n ≤ m) (eqb t.terms.area 0) (λ e. h) (λ e. k))) ts)

-- questions about a book ask that both tariffs are above 0
pub tariff_pos : (h : Header) → T (header_is_valid h) → (area : ℕ) → 0 < tariff h.prices area
unfolding header_is_valid prices_are_valid tariff_valid tariff
tariff_pos h v area =
    by_test (λ (n : ℕ). 0 < n) (eqb area 0)
    (λ e. leb→le 1 h.prices.p (search (and_l, and_r)))
    (λ e. leb→le 1 h.prices.q (search (and_l, and_r)))

-- a trade that passes and stands is worth something where every tariff is above 0
standing_worth_pos : (p : Trade → Bool) (price : Trade → ℕ) → ((t : Trade) → T (p t) → 0 < t.standing) → ((t : Trade) → 0 < price t)
    → (ts : List Trade) → T (any p ts) → 0 < sum (λ t. standing_if p t * price t) ts
unfolding any sum
standing_worth_pos p price f g [] h = absurd h
standing_worth_pos p price f g (t ∷ ts) h =
    by_case (p t) (λ e. rw e (omega (arith, mul-pos (f t (holds e)) (g t)))) (λ e. omega (arith, standing_worth_pos p price f g ts (rw e at h)))

module _ (b : Book) (u : User) where
  -- the tests of the two tiers
  in_one : Trade → Bool
  in_one t = eligible b u t && short_in b u t

  in_two : Trade → Bool
  in_two t = eligible b u t && not (short_in b u t)

  -- an eligible trade is of one of the tiers, and no other of either
  tiers_standing : (t : Trade) → standing_if in_one t + standing_if in_two t ≡ standing_if (eligible b u) t
  unfolding in_one in_two
  tiers_standing t =
      by_case (eligible b u t) (λ e. by_case (short_in b u t) (λ i. rw (e, i) (omega arith)) (λ i. rw (e, i) (omega arith))) (λ e. rw e)

  -- what is eligible is worth both tiers
  pub eligible_worth_lem : eligible_worth b u ≡ tier_worth (tier_one b u) + tier_worth (tier_two b u)
  unfolding eligible_worth tier_one tier_two in_one in_two
  eligible_worth_lem =
      let f = b.header.prices in
      sum_ext (λ t. standing_if (eligible b u) t * tariff_of f t) (λ t. standing_if in_one t * tariff_of f t + standing_if in_two t * tariff_of f t)
      (λ t. ap (λ (n : ℕ). n * tariff_of f t) (sym (tiers_standing t)) ∙ add-mul (standing_if in_one t) (standing_if in_two t) (tariff_of f t)) b.trades
      ∙ sum-add (λ t. standing_if in_one t * tariff_of f t) (λ t. standing_if in_two t * tariff_of f t) b.trades
      ∙ ap₂ (λ m n. m + n) (sym (lot_worth f in_one b.trades)) (sym (lot_worth f in_two b.trades))

  -- and something, where a trade is eligible
  pub eligible_worth_pos : T (header_is_valid b.header) → T (has_eligible b u) → 0 < eligible_worth b u
  unfolding eligible_worth has_eligible
  eligible_worth_pos h k =
      standing_worth_pos (eligible b u) (tariff_of b.header.prices) (λ t e. (eligible_is b u t e).1) (λ t. tariff_pos b.header h t.terms.area) b.trades k

  module _ (asked : ℕ) where
    -- ---- which trades are cut

    -- each cut is within what stands of an eligible trade
    cuts_each_within : T (each_within (cuts b u asked) (map (standing_if (eligible b u)) b.trades))
    unfolding cuts tier_one tier_two in_one in_two
    cuts_each_within =
        let f = b.header.prices in
        subst (λ (g : Trade → ℕ). T (each_within (cuts b u asked) (map g b.trades))) (fun_ext tiers_standing)
        (together_within (standing_if in_one) (standing_if in_two) (cuts_of_tier asked (tier_one b u)) (cuts_of_tier (asked - tier_worth (tier_one b u)) (tier_two b u)) b.trades
        (rw (lot_standings f in_one b.trades) at (tier_within asked (tier_one b u)))
        (rw (lot_standings f in_two b.trades) at (tier_within (asked - tier_worth (tier_one b u)) (tier_two b u))))

    -- each cut is at most what stands, and 0 unless the trade is eligible
    pub cuts_within_lem : T (cuts_within (eligible b u) (cuts b u asked) b.trades)
    cuts_within_lem = within_standing (eligible b u) (cuts b u asked) b.trades cuts_each_within

    -- so only bilateral trades of the day are cut
    pub cuts_bilateral : T (cuts_within bilateral_for_day (cuts b u asked) b.trades)
    cuts_bilateral = cuts_within_by (eligible b u) bilateral_for_day (λ t h. (eligible_is b u t h).0) (cuts b u asked) b.trades cuts_within_lem

    -- a cut for each trade
    pub cuts_length : length (cuts b u asked) ≡ length b.trades
    cuts_length =
        within_length (cuts b u asked) (map (standing_if (eligible b u)) b.trades) cuts_each_within
        ∙ length-map b.trades (standing_if (eligible b u))

    -- both tiers have as many
    same_length : length (cuts_of_tier asked (tier_one b u)) ≡ length (cuts_of_tier (asked - tier_worth (tier_one b u)) (tier_two b u))
    unfolding tier_one tier_two in_one in_two
    same_length =
        tier_length asked (tier_one b u)
        ∙ length-map b.trades (lot b.header.prices in_one)
        ∙ sym (length-map b.trades (lot b.header.prices in_two))
        ∙ sym (tier_length (asked - tier_worth (tier_one b u)) (tier_two b u))

    -- ---- what the cuts are worth

    -- the tally is the sum of the cuts
    pub tally_mwh : (tally_all b.header.prices (cuts b u asked) b.trades nothing).mwh ≡ sum (λ c. c) (cuts b u asked)
    unfolding nothing
    tally_mwh = omega (arith, tally_all_mwh b.header.prices (cuts b u asked) b.trades nothing (omega (arith, cuts_length)))

    -- and the sum of each cut at its tariff
    pub tally_worth : (tally_all b.header.prices (cuts b u asked) b.trades nothing).worth ≡ worth_at (cuts b u asked) (map (tariff_of b.header.prices) b.trades)
    unfolding nothing
    tally_worth = omega (arith, tally_all_worth b.header.prices (cuts b u asked) b.trades nothing)

    -- the worth of the cuts is the sum of both tiers'
    cuts-worth : worth_at (cuts b u asked) (map (tariff_of b.header.prices) b.trades)
        ≡ worth_at (cuts_of_tier asked (tier_one b u)) (map (λ x. x.tariff) (tier_one b u))
        + worth_at (cuts_of_tier (asked - tier_worth (tier_one b u)) (tier_two b u)) (map (λ x. x.tariff) (tier_two b u))
    unfolding cuts tier_one tier_two in_one in_two
    cuts-worth =
        rw (lot_tariffs b.header.prices in_one b.trades, lot_tariffs b.header.prices in_two b.trades)
        (together_worth (cuts_of_tier asked (tier_one b u)) (cuts_of_tier (asked - tier_worth (tier_one b u)) (tier_two b u)) (map (tariff_of b.header.prices) b.trades) same_length)

    -- it is at least what is asked, or all there is
    pub tally_reaches : min asked (eligible_worth b u) ≤ (tally_all b.header.prices (cuts b u asked) b.trades nothing).worth
    tally_reaches =
        omega (
          arith,
          tally_worth,
          cuts-worth,
          eligible_worth_lem,
          tier_reaches asked (tier_one b u),
          tier_reaches (asked - tier_worth (tier_one b u)) (tier_two b u),
        )

    -- at most all there is
    pub tally_worth-le : (tally_all b.header.prices (cuts b u asked) b.trades nothing).worth ≤ eligible_worth b u
    tally_worth-le =
        omega (
          arith,
          tally_worth,
          cuts-worth,
          eligible_worth_lem,
          tier_worth_le asked (tier_one b u),
          tier_worth_le (asked - tier_worth (tier_one b u)) (tier_two b u),
        )

    -- and it passes what is asked by less than m, where neither tariff is above m
    pub tally_near : (m : ℕ) → 0 < m → b.header.prices.p ≤ m → b.header.prices.q ≤ m
        → (tally_all b.header.prices (cuts b u asked) b.trades nothing).worth < asked + m
    unfolding tier_one tier_two in_one in_two
    tally_near m pos h k =
        let near = tier_near (asked - tier_worth (tier_one b u)) (tier_two b u) m pos (rw (lot_tariffs b.header.prices in_two b.trades) bounded) in
        by_order asked (tier_worth (tier_one b u))
        (λ l. omega (
          arith,
          tally_worth,
          cuts-worth,
          tier_near asked (tier_one b u) m pos (rw (lot_tariffs b.header.prices in_one b.trades) bounded),
          tier_none (asked - tier_worth (tier_one b u)) (tier_two b u) (omega arith),
        ))
        (λ l. omega (arith, tally_worth, cuts-worth, tier_worth_le asked (tier_one b u), near))
      where
        bounded : T (all (λ n. leb n m) (map (tariff_of b.header.prices) b.trades))
        bounded = tariffs_le b.header.prices m h k b.trades

    -- some MWh is cut where something is asked and a trade is eligible
    pub cuts_pos : T (header_is_valid b.header) → 0 < asked → T (has_eligible b u) → 0 < sum (λ c. c) (cuts b u asked)
    cuts_pos h p k =
        worth_pos (cuts b u asked) (map (tariff_of b.header.prices) b.trades)
        (omega (arith, tally_worth, tally_reaches, eligible_worth_pos h k))
