-- What is kept of a seller is that of its sales; the cuts of its highest sales are those of both tiers. Assumes nothing.
use Rattle.base.specs.Basics.{◌≡◌, refl, sym, ap, subst, ◌∙◌, inl, inr, Bool, true, false, cond, not, ◌||◌, List, [], ◌∷◌, ℕ, ◌*◌, ◌-◌, ◌≤◌, ◌<◌, arith}
use Rattle.base.specs.Basics.{T, min, eqb, ltb, lt-ltb, length, get_or, ext_get_or, length-sets, sets}
use Rattle.base.proofs.Linear.{by_order}
use Rattle.base.proofs.Tests.{of_three, or-true}
use Rattle.cut_shares.proofs.Cases.{tier_none}
use Rattle.cut_shares.specs.Cuts.{added}
use Rattle.cut_tiers.proofs.After.{cuts_of_same}
use Rattle.cut_tiers.proofs.Tiers.{both_tiers, none_untouched, one_tier, together_first}
use Rattle.cut_tiers.proofs.Weights.{rates_range}
use Rattle.cut_tiers.specs.Tiers.{NoCuts, cuts_of, rates_for, short_by}
use Rattle.cut_worth.specs.Rates.{Rates, Sales, lots_in, rated}
use Rattle.fields.proofs.Sets.{get_or_apart}
use Rattle.laws_sales.proofs.Ranges.{cond-le}
use Rattle.laws_sales.proofs.Parts.{part_here, part_length, part-most, part_stored}
use Rattle.laws_sales.specs.Parts.{part}
use Rattle.rules.specs.Areas.{Prices}
use Rattle.rules.specs.Reduction.{together}
use Rattle.rules.specs.Shares.{cuts_of_tier, tier_worth}
use Rattle.units.specs.Prices.{InRange}
use Rattle.cut_peaks.specs.Keeping.{Below, bounded, height_in, lowered_to, height_of_tier, Chosen, Fits, KeptFor, SameShort, short_of, tier_rates}
use Rattle.cut_peaks.specs.Peaks.{Highest, NextPeak, NoneCut, PeakCuts, Peaked, amount_at_place, tier_of}
use Rattle.cut_peaks.specs.declared.Choice.TheVariants.{Filled, Partial}
use Rattle.cut_peaks.specs.declared.Heights.{Heights}
use Rattle.cut_peaks.specs.declared.Kept.{Kept}
use Rattle.cut_peaks.specs.declared.Peak.{Peak}
use Rattle.cut_peaks.specs.declared.Sweep.{Sweep}
use Rattle.std.specs.Prelude.{Option, None, Some, MatchOption}
use Rattle.std.specs.Option.{ForSome}

pub never : false ≡ true → ⊥
never e = subst (λ (t : Bool). T (not t)) e tt

-- ---- the areas

pub same_short : {k : Kept} {short : List Bool} → k.short ≡ short → SameShort k short
same_short {k} {short} e = record { each = λ area h. ap (λ (xs : List Bool). get_or xs area false) e }

-- ---- a look through the sales

-- the largest amount of the tier's areas is one that none of its sales stands above
cond_up : (c : Bool) (n m : ℕ) → n ≤ m → cond c n 0 ≤ cond c m 0
cond_up true n m h = h
cond_up false n m h = omega arith

pub tier_highest : (h : Heights) (rates : List ℕ) {ns areas : List ℕ} {from to : ℕ} → Sales ns areas from to → Below h ns areas from to → {mwh : ℕ} → mwh ≡ height_of_tier h rates
    → Highest rates ns areas from to mwh
tier_highest h rates {ns} {areas} {from} {to} s b {mwh} e =
    let in_area : (area : ℕ) → area < 3 → cond (rated rates area) (height_in h area) 0 ≤ mwh
    = of_three (λ (area : ℕ). cond (rated rates area) (height_in h area) 0 ≤ mwh) (omega arith) (omega arith) (omega arith) in
    record {
      some = omega arith;
      few =
          omega (
            arith,
            cond-le (rated rates 0) h.pvb,
            cond-le (rated rates 1) h.tvb,
            cond-le (rated rates 2) h.avb,
            b.few 0 (omega arith),
            b.few 1 (omega arith),
            b.few 2 (omega arith),
          );
      most = λ i l m.
          let area = get_or areas i 0 in
          omega (arith, cond_up (rated rates area) (get_or ns i 0) (height_in h area) (b.most i l m), in_area area (s.area_most i l m));
    }

-- each sale is one of an area
pub below_seen : {h : Heights} {ns areas : List ℕ} {from to : ℕ} → Sales ns areas from to → Highest (1 ∷ 0 ∷ 0 ∷ []) ns areas from to h.pvb → Highest (0 ∷ 1 ∷ 0 ∷ []) ns areas from to h.tvb
    → Highest (0 ∷ 0 ∷ 1 ∷ []) ns areas from to h.avb → Below h ns areas from to
below_seen {h} {ns} {areas} {from} {to} s p t a =
    record {
      most = λ i l m.
          of_three
          (λ (area : ℕ).
          cond (rated (1 ∷ 0 ∷ 0 ∷ []) area) (get_or ns i 0) 0 ≤ h.pvb → cond (rated (0 ∷ 1 ∷ 0 ∷ []) area) (get_or ns i 0) 0 ≤ h.tvb
          → cond (rated (0 ∷ 0 ∷ 1 ∷ []) area) (get_or ns i 0) 0 ≤ h.avb → get_or ns i 0 ≤ height_in h area)
          (λ x y z. x) (λ x y z. y) (λ x y z. z) (get_or areas i 0) (s.area_most i l m) (p.most i l m) (t.most i l m) (a.most i l m);
      few = of_three (λ (area : ℕ). height_in h area ≤ 100000) p.few t.few a.few;
    }

-- heights that are lowered where an area has a rate
pub not_lowered : (rate n m : ℕ) → rate ≡ 0 → n ≡ cond (ltb 0 rate) m n
not_lowered rate n m e = rw e refl

pub lowered_there : (rate n m : ℕ) {l : ℕ} → 0 < rate → l ≡ m → l ≡ cond (ltb 0 rate) m n
lowered_there rate n m h e = rw (lt-ltb 0 rate h) e

abbrev by_area : ℕ → ℕ → ℕ → Heights
by_area p t a = record { pvb = p; tvb = t; avb = a }

pub lowered_each : {h : Heights} {p t a : ℕ} → p ≡ h.pvb → t ≡ h.tvb → a ≡ h.avb → by_area p t a ≡ h
lowered_each {h} {p} {t} {a} e f g = ap (λ (x : ℕ). by_area x t a) e ∙ ap (λ (x : ℕ). by_area h.pvb x a) f ∙ ap (by_area h.pvb h.tvb) g

-- where no sale of the tier stands at an amount
min_in : (c : Bool) (n h mwh : ℕ) → n ≤ h → cond c n 0 < mwh → n ≤ cond c (min h (mwh - 1)) h
min_in true n h mwh l m = omega arith
min_in false n h mwh l m = l

min-le : (c : Bool) (h most : ℕ) → cond c (min h most) h ≤ h
min-le true h most = omega arith
min-le false h most = omega arith

pub below_lowered : {h : Heights} {rates ns areas : List ℕ} {mwh from to : ℕ} → Sales ns areas from to → Below h ns areas from to → NextPeak rates ns areas mwh from to to
    → {low : Heights} → low ≡ lowered_to h rates (mwh - 1) → Below low ns areas from to
below_lowered {h} {rates} {ns} {areas} {mwh} {from} {to} s b p e =
    subst (λ (x : Heights). Below x ns areas from to) (sym e)
    (record {
      most = λ i l m.
          of_three
          (λ (area : ℕ).
          get_or ns i 0 ≤ height_in h area → cond (rated rates area) (get_or ns i 0) 0 < mwh → get_or ns i 0 ≤ height_in (lowered_to h rates (mwh - 1)) area)
          (min_in (rated rates 0) (get_or ns i 0) h.pvb mwh) (min_in (rated rates 1) (get_or ns i 0) h.tvb mwh) (min_in (rated rates 2) (get_or ns i 0) h.avb mwh)
          (get_or areas i 0) (s.area_most i l m) (b.most i l m) (p.before i l (omega arith));
      few =
          of_three (λ (area : ℕ). height_in (lowered_to h rates (mwh - 1)) area ≤ 100000)
          (omega (arith, min-le (rated rates 0) h.pvb (mwh - 1), b.few 0 (omega arith)))
          (omega (arith, min-le (rated rates 1) h.tvb (mwh - 1), b.few 1 (omega arith)))
          (omega (arith, min-le (rated rates 2) h.avb (mwh - 1), b.few 2 (omega arith)));
    })

-- no sale stands above 100,000 MWh
pub below_all : {ns areas : List ℕ} {from to : ℕ} → Sales ns areas from to → Below bounded ns areas from to
below_all {ns} {areas} s =
    record {
      most = λ i l m.
          let h = s.standing_most i l m in
          of_three (λ (area : ℕ). get_or ns i 0 ≤ height_in bounded area) h h h (get_or areas i 0) (s.area_most i l m);
      few = of_three (λ (area : ℕ). height_in bounded area ≤ 100000) (omega arith) (omega arith) (omega arith);
    }

pub below_known : {f : Prices} {ns areas : List ℕ} {from to : ℕ} → Sales ns areas from to → (kept : Option Kept) → ForSome kept (λ k. KeptFor f k ns areas from to) → (h : Heights)
    → MatchOption kept (h ≡ bounded) (λ k. h ≡ k.heights) → Below h ns areas from to
below_known {f} {ns} {areas} {from} {to} s None p h e = subst (λ (x : Heights). Below x ns areas from to) (sym e) (below_all s)
below_known {f} {ns} {areas} {from} {to} s (Some k) p h e = subst (λ (x : Heights). Below x ns areas from to) (sym e) (p k refl).below

-- what is kept of a tier, by its worth and the first of its highest sales
abbrev pub kept_where : List Bool → Bool → ℕ → Peak → Kept
kept_where short second worth peak =
    record {
      short = short;
      second = second;
      worth = worth;
      mwh = peak.mwh;
      place = peak.place;
      heights = peak.heights;
    }

-- the first of the highest sales
pub peaked_first : {rates ns areas : List ℕ} {from to mwh place : ℕ} → Highest rates ns areas from to mwh → NextPeak rates ns areas mwh from to place → Peaked rates ns areas from to place mwh
peaked_first h n =
    record { starts = n.starts; ends = n.ends; some = h.some; few = h.few; most = h.most; before = n.before; here = n.here }

module _ (f : Prices) (k : Kept) where
  -- the rates of either tier
  pub rates_first : k.second ≡ false → rates_for f (short_of k) ≡ tier_rates f k
  unfolding tier_rates tier_of
  rates_first e = ap (λ (t : Bool). rates_for f (tier_of t (short_of k))) (sym e)

  pub rates_second : k.second ≡ true → rates_for f (λ area. not (short_of k area)) ≡ tier_rates f k
  unfolding tier_rates tier_of
  rates_second e = ap (λ (t : Bool). rates_for f (tier_of t (short_of k))) (sym e)

  -- what was seen is what is kept
  pub kept_tier : {rates ns areas : List ℕ} {from to : ℕ} → rates ≡ tier_rates f k → k.worth ≡ tier_worth (lots_in rates (part from to ns) (part from to areas)) → k.worth ≤ 2560000000000
      → Peaked rates ns areas from to k.place k.mwh → Below k.heights ns areas from to → (k.second ≡ true → tier_worth (lots_in (rates_for f (short_of k)) (part from to ns) (part from to areas)) ≡ 0) → KeptFor f k ns areas from to
  kept_tier {rates} {ns} {areas} {from} {to} e w m p b z =
      record {
        worth_is = w ∙ ap (λ (rs : List ℕ). tier_worth (lots_in rs (part from to ns) (part from to areas))) e;
        worth_most = m;
        peaked = subst (λ (rs : List ℕ). Peaked rs ns areas from to k.place k.mwh) e p;
        below = b;
        first_none = z;
      }

  -- the highest of them are known
  pub tier_range : InRange f → Rates (tier_rates f k)
  unfolding tier_rates
  tier_range range = rates_range f (tier_of k.second (short_of k)) range

  pub kept_highest : {rates ns areas : List ℕ} {from to : ℕ} → rates ≡ tier_rates f k → KeptFor f k ns areas from to
      → Highest rates ns areas k.place to k.mwh × (k.place < to → k.mwh ≤ amount_at_place rates ns areas k.place)
  kept_highest {rates} {ns} {areas} {from} {to} e p =
      let q = p.peaked in
      subst (λ (rs : List ℕ). Highest rs ns areas k.place to k.mwh × (k.place < to → k.mwh ≤ amount_at_place rs ns areas k.place)) (sym e)
      (record { some = q.some; few = q.few; most = λ i h l. q.most i (omega (arith, q.starts)) l }, q.here)

  pub kept_cuts : {rates ns areas : List ℕ} {asked to : ℕ} {cs : List ℕ} {end lost : ℕ} → rates ≡ tier_rates f k → PeakCuts rates ns areas asked k.mwh k.place to cs end lost
      → PeakCuts (tier_rates f k) ns areas asked k.mwh k.place to cs end lost
  kept_cuts {rates} {ns} {areas} {asked} {to} {cs} {end} {lost} e p = subst (λ (rs : List ℕ). PeakCuts rs ns areas asked k.mwh k.place to cs end lost) e p

-- ---- the cuts of both tiers

module _ (f : Prices) (range : InRange f) (short : ℕ → Bool) (asked : ℕ) {ns areas cs₀ : List ℕ} {from to : ℕ} (s : Sales ns areas from to) (n : NoCuts cs₀ from to) where
  -- by the tier that the sales lose from
  tier_filled : (second : Bool) → (second ≡ true → tier_worth (lots_in (rates_for f short) (part from to ns) (part from to areas)) ≡ 0)
      → (v : ℕ) → v ≡ tier_worth (lots_in (rates_for f (tier_of second short)) (part from to ns) (part from to areas)) → asked ≤ v
      → (cs : List ℕ) → cs ≡ added from to cs₀ (cuts_of_tier asked (lots_in (rates_for f (tier_of second short)) (part from to ns) (part from to areas)))
      → cs ≡ sets cs₀ from (cuts_of f short asked (part from to ns) (part from to areas))
  unfolding tier_of
  tier_filled false z v w h cs e = one_tier f range short asked s n refl e v w h
  tier_filled true z v w h cs e =
      let one = z refl in
      let nothing : (eqb asked 0 || eqb 0 0) ≡ true = or-true (eqb asked 0) in
      let left : asked ≡ asked - 0 = omega arith in
      both_tiers f range short asked s n refl (tier_none s (none_untouched (rates_for f short) areas n) asked 0 (sym one) nothing) 0 (sym one) refl left e

-- cuts that lie in a part, stored in an array of none
cuts_stored : {cs₀ cs : List ℕ} (from to : ℕ) → NoneCut cs₀ → length cs ≡ 256 → from ≤ to → to ≤ 256 → ((i : ℕ) → i < from → get_or cs i 0 ≡ 0) → ((i : ℕ) → to ≤ i → get_or cs i 0 ≡ 0)
    → cs ≡ sets cs₀ from (part from to cs)
cuts_stored {cs₀} {cs} from to none room rising few before behind =
    let many : length (part from to cs) ≡ to - from = part_length cs from to (omega arith) in
    ext_get_or 0 cs (sets cs₀ from (part from to cs)) (room ∙ sym (length-sets cs₀ from (part from to cs) ∙ none.room))
    (λ i h.
    by_order i from
    (λ l. before i l ∙ sym (get_or_apart (part from to cs) cs₀ from i 0 (inl l) ∙ none.none i))
    (λ l.
    by_order i to
    (λ m.
    sym (part_here cs from to i 0 l m)
    ∙ ap (λ (xs : List ℕ). get_or xs (i - from) 0) (sym (part_stored cs₀ from to (part from to cs) many rising (omega (arith, none.room))))
    ∙ part_here (sets cs₀ from (part from to cs)) from to i 0 l m)
    (λ m. behind i m ∙ sym (get_or_apart (part from to cs) cs₀ from i 0 (inr (omega (arith, many))) ∙ none.none i))))

module _ (f : Prices) (range : InRange f) (k : Kept) {short : List Bool} {asked : ℕ} {ns areas cs₀ cs : List ℕ} {from to end lost : ℕ} (s : Sales ns areas from to) (rising : from ≤ to) (none : NoneCut cs₀)
    (p : KeptFor f k ns areas from to) (same : SameShort k short) (c : PeakCuts (tier_rates f k) ns areas asked k.mwh k.place to cs end lost) where
  -- the cuts fit
  pub fits_all : asked < k.worth → k.mwh * asked < k.worth → asked ≤ lost → Fits f short asked ns areas from to cs₀ cs k end lost
  unfolding tier_rates added
  fits_all l m r =
      let shared = c.shared from s p.peaked in
      let none_there : (i : ℕ) → get_or (part from to cs₀) i 0 ≡ 0 = λ i. omega (arith, part-most cs₀ from to 0 (λ j h o. omega (arith, none.none j)) i) in
      let own = shared.cuts k.worth p.worth_is l m r in
      let stored : cs ≡ sets cs₀ from (part from to cs)
      = cuts_stored from to none c.room rising s.inside (λ i h. c.before i (omega (arith, p.peaked.starts))) (λ i h. c.behind i (omega (arith, c.ends))) in
      let lengths : length (part from to cs) ≡ length (part from to cs₀)
      = part_length cs from to (omega (arith, c.room, s.inside)) ∙ sym (part_length cs₀ from to (omega (arith, none.room, s.inside))) in
      let cuts : cs ≡ added from to cs₀ (cuts_of_tier asked (lots_in (tier_rates f k) (part from to ns) (part from to areas)))
      = stored ∙ ap (sets cs₀ from) (sym (together_first (part from to cs₀) (part from to cs) lengths none_there) ∙ ap (together (part from to cs₀)) own) in
      let n : NoCuts cs₀ from to = record { rising = rising; long = none.room; none = λ i h o. none.none i } in
      record {
        kept = p;
        filled =
            tier_filled f range (short_of k) asked s n k.second p.first_none k.worth p.worth_is (omega arith) cs cuts
            ∙ ap (sets cs₀ from)
            (cuts_of_same f (short_of k) (short_by short) asked (part from to ns) (part from to areas) same.each
            (λ i. omega (arith, part-most areas from to 2 (λ j h o. omega (arith, s.area_most j h o)) i)));
        worth = shared.worth;
        gone = c.gone;
        here = c.here;
      }

-- ---- chosen or not

module _ (f : Prices) (short : List Bool) (asked : ℕ) {ns areas cs₀ cs : List ℕ} {from to : ℕ} where
  -- nothing is filled in
  pub chosen_none : {place : ℕ} → from ≤ place → place ≤ to → NoneCut cs → Chosen f short asked ns areas from to cs₀ cs (Partial place place)
  chosen_none h l none =
      record {
        room = none.room;
        starts = h;
        rises = omega arith;
        ends = l;
        before = λ i m. none.none i;
        behind = λ i m. none.none i;
        fitting = tt;
      }

  -- the highest sales have their cuts, which are too few
  pub chosen_part : {k : Kept} {end lost : ℕ} → KeptFor f k ns areas from to → PeakCuts (tier_rates f k) ns areas asked k.mwh k.place to cs end lost
      → Chosen f short asked ns areas from to cs₀ cs (Partial k.place end)
  chosen_part p q =
      record { room = q.room; starts = p.peaked.starts; rises = q.starts; ends = q.ends; before = q.before; behind = q.behind; fitting = tt }

  -- or all of the reduction
  pub chosen_cut : {k : Kept} {sweep : Sweep} → Fits f short asked ns areas from to cs₀ cs k sweep.end sweep.lost → PeakCuts (tier_rates f k) ns areas asked k.mwh k.place to cs sweep.end sweep.lost
      → Chosen f short asked ns areas from to cs₀ cs (Filled k sweep)
  chosen_cut p q =
      record { room = q.room; starts = p.kept.peaked.starts; rises = q.starts; ends = q.ends; before = q.before; behind = q.behind; fitting = p }
