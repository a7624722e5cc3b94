-- What callers need of the cuts: those of own sales are the rules', and none is above what stands. Assumes nothing.
use Rattle.base.specs.Basics.{◌≡◌, refl, sym, ap, ◌∙◌, Bool, true, false, not, cond, List, map, map-map, ℕ, ◌+◌, ◌-◌, ◌≤◌, ◌<◌, arith, length, get_or}
use Rattle.base.specs.Basics.{length-map, sets, length-sets}
use Rattle.laws.proofs.Cuts.{length-together}
use Rattle.cut_shares.proofs.Lifted.{together_at}
use Rattle.cut_tiers.proofs.Weights.{standing_same}
use Rattle.cut_tiers.specs.Tiers.{cuts_of, NoCuts, Takeable}
use Rattle.laws_sales.proofs.Parts.{part_here, part_stored}
use Rattle.cut_worth.proofs.Rates.{areas_many, sales_many}
use Rattle.cut_worth.specs.Rates.{Sales}
use Rattle.rules.specs.Areas.{Prices, tariff}
use Rattle.rules.specs.Book.{Trade}
use Rattle.rules.specs.Shares.{tier_worth, cuts_of_tier}
use Rattle.laws_sales.proofs.Numbers.{sale_cuts_lots, standing_in_at, standing_in_length}
use Rattle.laws_sales.specs.Parts.{part}
use Rattle.laws_sales.specs.Sales.{sale_cuts, standing_in}
use Rattle.cut_shares.proofs.Cuts.{cut_le_standing, cuts_length}
use Rattle.laws_sales.specs.Lots.{lots_of}

-- the cuts are the same by tests that are the same in three areas
pub cuts_of_same : (f : Prices) (short other : ℕ → Bool) (asked : ℕ) (standing areas : List ℕ) → ((a : ℕ) → a < 3 → short a ≡ other a) → ((i : ℕ) → get_or areas i 0 < 3)
    → cuts_of f short asked standing areas ≡ cuts_of f other asked standing areas
unfolding cuts_of
cuts_of_same f short other asked standing areas e h =
    let one = standing_same short other e standing areas h in
    let two = standing_same (λ area. not (short area)) (λ area. not (other area)) (λ a l. ap not (e a l)) standing areas h in
    rw (one, two)

-- the cuts of own sales, from what stands of them and their areas
pub cuts_of_sales : (f : Prices) (short other : ℕ → Bool) (asked : ℕ) (ss : List Trade) {standing areas : List ℕ}
    → ((a : ℕ) → a < 3 → short a ≡ other a) → ((i : ℕ) → get_or areas i 0 < 3) → standing ≡ map (λ s. s.standing) ss → areas ≡ map (λ s. s.terms.area) ss
    → cuts_of f short asked standing areas ≡ sale_cuts f other asked ss
unfolding cuts_of
cuts_of_sales f short other asked ss {standing} {areas} e h n a =
    cuts_of_same f short other asked standing areas e h
    ∙ rw (n, a) (sale_cuts_lots f other asked ss refl refl (map-map (tariff f) (λ (t : Trade). t.terms.area) ss))

-- ---- no cut is above what stands

-- a sale is of one tier
one_or_other : (c : Bool) (n : ℕ) → cond c n 0 + cond (not c) n 0 ≤ n
one_or_other true n = omega arith
one_or_other false n = omega arith

module _ (f : Prices) (short : ℕ → Bool) (asked : ℕ) (standing areas : List ℕ) (same : length areas ≡ length standing) where
  -- a tier of the sales, and its cuts for an amount
  abbrev in_tier : (ℕ → Bool) → List ℕ
  in_tier belongs = standing_in belongs standing areas

  abbrev cuts_in : ℕ → (ℕ → Bool) → List ℕ
  cuts_in amount belongs = cuts_of_tier amount (lots_of (in_tier belongs) (map (tariff f) areas))

  tariffs_many : (belongs : ℕ → Bool) → length (map (tariff f) areas) ≡ length (in_tier belongs)
  tariffs_many belongs = length-map areas (tariff f) ∙ same ∙ sym (standing_in_length belongs standing areas same)

  many : (amount : ℕ) (belongs : ℕ → Bool) → length (cuts_in amount belongs) ≡ length standing
  many amount belongs = cuts_length amount (in_tier belongs) (map (tariff f) areas) (tariffs_many belongs) ∙ standing_in_length belongs standing areas same

  left : ℕ
  left = asked - tier_worth (lots_of (in_tier short) (map (tariff f) areas))

  -- as many cuts as sales
  pub cuts_of_length : length (cuts_of f short asked standing areas) ≡ length standing
  unfolding cuts_of left
  cuts_of_length =
      length-together (cuts_in asked short) (cuts_in left (λ area. not (short area))) (many left (λ area. not (short area)) ∙ sym (many asked short)) ∙ many asked short

  -- each at most what stands
  pub cuts_of_le : (i : ℕ) → i < length standing → get_or (cuts_of f short asked standing areas) i 0 ≤ get_or standing i 0
  unfolding cuts_of left
  cuts_of_le i l =
      omega (
        arith,
        together_at (cuts_in asked short) (cuts_in left (λ area. not (short area))) (many left (λ area. not (short area)) ∙ sym (many asked short)) i,
        cut_le_standing asked (in_tier short) (map (tariff f) areas) (tariffs_many short) i,
        cut_le_standing left (in_tier (λ area. not (short area))) (map (tariff f) areas) (tariffs_many (λ area. not (short area))) i,
        standing_in_at short standing areas i l (omega arith),
        standing_in_at (λ area. not (short area)) standing areas i l (omega arith),
        one_or_other (short (get_or areas i 0)) (get_or standing i 0),
      )

-- ---- in the arrays

module _ (standing areas cuts : List ℕ) (from to : ℕ) (s : Sales standing areas from to) where
  -- the cuts that were filled in can be taken off
  pub filled_takeable : (f : Prices) (short : ℕ → Bool) (asked : ℕ) {now : List ℕ} → NoCuts cuts from to
      → now ≡ sets cuts from (cuts_of f short asked (part from to standing) (part from to areas)) → Takeable standing now from to
  filled_takeable f short asked {now} n e =
      let same : length (part from to areas) ≡ length (part from to standing) = areas_many s ∙ sym (sales_many s) in
      let filled : part from to now ≡ cuts_of f short asked (part from to standing) (part from to areas)
      = ap (part from to) e
      ∙ part_stored cuts from to (cuts_of f short asked (part from to standing) (part from to areas))
      (cuts_of_length f short asked (part from to standing) (part from to areas) same ∙ sales_many s) n.rising (omega (arith, s.inside, n.long)) in
      record {
        rising = n.rising;
        long = ap length e ∙ length-sets cuts from (cuts_of f short asked (part from to standing) (part from to areas)) ∙ n.long;
        within = λ i h k.
            omega (
              arith,
              part_here now from to i 0 h k,
              part_here standing from to i 0 h k,
              ap (λ (ns : List ℕ). get_or ns (i - from) 0) filled,
              cuts_of_le f short asked (part from to standing) (part from to areas) same (i - from) (omega (arith, sales_many s)),
            );
      }
