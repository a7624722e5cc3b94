-- The holdings that are read of a user: those of arrays, and those of the rules. Assumes nothing.
use Rattle.base.specs.Basics.{◌≡◌, refl, sym, ap, ap₂, ◌∙◌, Bool, ◌||◌, List, [], ℕ, zero, suc, ◌+◌, ◌*◌, ◌<◌, arith, ltb, ℤ, get_or, length}
use Rattle.base.specs.Sums.{sum}
use Rattle.rules.specs.Areas.{Prices, areas}
use Rattle.rules.specs.Book.{at, Book, PerArea, User, nobody}
use Rattle.rules.specs.Levels.{Limits, Holding, afternoon_level, called_in, exposure, flagged, flagged_from, floored, holding, lowest_reference_price, level_from, morning_level, morning_sum}
use Rattle.laws.specs.Statements.{own_holding}
use Rattle.laws_sales.proofs.Cover.{cut_borne_before, level_next}
use Rattle.laws_sales.proofs.Sums.{held_borne}
use Rattle.laws_sales.specs.Borne.{borne_book}
use Rattle.laws_sales.specs.Cover.{AllNext}
use Rattle.units.specs.declared.Net.{Net}
use Rattle.book_records.specs.User.{as_amounts}
use Rattle.book_sums.specs.Twelve.{TwelveOf}
use Rattle.risk_holdings.specs.declared.Holdings.{Holdings}
use Rattle.risk_holdings.specs.Holdings.{as_holding, held_in, positioned}
use Rattle.laws_sales.specs.Parties.{cut_before}
use Rattle.risk_user.proofs.Borne.{member_borne, members_borne}
use Rattle.risk_user.specs.UserAt.{HeldWith, held_at, holding_by, position_in, positions_in}

-- ---- by the sums

-- a sum at a place that is written otherwise
pub at_sum : (sums : List ℕ) (m n : ℕ) → m ≡ n → get_or sums m 0 ≡ get_or sums n 0
at_sum sums m n e = ap (λ (k : ℕ). get_or sums k 0) e

-- the four sums of an area
pub held_by : (sums : List ℕ) (i area : ℕ) {physical position : ℤ} {sold bought sold_next bought_next : ℕ}
    → sold ≡ get_or sums (12 * i + area) 0 → sold_next ≡ get_or sums (12 * i + area + 3) 0 → bought ≡ get_or sums (12 * i + area + 6) 0 → bought_next ≡ get_or sums (12 * i + area + 9) 0
    → record { physical = physical; position = position; sold = sold; bought = bought; sold_next = sold_next; bought_next = bought_next } ≡ holding_by sums i area physical position
held_by sums i area a b c d =
    cc (
      a,
      b ∙ at_sum sums (12 * i + area + 3) (12 * i + 3 + area) (omega arith),
      c ∙ at_sum sums (12 * i + area + 6) (12 * i + 6 + area) (omega arith),
      d ∙ at_sum sums (12 * i + area + 9) (12 * i + 9 + area) (omega arith),
    )

-- an area each
pub held_each : (sums : List ℕ) (i : ℕ) (physical position : PerArea) (h : Holdings) → as_holding h.pvb ≡ holding_by sums i 0 (at physical 0) (at position 0)
    → as_holding h.tvb ≡ holding_by sums i 1 (at physical 1) (at position 1) → as_holding h.avb ≡ holding_by sums i 2 (at physical 2) (at position 2)
    → (area : ℕ) → area < 3 → held_in h area ≡ holding_by sums i area (at physical area) (at position area)
unfolding held_in
held_each sums i physical position h p t a zero l = p
held_each sums i physical position h p t a (suc zero) l = t
held_each sums i physical position h p t a (suc (suc zero)) l = a
held_each sums i physical position h p t a (suc (suc (suc area))) l = absurd (omega arith)

-- ---- of arrays

-- the position of an area
at_positions : (ps : List ℕ) (i area : ℕ) → area < 3 → at (positions_in ps i) area ≡ position_in ps i area
unfolding at
at_positions ps i zero h = refl
at_positions ps i (suc zero) h = refl
at_positions ps i (suc (suc zero)) h = refl
at_positions ps i (suc (suc (suc area))) h = absurd (omega arith)

module _ (ps : List ℕ) (i : ℕ) (v : List Net) (is : as_amounts v ≡ positions_in ps i) where
  -- exposure reads the positions
  pub flagged_positions : (limits : Limits) (f : Prices) (u : User) → flagged_from limits f u (positioned v) ≡ flagged_from limits f u (held_at [] ps i)
  unfolding exposure sum areas positioned held_at at
  flagged_positions limits f u = rw is refl

  -- the afternoon level reads the positions, and what was sold and bought for d+1
  pub level_positions : {sums : List ℕ} {physical : PerArea} {h : Holdings} → HeldWith sums i physical (as_amounts v) h → (limits : Limits) (f : Prices) (u : User)
      → level_from limits f u (held_in h) ≡ level_from limits f u (held_at sums ps i)
  unfolding held_at
  level_positions {sums} {physical} {h} p limits f u = level_next next limits f u
    where
      next : AllNext (held_in h) (held_at sums ps i)
      next = record {
        each = λ area k. record {
          position = ap (λ (x : Holding). x.position) (p.each area k) ∙ ap (λ (q : PerArea). at q area) is ∙ at_positions ps i area k;
          sold = ap (λ (x : Holding). x.sold_next) (p.each area k);
          bought = ap (λ (x : Holding). x.bought_next) (p.each area k);
        };
      }

-- ---- of a user of a book, as its risk is borne

-- exposure reads the positions
exposure_same : (f : Prices) (g h : ℕ → Holding) → ((area : ℕ) → area < 3 → (g area).position ≡ (h area).position) → exposure f g ≡ exposure f h
unfolding exposure sum areas
exposure_same f g h e = rw (e 0 (omega arith), e 1 (omega arith), e 2 (omega arith))

module _ (b : Book) (i : ℕ) (k : i < length b.users) where
  abbrev user : User
  user = get_or b.users i nobody

  abbrev row : User
  row = get_or (borne_book b).users i nobody

  own_row : (area : ℕ) → own_holding (borne_book b) row area ≡ holding b user area
  own_row area = ap (λ (u : User). own_holding (borne_book b) u area) (member_borne b i k) ∙ sym (held_borne b user area)

  module _ (limits : Limits) {f : Prices} (priced : f ≡ b.header.prices) where
    -- whether it is flagged
    pub flagged_row : (v : List Net) → as_amounts v ≡ (get_or (borne_book b).users i nobody).position → flagged_from limits f (get_or b.users i nobody) (positioned v) ≡ flagged limits b (get_or b.users i nobody)
    unfolding flagged positioned own_holding
    flagged_row v e =
        ap (λ (g : Prices). flagged_from limits g user (positioned v)) priced
        ∙ ap (λ (n : ℕ). ltb (limits.flag_mwh * lowest_reference_price b.header.prices + user.blocked) n)
        (exposure_same b.header.prices (positioned v) (holding b user) (λ area l. ap (λ (q : PerArea). at q area) e ∙ ap (λ (x : Holding). x.position) (own_row area)))

    -- and whether it is called in
    pub called_row : (v : List Net) {r below : Bool} → as_amounts v ≡ (get_or (borne_book b).users i nobody).position → r ≡ (flagged_from limits f (get_or b.users i nobody) (positioned v) || below)
        → below ≡ cut_before (get_or b.users i nobody).party.id (borne_book b).trades → r ≡ called_in limits b (get_or b.users i nobody)
    unfolding called_in
    called_row v e g c = g ∙ ap₂ (λ (x y : Bool). x || y) (flagged_row v e) (c ∙ sym (cut_borne_before limits b user))

    -- its levels, by what it holds
    module _ (h : Holdings) (held : (area : ℕ) → area < 3 → held_in h area ≡ holding b (get_or b.users i nobody) area) where
      pub morning_row : floored limits (morning_sum f (held_in h) (get_or b.users i nobody).party.charges) ≡ morning_level limits b (get_or b.users i nobody)
      unfolding morning_level morning_sum sum areas
      morning_row = rw (priced, held 0 (omega arith), held 1 (omega arith), held 2 (omega arith))

      pub afternoon_row : level_from limits f (get_or b.users i nobody) (held_in h) ≡ afternoon_level limits b (get_or b.users i nobody)
      unfolding afternoon_level
      afternoon_row =
          ap (λ (g : Prices). level_from limits g user (held_in h)) priced
          ∙ level_next (record {
            each = λ area l. record {
              position = ap (λ (x : Holding). x.position) (held area l);
              sold = ap (λ (x : Holding). x.sold_next) (held area l);
              bought = ap (λ (x : Holding). x.bought_next) (held area l);
            };
          }) limits b.header.prices user

  -- what it holds, by the sums of the book as its risk is borne
  module _ {sums : List ℕ} (w : TwelveOf (borne_book b).users (borne_book b).trades sums) {physical position : PerArea}
      (ph : physical ≡ (get_or (borne_book b).users i nobody).physical) (po : position ≡ (get_or (borne_book b).users i nobody).position)
      {h : Holdings} (p : HeldWith sums i physical position h) where
    pub held_row : (area : ℕ) → area < 3 → held_in h area ≡ holding b (get_or b.users i nobody) area
    unfolding own_holding
    held_row area l =
        let all = members_borne b in
        p.each area l
        ∙ cc (
          ap (λ (q : PerArea). at q area) ph,
          ap (λ (q : PerArea). at q area) po,
          at_sum sums (12 * i + area) (12 * i + 3 * 0 + area) (omega arith) ∙ w.sold_at i area 0 (omega (arith, all)) l (omega arith),
          at_sum sums (12 * i + 6 + area) (12 * i + 6 + 3 * 0 + area) (omega arith) ∙ w.bought_at i area 0 (omega (arith, all)) l (omega arith),
          w.sold_at i area 1 (omega (arith, all)) l (omega arith),
          at_sum sums (12 * i + 9 + area) (12 * i + 6 + 3 * 1 + area) (omega arith) ∙ w.bought_at i area 1 (omega (arith, all)) l (omega arith),
        )
        ∙ own_row area
