-- What is kept of a seller is that of its sales after their cuts too, and after changes elsewhere. Assumes nothing.
use Rattle.base.specs.Basics.{◌≡◌, sym, ap, ◌∙◌, Bool, true, false, cond, List, ℕ, ◌+◌, ◌-◌, ◌≤◌, ◌<◌, arith, length, get_or, get_or-eq_default}
use Rattle.base.proofs.Linear.{by_order}
use Rattle.cut_peaks.proofs.Worths.{worth_less}
use Rattle.cut_peaks.specs.Keeping.{Fits, KeptFor, short_of, swept_to, tier_rates}
use Rattle.cut_peaks.specs.Peaks.{amount_at_place}
use Rattle.cut_peaks.specs.declared.Kept.{Kept}
use Rattle.cut_tiers.specs.Tiers.{Takeable, rates_for}
use Rattle.cut_worth.specs.Rates.{Sales, lots_in, rated}
use Rattle.laws_sales.proofs.Numbers.{less_at}
use Rattle.laws_sales.proofs.Parts.{part_at, part_here, part_length}
use Rattle.laws_sales.specs.Parts.{part}
use Rattle.laws_sales.specs.Sales.{less}
use Rattle.rules.specs.Areas.{Prices}
use Rattle.rules.specs.Shares.{tier_worth}

-- what stands in the tier falls with what stands
lower_le : (t : Bool) (n c m : ℕ) → m ≡ n - c → cond t m 0 ≤ cond t n 0
lower_le true n c m e = omega arith
lower_le false n c m e = omega arith

lower_less : (t : Bool) (n c m mwh : ℕ) → m ≡ n - c → 0 < mwh → cond t n 0 < mwh + c → cond t m 0 < mwh
lower_less true n c m mwh e h l = omega arith
lower_less false n c m mwh e h l = omega arith

-- what is kept of the same sales, whatever stands elsewhere
pub kept_elsewhere : {f : Prices} {k : Kept} {ns areas : List ℕ} {from to : ℕ} (ms : List ℕ) → part from to ms ≡ part from to ns → KeptFor f k ns areas from to → KeptFor f k ms areas from to
kept_elsewhere {f} {k} {ns} {areas} {from} {to} ms e p =
    let q = p.peaked in
    let stands : (i : ℕ) → from ≤ i → i < to → get_or ms i 0 ≡ get_or ns i 0
    = λ i h l. sym (part_here ms from to i 0 h l) ∙ ap (λ (xs : List ℕ). get_or xs (i - from) 0) e ∙ part_here ns from to i 0 h l in
    let amounts : (i : ℕ) → from ≤ i → i < to → amount_at_place (tier_rates f k) ms areas i ≡ amount_at_place (tier_rates f k) ns areas i
    = λ i h l. ap (λ (n : ℕ). cond (rated (tier_rates f k) (get_or areas i 0)) n 0) (stands i h l) in
    record {
      worth_is = p.worth_is ∙ ap (λ (xs : List ℕ). tier_worth (lots_in (tier_rates f k) xs (part from to areas))) (sym e);
      worth_most = p.worth_most;
      peaked = record {
        starts = q.starts;
        ends = q.ends;
        some = q.some;
        few = q.few;
        most = λ i h l. omega (arith, amounts i h l, q.most i h l);
        before = λ i h l. omega (arith, amounts i h (omega (arith, q.ends)), q.before i h l);
        here = λ l. omega (arith, amounts k.place q.starts l, q.here l);
      };
      below = record { most = λ i h l. omega (arith, stands i h l, p.below.most i h l); few = p.below.few };
      first_none = λ t. ap (λ (xs : List ℕ). tier_worth (lots_in (rates_for f (short_of k)) xs (part from to areas))) e ∙ p.first_none t;
    }

module _ {f : Prices} {short : List Bool} {asked : ℕ} {ns areas : List ℕ} {from to : ℕ} {cs₀ cs : List ℕ} {k : Kept} {end lost : ℕ} (s : Sales ns areas from to) (t : Takeable ns cs from to)
    (p : Fits f short asked ns areas from to cs₀ cs k end lost) where
  le_there : (i : ℕ) → get_or (part from to cs) i 0 ≤ get_or (part from to ns) i 0
  le_there i =
      by_order i (to - from)
      (λ h.
      omega (
        arith,
        part_at cs from to i 0 (omega arith),
        part_at ns from to i 0 (omega arith),
        t.within (from + i) (omega arith) (omega arith),
      ))
      (λ h. omega (arith, get_or-eq_default (part from to cs) 0 {n = i} (omega (arith, part_length cs from to (omega (arith, t.long, s.inside))))))

  same_many : length (part from to cs) ≡ length (part from to ns)
  same_many = part_length cs from to (omega (arith, t.long, s.inside)) ∙ sym (part_length ns from to (omega (arith, s.standing_long, s.inside)))

  -- the tier is worth at least what it loses
  pub lost-le : lost ≤ k.worth
  lost-le = omega (arith, p.kept.worth_is, p.worth, worth_less (tier_rates f k) (part from to cs) (part from to ns) (part from to areas) same_many le_there)

  module _ (ms : List ℕ) (taken : part from to ms ≡ less (part from to cs) (part from to ns)) (rises : k.place ≤ end) (ends : end ≤ to) (none : get_or cs end 0 ≡ 0) where
    stands : (i : ℕ) → from ≤ i → i < to → get_or ms i 0 ≡ get_or ns i 0 - get_or cs i 0
    stands i h l =
        omega (
          arith,
          part_here ms from to i 0 h l,
          ap (λ (xs : List ℕ). get_or xs (i - from) 0) taken,
          less_at (part from to cs) (part from to ns) (i - from),
          part_here cs from to i 0 h l,
          part_here ns from to i 0 h l,
        )

    pub kept_after : KeptFor f (swept_to k end lost) ms areas from to
    unfolding tier_rates
    kept_after =
        let q = p.kept.peaked in
        let rates = tier_rates f k in
        let belongs : ℕ → Bool = λ i. rated (tier_rates f k) (get_or areas i 0) in
        record {
          worth_is =
              omega (
                arith,
                p.kept.worth_is,
                p.worth,
                worth_less rates (part from to cs) (part from to ns) (part from to areas) same_many le_there,
                ap (λ (xs : List ℕ). tier_worth (lots_in rates xs (part from to areas))) taken,
              );
          worth_most = omega (arith, p.kept.worth_most);
          peaked = record {
            starts = omega (arith, q.starts);
            ends = ends;
            some = q.some;
            few = q.few;
            most = λ i h l. omega (arith, lower_le (belongs i) (get_or ns i 0) (get_or cs i 0) (get_or ms i 0) (stands i h l), q.most i h l);
            before = λ i h l.
                let m : i < to = omega arith in
                by_order i k.place
                (λ o. omega (arith, lower_le (belongs i) (get_or ns i 0) (get_or cs i 0) (get_or ms i 0) (stands i h m), q.before i h o))
                (λ o. lower_less (belongs i) (get_or ns i 0) (get_or cs i 0) (get_or ms i 0) k.mwh (stands i h m) q.some (p.gone i o l));
            here = λ l.
                let e : get_or ms end 0 ≡ get_or ns end 0 = omega (arith, stands end (omega (arith, q.starts)) l) in
                omega (arith, p.here l, ap (λ (n : ℕ). cond (belongs end) n 0) e);
          };
          below = record { most = λ i h l. omega (arith, stands i h l, p.kept.below.most i h l); few = p.kept.below.few };
          first_none = λ e.
              omega (
                arith,
                p.kept.first_none e,
                worth_less (rates_for f (short_of k)) (part from to cs) (part from to ns) (part from to areas) same_many le_there,
                ap (λ (xs : List ℕ). tier_worth (lots_in (rates_for f (short_of k)) xs (part from to areas))) taken,
              );
        }
