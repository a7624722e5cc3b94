-- `keep`: the worth of the tier and the first of its highest sales, tier two where tier one is worth nothing. Assumes nothing.
use Rattle.base.specs.Basics.{refl, sym, ap, subst, ◌∙◌, true, false, not, List, ℕ, arith}
use Rattle.cut_tiers.proofs.Weights.{rates_range}
use Rattle.cut_tiers.specs.Tiers.{short_by}
use Rattle.cut_worth.specs.Rates.{Rates, lots_in}
use Rattle.laws_sales.specs.Parts.{part}
use Rattle.rules.specs.Shares.{tier_worth}
use Rattle.cut_peaks.specs.Keeping.{short_of}
use Rattle.units.specs.Prices.{as_prices}
use Rattle.cut_peaks.proofs.Keeping.{kept_tier, kept_where, never, rates_first, rates_second, same_short}
use Rattle.cut_peaks.proofs.keep.Goals as goal

pub worth_of-worth-requires : goal.worth_of-worth-requires
worth_of-worth-requires c = let short = c.args.short.now in
    (c.requires.1, subst Rates (sym (c.rates_of-one.ensures (short_by short) refl refl refl)) (rates_range (as_prices c.args.prices) (short_by short) c.requires.0))

pub returns-then-worth-gt0 : goal.returns-then-worth-gt0
returns-then-worth-gt0 c = let a = c.args in
    let worth = c.worth_of-worth in
    let short = a.short.now in
    let peak = c.first_peak-peak in
    let k = kept_where short false c.worth_of-worth.result.0 c.first_peak-peak.result in
    let one = c.rates_of-one.ensures (short_of k) refl refl refl in (
      kept_tier (as_prices a.prices) k (one ∙ rates_first (as_prices a.prices) k refl) worth.ensures.result_value (omega (arith, worth.ensures.result_bound, c.requires.1.inside))
          peak.ensures.0 peak.ensures.1 (λ e. absurd (never e)),
      same_short refl,
    )

pub worth_of-other-requires : goal.worth_of-other-requires
worth_of-other-requires c = let short = c.args.short.now in
    (c.requires.1, subst Rates (sym (c.rates_of-two.ensures (λ area. not (short_by short area)) refl refl refl)) (rates_range (as_prices c.args.prices) (λ area. not (short_by short area)) c.requires.0))

pub returns : goal.returns
returns c = let a = c.args in
    let worth = c.worth_of-other in
    let short = a.short.now in
    let peak = c.first_peak-peak-2 in
    let k = kept_where short true c.worth_of-other.result.0 c.first_peak-peak-2.result in
    let one = c.rates_of-one.ensures (short_of k) refl refl refl in
    let two = c.rates_of-two.ensures (λ area. not (short_of k area)) refl refl refl in
    let first = c.worth_of-worth.ensures.result_value in (
      kept_tier (as_prices a.prices) k (two ∙ rates_second (as_prices a.prices) k refl) worth.ensures.result_value (omega (arith, worth.ensures.result_bound, c.requires.1.inside))
          peak.ensures.0 peak.ensures.1
          (λ e. ap (λ (rs : List ℕ). tier_worth (lots_in rs (part a.from a.to a.standing.now) (part a.from a.to a.areas.now))) (sym one) ∙ omega (arith, first, c.if-worth-gt0.false)),
      same_short refl,
    )
