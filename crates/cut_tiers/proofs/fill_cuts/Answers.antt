-- `fill_cuts`: tier one finds no cut, tier two none of its own sales; what each is asked for is the definition's. Assumes nothing.
use Rattle.base.specs.Basics.{refl, sym, subst, not}
use Rattle.cut_worth.specs.Rates.{Rates}
use Rattle.units.specs.Prices.{as_prices}
use Rattle.cut_tiers.specs.Tiers.{short_by}
use Rattle.cut_tiers.proofs.Weights.{rates_range}
use Rattle.cut_tiers.proofs.Tiers.{none_untouched, first_untouched, one_tier, both_tiers}
use Rattle.cut_tiers.proofs.fill_cuts.Goals as goal

pub worth_of-worth-requires : goal.worth_of-worth-requires
worth_of-worth-requires c = let one = c.rates_of-one.ensures (short_by c.args.short.now) refl refl refl in
    (c.requires.in_range.1, subst Rates (sym one) (rates_range (as_prices c.args.prices) (short_by c.args.short.now) c.requires.in_range.0))

pub tier_cuts-requires : goal.tier_cuts-requires
tier_cuts-requires c = let one = c.rates_of-one.ensures (short_by c.args.short.now) refl refl refl in record {
  sales = (
    c.requires.in_range.1,
    subst Rates (sym one) (rates_range (as_prices c.args.prices) (short_by c.args.short.now) c.requires.in_range.0),
    none_untouched _ c.args.areas.now c.requires.no_cuts.0,
    c.requires.no_cuts.1,
  );
  worth_value = (c.worth_of-worth.ensures.result_value, c.worth_of-worth.ensures.result_bound);
}

pub returns-then-asked-worth : goal.returns-then-asked-worth
returns-then-asked-worth c = let one = c.rates_of-one.ensures (short_by c.args.short.now) refl refl refl in record {
  cuts_after = one_tier (as_prices c.args.prices) c.requires.in_range.0 (short_by c.args.short.now) c.args.asked.0 c.requires.in_range.1 c.requires.no_cuts.0 one c.tier_cuts.ensures.cuts_after
      _ c.worth_of-worth.ensures.result_value c.if-asked-worth.true;
  rests_len = c.tier_cuts.ensures.rests_len;
}

pub worth_of-other-requires : goal.worth_of-other-requires
worth_of-other-requires c = let two = c.rates_of-two.ensures (λ area. not (short_by c.args.short.now area)) refl refl refl in
    (c.requires.in_range.1, subst Rates (sym two) (rates_range (as_prices c.args.prices) (λ area. not (short_by c.args.short.now area)) c.requires.in_range.0))

pub tier_cuts-requires-2 : goal.tier_cuts-requires-2
tier_cuts-requires-2 c = let one = c.rates_of-one.ensures (short_by c.args.short.now) refl refl refl in
    let two = c.rates_of-two.ensures (λ area. not (short_by c.args.short.now area)) refl refl refl in record {
      sales = (
        c.requires.in_range.1,
        subst Rates (sym two) (rates_range (as_prices c.args.prices) (λ area. not (short_by c.args.short.now area)) c.requires.in_range.0),
        first_untouched (as_prices c.args.prices) c.requires.in_range.0 (short_by c.args.short.now) c.args.asked.0 c.requires.in_range.1 c.requires.no_cuts.0 one c.tier_cuts.ensures.cuts_after two,
        c.tier_cuts.ensures.rests_len,
      );
      worth_value = (c.worth_of-other.ensures.result_value, c.worth_of-other.ensures.result_bound);
    }

pub returns : goal.returns
returns c = let one = c.rates_of-one.ensures (short_by c.args.short.now) refl refl refl in
    let two = c.rates_of-two.ensures (λ area. not (short_by c.args.short.now area)) refl refl refl in record {
      cuts_after = both_tiers (as_prices c.args.prices) c.requires.in_range.0 (short_by c.args.short.now) c.args.asked.0 c.requires.in_range.1 c.requires.no_cuts.0 one c.tier_cuts.ensures.cuts_after
          _ c.worth_of-worth.ensures.result_value two c.less.ensures c.tier_cuts-2.ensures.cuts_after;
      rests_len = c.tier_cuts-2.ensures.rests_len;
    }
