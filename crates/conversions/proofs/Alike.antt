-- A book as another version: no rule but the questions of the header looks at the version, so what a call gives differs in the version of the book alone. Assumes nothing.
use Rattle.base.specs.Basics.{◌≡◌, refl, ap, ◌∙◌, cond, ◌&&◌, Option, none, some, List, [], ◌∷◌, ℕ, zero, suc, ◌+◌}
use Rattle.rules.specs.Bearers.{borne}
use Rattle.rules.specs.Book.{Book, User}
use Rattle.rules.specs.Calls.{Call, Result, about, afternoon_call_of, effect, morning_call_of, posting, reduction, run}
use Rattle.rules.specs.Calls.{assigned_falls_short, assigned_suffices, called_in_beyond_margin, eligible_trade, entry_in_range, id_known, is_shipper, margin_exceeded}
use Rattle.rules.specs.Calls.{cuttable, guaranteed, next_reduced, answer_of_run, onward, reduced, reduced_by, run_for}
use Rattle.rules.specs.Changes.{with_users}
use Rattle.rules.specs.Levels.{Limits, afternoon_level, buys, called_in, flagged, holding, morning_level, party_to, seller_of, sells, short_of_cover}
use Rattle.rules.specs.Queries.{Query, about_query, afternoon_level_of, found, morning_level_of, shown_record, warned, warning, warns}
use Rattle.rules.specs.Reduction.{cuts, eligible, has_eligible, short_in, target, tier_one, tier_two, with_trades}
use Rattle.conversions.specs.Conversion.{as_version}

-- the same answer, and the book as a version
unfoldable pub result_as : ℕ → Result Book → Result Book
result_as v r = record { answer = r.answer; book = as_version v r.book }

module _ (limits : Limits) (v : ℕ) where
  next_alike : (b : Book) (us : List User) → next_reduced limits (as_version v b) us ≡ next_reduced limits b us
  unfolding next_reduced as_version short_of_cover has_eligible eligible sells holding borne afternoon_level called_in flagged party_to buys
  next_alike b [] = refl
  next_alike b (u ∷ us) = ap (λ (r : Option User). cond (short_of_cover limits b u && has_eligible b u) (some u) r) (next_alike b us)

  reduced_alike : (b : Book) (u : User) → reduced limits (as_version v b) u ≡ result_as v (reduced limits b u)
  unfolding reduced reduced_by target with_trades cuts tier_one tier_two as_version result_as short_in eligible sells holding borne afternoon_level
  reduced_alike b u = refl

  onward_alike : (b : Book) (o : Option User) (more : Book → Result Book) → ((c : Book) → more (as_version v c) ≡ result_as v (more c))
      → onward limits (as_version v b) o more ≡ result_as v (onward limits b o more)
  unfolding onward result_as
  onward_alike b none more ih = refl
  onward_alike b (some u) more ih =
      let first = reduced limits b u in
      ap (λ (r : Result Book). joined r (more r.book)) (reduced_alike b u) ∙ ap (joined (result_as v first)) (ih first.book)
    where
      joined : Result Book → Result Book → Result Book
      joined first rest =
          record { answer = answer_of_run (suc rest.answer.reductions) (first.answer.mwh + rest.answer.mwh) (first.answer.worth + rest.answer.worth); book = rest.book }

  run_alike : (n : ℕ) (b : Book) → run_for limits n (as_version v b) ≡ result_as v (run_for limits n b)
  unfolding run_for result_as as_version onward
  run_alike zero b = refl
  run_alike (suc n) b =
      ap (λ (o : Option User). onward limits (as_version v b) o (run_for limits n)) (next_alike b b.users) ∙ onward_alike b (next_reduced limits b b.users) (run_for limits n) (run_alike n)

  -- the questions of every call and its effect
  pub about_alike : (b : Book) (c : Call) → about limits (as_version v b) c ≡ about limits b c
  unfolding about as_version id_known is_shipper entry_in_range margin_exceeded called_in_beyond_margin assigned_suffices assigned_falls_short eligible_trade afternoon_level morning_level holding borne called_in flagged party_to has_eligible eligible sells buys
  about_alike b (posting id area amount) = refl
  about_alike b (morning_call_of id) = refl
  about_alike b (afternoon_call_of id) = refl
  about_alike b (reduction id) = refl
  about_alike b run = refl

  pub effect_alike : (b : Book) (c : Call) → effect limits (as_version v b) c ≡ result_as v (effect limits b c)
  unfolding effect as_version result_as guaranteed with_users afternoon_level morning_level holding borne
  effect_alike b (posting id area amount) = refl
  effect_alike b (morning_call_of id) = refl
  effect_alike b (afternoon_call_of id) = refl
  effect_alike b (reduction id) = reduced_alike b _
  effect_alike b run = run_alike (cuttable b.trades) b

  -- and of every query what it finds
  pub query_alike : (b : Book) (q : Query) → about_query (as_version v b) q ≡ about_query b q
  unfolding about_query as_version id_known
  query_alike b (morning_level_of id) = refl
  query_alike b (afternoon_level_of id) = refl
  query_alike b (warning id) = refl
  query_alike b (shown_record id) = refl

  pub found_alike : (b : Book) (q : Query) → found limits (as_version v b) q ≡ found limits b q
  unfolding found as_version warned warns flagged seller_of buys afternoon_level morning_level holding borne
  found_alike b (morning_level_of id) = refl
  found_alike b (afternoon_level_of id) = refl
  found_alike b (warning id) = refl
  found_alike b (shown_record id) = refl
