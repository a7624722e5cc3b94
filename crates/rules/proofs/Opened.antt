-- `unfolding opened` opens every rule at once, for a figure that is computed. Assumes nothing.
use Rattle.base.specs.Basics.{ℕ}
use Rattle.base.specs.Parts.{pos_part, neg_part}
use Rattle.base.specs.Sums.{sum, sum_ℤ}
use Rattle.rules.specs.Areas.{areas, tariff, reference_price_of, selling_in, managers_in, selling_tariff_of}
use Rattle.rules.specs.Signed.{signed_of, bits_of, within}
use Rattle.rules.specs.Calendar.{leap_year, days_in_month, year_of, month_of, day_of, real_day}
use Rattle.base.specs.Lists.{all, any}
use Rattle.rules.specs.Book.{at, manager_in, bilateral_for_day, dealt, sold, bought, defined_position, nobody, find}
use Rattle.rules.specs.Questions.{refusal, version_known, version_is_valid, counts_are_valid, tariff_valid, toll_valid, prices_are_valid, most_selling, selling_is_valid, header_is_valid, ids_rise, entries_valid, guarantees_valid, user_is_valid, users_are_valid, known, manages, manager_valid}
use Rattle.rules.specs.Questions.{managers_are_valid, groups_valid, parties_valid, codes_valid, amounts_valid, trade_is_valid, eqb_ℤ, position_valid, positions_are_valid, about_book, accepted, after}
use Rattle.rules.specs.Changes.{change, with_users, add, posted, blocked_to, moved}
use Rattle.rules.specs.Bearers.{bearer, borne_sum, as_borne, borne}
use Rattle.rules.specs.Levels.{today, holding, sells, buys, party_to, seller_of, need_of_morning, stock, need_of_afternoon, exposure, morning_sum, credit, afternoon_sum, lowest_reference_price, shipper, floored, morning_level, afternoon_level, flagged, called_in}
use Rattle.rules.specs.Levels.{exceeds_its_margin, short_of_cover}
use Rattle.rules.specs.Shares.{tier_worth, share_of, loss, largest_remainder, one_more, shares_by_turns, in_proportion, cuts_of_tier}
use Rattle.rules.specs.Reduction.{target, eligible, has_eligible, short_in, lot, tier_one, tier_two, together, cuts, cut_by, cut_all, nothing, tallied, tally_all, lost, settle_one, settle, with_trades}
use Rattle.rules.specs.Calls.{only, of_level, answer_of_cuts, answer_of_run, guaranteed, reduced_by, cuttable, id_known, is_shipper, entry_in_range, assigned_suffices, assigned_falls_short, eligible_trade, margin_exceeded, called_in_beyond_margin, about, reduced, next_reduced, onward}
use Rattle.rules.specs.Calls.{run_for, call_after, effect, result_in, unchanged}
use Rattle.rules.specs.Queries.{only_number, a_level, a_warning, a_record, about_query, warns, warned, found, reply_after}
use Rattle.rules.specs.Day.{call_due, state, printed_level, line, lines}

unfoldable pub opened : ℕ
unfolding pos_part neg_part sum sum_ℤ areas tariff reference_price_of selling_in managers_in selling_tariff_of signed_of bits_of within leap_year days_in_month year_of month_of day_of real_day all any at manager_in
    bilateral_for_day dealt sold bought defined_position nobody find after refusal version_known version_is_valid counts_are_valid tariff_valid toll_valid prices_are_valid most_selling selling_is_valid
    header_is_valid ids_rise entries_valid guarantees_valid user_is_valid users_are_valid known manages manager_valid managers_are_valid groups_valid parties_valid codes_valid amounts_valid trade_is_valid eqb_ℤ position_valid
    positions_are_valid about_book accepted change with_users add posted blocked_to moved bearer borne_sum as_borne borne today holding sells buys party_to seller_of need_of_morning stock
    need_of_afternoon exposure morning_sum credit afternoon_sum lowest_reference_price shipper floored morning_level afternoon_level flagged called_in exceeds_its_margin
    short_of_cover tier_worth share_of loss largest_remainder one_more shares_by_turns in_proportion cuts_of_tier target eligible has_eligible short_in lot tier_one tier_two
    together cuts cut_by cut_all nothing tallied tally_all lost settle_one settle with_trades only of_level answer_of_cuts answer_of_run guaranteed reduced_by cuttable id_known
    is_shipper entry_in_range assigned_suffices assigned_falls_short eligible_trade margin_exceeded called_in_beyond_margin about reduced next_reduced onward
    run_for effect unchanged result_in call_after only_number a_level a_warning a_record about_query warns warned found reply_after call_due state printed_level line lines
opened = 0
