-- Figures of document 02's ask 3, "credit for long positions", in books of version 2 with the selling tariffs S 1500 and U 900. Assumes nothing.
use Rattle.base.specs.Basics.{◌≡◌, refl, true, false, [], ◌∷◌, ℕ, ℤ, pos, neg_ℤ}
use Rattle.rules.specs.Areas.{Prices}
use Rattle.rules.specs.Book.{Trade, Book}
use Rattle.rules.specs.Questions.{accepted}
use Rattle.rules.specs.Levels.{today, morning_level, afternoon_level, flagged}
use Rattle.rules.specs.Calls.{afternoon_call_of, reduction, step}
use Rattle.rules.proofs.Opened.{opened}
use Rattle.rules.proofs.Figures.{prices, amounts, user, positioned, trade, sale, book_of, two, first, book_with, short_in_pvb, charged, cut_before, selling, standing_after}

-- the prices of the ten rows, with selling tariffs
unfoldable pub selling_tariff_at : ℕ → ℕ → Prices
selling_tariff_at s u = record { p = 2000; q = 2100; l = 300; x = 100; i = 50; s = s; u = u }

-- the users and trades of a book, in a version with prices
unfoldable pub in_version : ℕ → Prices → Book → Book
in_version version f b =
    record { header = record { version = version; date = b.header.date; prices = f }; users = b.users; trades = b.trades }

unfoldable pub credited : Book → Book
credited b = in_version 2 (selling_tariff_at 1500 900) b

-- long of 100 MWh in PVB, 50 in TVB and 7 in AVB, with 80 MWh sold for d+1 in TVB
unfoldable pub long_in_all : ℤ → Book
long_in_all charges =
    two (user 101 0 charges 100000000 0 (record { pvb = pos 100; tvb = pos 50; avb = pos 7 })) (sale 1 1 80 ∷ [])

-- short of 10,000 MWh in PVB, long of 100 in TVB, with charges below 0
unfoldable pub short_and_long : Book
short_and_long = book_with (neg_ℤ (pos 5000000)) 100000000 0 (amounts (neg_ℤ (pos 10000)) (pos 100)) []

-- long of 10 MWh in TVB, worth 9,000, and called in, with the levels and sales of a row
unfoldable pub long_and_selling : ℤ → Book
long_and_selling charges =
    book_with charges 10000000 0 (amounts (pos 5) (pos 10)) (sale 0 0 3 ∷ (sale 0 0 3 ∷ (cut_before ∷ [])))

pub record Credits : Type 0 where
  -- charges 12,000,000 + 30 × 2,400 for d+1 − 100 × 1,500 − 50 × 900 − 7 × 900; the morning level has no credit
  pub long_book : accepted (credited (long_in_all (pos 12000000))) ≡ true
  pub long_level : afternoon_level today (credited (long_in_all (pos 12000000))) (first (long_in_all (pos 12000000))) ≡ 11870700
  pub long_morning : morning_level today (credited (long_in_all (pos 12000000))) (first (long_in_all (pos 12000000))) ≡ 12072000
  -- before the floor: a level is never below it
  pub floor_book : accepted (credited (long_in_all (pos 10000000))) ≡ true
  pub floor_level : afternoon_level today (credited (long_in_all (pos 10000000))) (first (long_in_all (pos 10000000))) ≡ 10000000
  -- from the whole sum, charges below 0 and the short position of another area included: −5,000,000 + 10,000 × 2,000 − 100 × 900
  pub whole_book : accepted (credited short_and_long) ≡ true
  pub whole_level : afternoon_level today (credited short_and_long) (first short_and_long) ≡ 14910000
  -- version 1 has the level of document 01
  pub version_1_book : accepted (long_in_all (pos 12000000)) ≡ true
  pub version_1_level : afternoon_level today (long_in_all (pos 12000000)) (first (long_in_all (pos 12000000))) ≡ 12072000
  -- a flag has no credit: short of 40,000 MWh in PVB, long in TVB, blocked 19,999,999
  pub flag_book : accepted (credited (book_with (pos 0) 100000000 19999999 (amounts (neg_ℤ (pos 40000)) (pos 100)) [])) ≡ true
  pub is_flagged :
      let b = book_with (pos 0) 100000000 19999999 (amounts (neg_ℤ (pos 40000)) (pos 100)) [] in
      flagged today (credited b) (first b) ≡ true
  -- charges 10,007,000 and 2,000 for 1 MWh short in PVB less 9,000: assigned = level, so no reduction; 6,000 more is the target 6,000
  pub covered_book : accepted (credited (long_and_selling (pos 10007000))) ≡ true
  pub covered_reduction : (step today (credited (long_and_selling (pos 10007000))) (reduction 101)).answer.number ≡ 13
  pub covered_call : (step today (credited (long_and_selling (pos 10007000))) (afternoon_call_of 101)).answer.level ≡ 10000000
  pub target_book : accepted (credited (long_and_selling (pos 10013000))) ≡ true
  pub target_cuts : standing_after (credited (long_and_selling (pos 10013000))) (reduction 101) ≡ 1 ∷ (2 ∷ (0 ∷ []))
  pub target_reduction : (step today (credited (long_and_selling (pos 10013000))) (reduction 101)).answer.target ≡ 6000
  -- selling tariffs are 0 to 100,000, and 0 in version 1; versions are 1, 2 and 3
  pub least_tariffs : accepted (in_version 2 (selling_tariff_at 0 0) (long_in_all (pos 0))) ≡ true
  pub most_tariffs : accepted (in_version 2 (selling_tariff_at 100000 100000) (long_in_all (pos 0))) ≡ true
  pub s_above : accepted (in_version 2 (selling_tariff_at 100001 0) (long_in_all (pos 0))) ≡ false
  pub u_above : accepted (in_version 2 (selling_tariff_at 0 100001) (long_in_all (pos 0))) ≡ false
  pub none_in_version_1 : accepted (in_version 1 (selling_tariff_at 1 0) (long_in_all (pos 0))) ≡ false
  pub none_in_version_1_either : accepted (in_version 1 (selling_tariff_at 0 1) (long_in_all (pos 0))) ≡ false
  pub version_0 : accepted (in_version 0 prices (long_in_all (pos 0))) ≡ false
  pub version_3 : accepted (in_version 3 (selling_tariff_at 1500 900) (long_in_all (pos 0))) ≡ true
  pub version_4 : accepted (in_version 4 prices (long_in_all (pos 0))) ≡ false

pub credits : Credits
unfolding opened prices amounts user positioned trade sale book_of two first book_with short_in_pvb charged cut_before selling standing_after selling_tariff_at in_version credited long_in_all short_and_long long_and_selling
credits =
    record {
      long_book = refl;
      long_level = refl;
      long_morning = refl;
      floor_book = refl;
      floor_level = refl;
      whole_book = refl;
      whole_level = refl;
      version_1_book = refl;
      version_1_level = refl;
      flag_book = refl;
      is_flagged = refl;
      covered_book = refl;
      covered_reduction = refl;
      covered_call = refl;
      target_book = refl;
      target_cuts = refl;
      target_reduction = refl;
      least_tariffs = refl;
      most_tariffs = refl;
      s_above = refl;
      u_above = refl;
      none_in_version_1 = refl;
      none_in_version_1_either = refl;
      version_0 = refl;
      version_3 = refl;
      version_4 = refl;
    }
