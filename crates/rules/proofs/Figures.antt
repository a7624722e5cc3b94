-- The figures of document 01 that are to be proved, together as one fact about the rules, at the prices P 2000, Q 2100, L 300, X 100, I 50.
-- The books pass every question; the user of the row is 101, the other party 102. Assumes nothing.
use Rattle.base.specs.Basics.{◌≡◌, refl, true, false, List, [], ◌∷◌, map, ℕ, ◌+◌, ◌-◌, ℤ, pos, neg_ℤ, ◌-ℤ◌}
use Rattle.rules.specs.Areas.{Prices}
use Rattle.rules.specs.Book.{PerArea, User, Trade, Book, defined_position, find, unmanaged}
use Rattle.rules.specs.Questions.{accepted}
use Rattle.rules.specs.Levels.{today, morning_level, afternoon_level, flagged}
use Rattle.rules.specs.Reduction.{target}
use Rattle.rules.specs.Calls.{Call, morning_call_of, afternoon_call_of, reduction, step}
use Rattle.rules.proofs.Opened.{opened}

-- ---- books

unfoldable pub prices : Prices
prices = record { p = 2000; q = 2100; l = 300; x = 100; i = 50; s = 0; u = 0 }

-- amounts in PVB and in TVB
unfoldable pub amounts : ℤ → ℤ → PerArea
amounts pvb tvb = record { pvb = pvb; tvb = tvb; avb = pos 0 }

-- a shipper whose positions are still to be filled in
unfoldable pub user : ℕ → ℕ → ℤ → ℕ → ℕ → PerArea → User
user id role charges assigned blocked physical =
    record {
      party = record { id = id; role = role; charges = charges; assigned = assigned; managers = unmanaged };
      physical = physical;
      position = physical;
      blocked = blocked;
    }

-- the user with positions as they are defined
unfoldable pub positioned : List Trade → User → User
positioned ts u =
    record {
      party = u.party;
      physical = u.physical;
      position = record { pvb = defined_position ts u 0; tvb = defined_position ts u 1; avb = defined_position ts u 2 };
      blocked = u.blocked;
    }

-- a trade that stands as notified
unfoldable pub trade : ℕ → ℕ → ℕ → ℕ → ℕ → ℕ → Trade
trade seller buyer area kind day n =
    record { terms = record { seller = seller; buyer = buyer; area = area; kind = kind; day = day; notified = n }; standing = n }

-- a bilateral sale of 101 to 102, for a day
unfoldable pub sale : ℕ → ℕ → ℕ → Trade
sale area day n = trade 101 102 area 0 day n

unfoldable pub book_of : List User → List Trade → Book
book_of us ts =
    record { header = record { version = 1; date = 20261115; prices = prices }; users = map (positioned ts) us; trades = ts }

-- a book of user 101 and a second user without guarantees
unfoldable pub two : User → List Trade → Book
two u ts = book_of (u ∷ (user 102 0 (pos 0) 0 0 (amounts (pos 0) (pos 0)) ∷ [])) ts

-- user 101 of a book
unfoldable pub first : Book → User
first b = find b.users 101

-- user 101 alone has guarantees; its physical entries are in PVB and TVB
unfoldable pub book_with : ℤ → ℕ → ℕ → PerArea → List Trade → Book
book_with charges assigned blocked physical ts = two (user 101 0 charges assigned blocked physical) ts

-- short of 40,000 MWh in PVB
unfoldable pub short_in_pvb : ℕ → Book
short_in_pvb blocked = book_with (pos 0) 100000000 blocked (amounts (neg_ℤ (pos 40000)) (pos 0)) []

-- charges, and nothing else
unfoldable pub charged : ℤ → ℕ → Book
charged charges blocked = book_with charges 100000000 blocked (amounts (pos 0) (pos 0)) []

-- a sale that was cut to 0 before: its parties are called in
unfoldable pub cut_before : Trade
cut_before =
    record { terms = record { seller = 101; buyer = 102; area = 0; kind = 0; day = 0; notified = 1 }; standing = 0 }

-- called in, with two sales for the day in PVB, and short of 1 MWh there, worth 2,000: an assigned guarantee of 10,000,000 leaves the target `asked`
unfoldable pub selling : ℕ → ℕ → ℕ → Book
selling asked m n =
    book_with (pos (9998000 + asked)) 10000000 0 (amounts (pos (m + n) -ℤ pos 1) (pos 0)) (sale 0 0 m ∷ (sale 0 0 n ∷ (cut_before ∷ [])))

-- called in, with a level of 10,000,000 and 9,000,000 blocked
unfoldable pub at_margin : ℕ → Book
at_margin assigned = book_with (pos 0) assigned 9000000 (amounts (pos 0) (pos 0)) (cut_before ∷ [])

-- what stands of each trade after a call
unfoldable pub standing_after : Book → Call → List ℕ
standing_after b c = map (λ t. t.standing) (step today b c).book.trades

-- ---- the ten rows

pub record Rows : Type 0 where
  -- position −40,000 PVB, blocked 20,000,000: not flagged; blocked 19,999,999: flagged
  pub flag_books : (accepted (short_in_pvb 20000000) ≡ true) × (accepted (short_in_pvb 19999999) ≡ true)
  pub not_flagged : flagged today (short_in_pvb 20000000) (first (short_in_pvb 20000000)) ≡ false
  pub is_flagged : flagged today (short_in_pvb 19999999) (first (short_in_pvb 19999999)) ≡ true
  -- charges −5,000,000, all else 0: level 10,000,000, in the morning and in the afternoon
  pub floor_book : accepted (book_with (neg_ℤ (pos 5000000)) 0 0 (amounts (pos 0) (pos 0)) []) ≡ true
  pub morning_floor : morning_level today (book_with (neg_ℤ (pos 5000000)) 0 0 (amounts (pos 0) (pos 0)) []) (first (book_with (neg_ℤ (pos 5000000)) 0 0 (amounts (pos 0) (pos 0)) [])) ≡ 10000000
  pub afternoon_floor : afternoon_level today (book_with (neg_ℤ (pos 5000000)) 0 0 (amounts (pos 0) (pos 0)) []) (first (book_with (neg_ℤ (pos 5000000)) 0 0 (amounts (pos 0) (pos 0)) [])) ≡ 10000000
  -- level − blocked 1,000,000: 11
  pub margin_book : accepted (charged (pos 0) 9000000) ≡ true
  pub margin_call : (step today (charged (pos 0) 9000000) (morning_call_of 101)).answer.number ≡ 11
  pub margin_in_book : accepted (at_margin 10000000) ≡ true
  pub margin_in_book2 : accepted (at_margin 9000000) ≡ true
  pub margin_afternoon : (step today (at_margin 10000000) (afternoon_call_of 101)).answer.number ≡ 11
  pub margin_reduction : (step today (at_margin 9000000) (reduction 101)).answer.number ≡ 11
  -- TVB position 500, sold d+1 800, charges 10,000,000: afternoon level 10,720,000
  pub stock_book : accepted (book_with (pos 10000000) 0 0 (amounts (pos 0) (pos 500)) (sale 1 1 800 ∷ [])) ≡ true
  pub stock_level :
      let b = book_with (pos 10000000) 0 0 (amounts (pos 0) (pos 500)) (sale 1 1 800 ∷ []) in
      afternoon_level today b (first b) ≡ 10720000
  -- PVB physical −100, sold d 40, bought d+1 30, charges 10,000,000: morning level 10,220,000
  pub need_book : accepted (book_with (pos 10000000) 0 0 (amounts (neg_ℤ (pos 100)) (pos 0)) (sale 0 0 40 ∷ (trade 102 101 0 0 1 30 ∷ []))) ≡ true
  pub need_level :
      let b = book_with (pos 10000000) 0 0 (amounts (neg_ℤ (pos 100)) (pos 0)) (sale 0 0 40 ∷ (trade 102 101 0 0 1 30 ∷ [])) in
      morning_level today b (first b) ≡ 10220000
  -- PVB trades 3 and 4, A 7,000: cut 2 and 2, over 1,000
  pub rounded_book : accepted (selling 7000 3 4) ≡ true
  pub rounded_cuts : standing_after (selling 7000 3 4) (reduction 101) ≡ 1 ∷ (2 ∷ (0 ∷ []))
  pub rounded_over :
      (step today (selling 7000 3 4) (reduction 101)).answer
      ≡ record { number = 0; level = 0; added = 0; reductions = 0; mwh = 4; worth = 8000; target = 7000; short = 0; over = 1000 }
  -- trades 3 and 3, A 6,000: cut 2 and 1
  pub tie_book : accepted (selling 6000 3 3) ≡ true
  pub tie_cuts : standing_after (selling 6000 3 3) (reduction 101) ≡ 1 ∷ (2 ∷ (0 ∷ []))
  -- A = V = 12,000: all cut
  pub whole_book : accepted (selling 12000 3 3) ≡ true
  pub whole_cuts : standing_after (selling 12000 3 3) (reduction 101) ≡ 0 ∷ (0 ∷ (0 ∷ []))
  -- T 12,001, V 12,000, tier two empty: all cut, short 1
  pub short_book : accepted (selling 12001 3 3) ≡ true
  pub short_cuts : standing_after (selling 12001 3 3) (reduction 101) ≡ 0 ∷ (0 ∷ (0 ∷ []))
  pub short_by_one :
      (step today (selling 12001 3 3) (reduction 101)).answer
      ≡ record { number = 0; level = 0; added = 0; reductions = 0; mwh = 6; worth = 12000; target = 12001; short = 1; over = 0 }

pub rows : Rows
unfolding opened prices amounts user positioned trade sale book_of two first book_with short_in_pvb charged cut_before selling standing_after at_margin
rows =
    record {
      flag_books = (refl, refl);
      not_flagged = refl;
      is_flagged = refl;
      floor_book = refl;
      morning_floor = refl;
      afternoon_floor = refl;
      margin_book = refl;
      margin_call = refl;
      margin_in_book = refl;
      margin_in_book2 = refl;
      margin_afternoon = refl;
      margin_reduction = refl;
      stock_book = refl;
      stock_level = refl;
      need_book = refl;
      need_level = refl;
      rounded_book = refl;
      rounded_cuts = refl;
      rounded_over = refl;
      tie_book = refl;
      tie_cuts = refl;
      whole_book = refl;
      whole_cuts = refl;
      short_book = refl;
      short_cuts = refl;
      short_by_one = refl;
    }
