-- Figures of document 02's ask 5, "group portfolios", in books of version 3: 101 manages 102 in PVB, 103 is in no group. Assumes nothing.
use Rattle.base.specs.Basics.{◌≡◌, refl, true, false, List, [], ◌∷◌, map, ℕ, ◌+◌, ℤ, pos, neg_ℤ}
use Rattle.rules.specs.Book.{PerArea, Managers, User, Trade, Book, find, unmanaged}
use Rattle.rules.specs.Questions.{accepted}
use Rattle.rules.specs.Levels.{today, morning_level, afternoon_level, flagged, called_in}
use Rattle.rules.specs.Calls.{reduction, step}
use Rattle.rules.specs.Queries.{warned}
use Rattle.rules.proofs.Opened.{opened}
use Rattle.rules.proofs.Credits.{in_version, selling_tariff_at}
use Rattle.rules.proofs.Figures.{prices, amounts, user, positioned, trade, book_of, standing_after}

-- ---- books

-- the manager's id in PVB, and none elsewhere
unfoldable pub in_pvb : ℕ → Managers
in_pvb manager = record { pvb = manager; tvb = 0; avb = 0 }

-- a user with managers
unfoldable pub managed_by : Managers → User → User
managed_by ms u =
    record {
      party = record { id = u.party.id; role = u.party.role; charges = u.party.charges; assigned = u.party.assigned; managers = ms };
      physical = u.physical;
      position = u.position;
      blocked = u.blocked;
    }

-- selling tariffs S 1500 and U 900
unfoldable pub grouped : List User → List Trade → Book
grouped us ts = in_version 3 (selling_tariff_at 1500 900) (book_of us ts)

-- the manager 101 and its member 102, with physical entries in PVB and TVB, and 103 with nothing
unfoldable pub group : ℤ → ℕ → PerArea → ℤ → PerArea → List Trade → Book
group charges blocked own memberCharges members ts =
    grouped (user 101 0 charges 100000000 blocked own
    ∷ (managed_by (in_pvb 101) (user 102 0 memberCharges 100000000 0 members) ∷ (user 103 0 (pos 0) 100000000 0 (amounts (pos 0) (pos 0)) ∷ [])))
    ts

-- the manager short of 5,000 MWh in PVB, the member of 35,000, with charges of 12,000,000
unfoldable pub short_group : ℕ → List Trade → Book
short_group blocked ts = group (pos 0) blocked (amounts (neg_ℤ (pos 5000)) (pos 0)) (pos 12000000) (amounts (neg_ℤ (pos 35000)) (pos 0)) ts

unfoldable pub user_of : Book → ℕ → User
user_of b id = find b.users id

-- sales of the member and of the manager to 103 in PVB, one inside the group, the member's in TVB, and a sale of the member in PVB that was cut before; the group is short of 1 MWh in PVB, worth 2,000,
-- and an assigned guarantee of 10,000,000 leaves the target `asked`
unfoldable pub selling_group : ℕ → Book
selling_group asked =
    grouped (user 101 0 (pos (9998000 + asked)) 10000000 0 (amounts (pos 5) (pos 0))
    ∷ (managed_by (in_pvb 101) (user 102 0 (pos 0) 100000000 0 (amounts (pos 0) (pos 4))) ∷ (user 103 0 (pos 0) 100000000 0 (amounts (pos 0) (pos 0)) ∷ [])))
    (trade 102 103 0 0 0 3
    ∷ (trade 101 103 0 0 0 3
    ∷ (trade 101 102 0 0 0 5
    ∷ (trade 102 103 1 0 0 4
    ∷ (record { terms = record { seller = 102; buyer = 103; area = 0; kind = 0; day = 0; notified = 1 }; standing = 0 } ∷ [])))))

-- the member, called in by its trade in TVB and short of cover, with a sale in PVB and none that is its own
unfoldable pub selling_member : ℕ → Book
selling_member area =
    grouped (user 101 0 (pos 0) 100000000 0 (amounts (pos 9) (pos 0))
    ∷ (managed_by (in_pvb 101) (user 102 0 (pos 10002000) 10000000 0 (amounts (pos 9) (pos 0))) ∷ (user 103 0 (pos 0) 100000000 0 (amounts (pos 0) (pos 0)) ∷ [])))
    (trade 102 103 area 0 0 3
    ∷ (record { terms = record { seller = 102; buyer = 103; area = 1; kind = 0; day = 0; notified = 1 }; standing = 0 } ∷ []))

-- positions in PVB after a reduction
unfoldable pub pvb_after : Book → ℕ → List ℤ
pvb_after b id = map (λ u. u.position.pvb) (step today b (reduction id)).book.users

-- 101, 102 and 103 of some roles, with managers of 101 and 102, in a version
unfoldable pub roles : ℕ → ℕ → Managers → ℕ → Managers → Book
roles version r ms s ns =
    in_version version (selling_tariff_at 0 0)
    (book_of (managed_by ms (user 101 r (pos 0) 0 0 (amounts (pos 0) (pos 0)))
    ∷ (managed_by ns (user 102 s (pos 0) 0 0 (amounts (pos 0) (pos 0))) ∷ (user 103 0 (pos 0) 0 0 (amounts (pos 0) (pos 0)) ∷ []))) [])

pub record Groups : Type 0 where
  -- "the sums over itself and its members": 40,000 MWh short at 2,000; the charges of the member stay its own, and it counts 0
  pub short_book : accepted (short_group 0 []) ≡ true
  pub manager_level : afternoon_level today (short_group 0 []) (user_of (short_group 0 []) 101) ≡ 80000000
  pub manager_morning : morning_level today (short_group 0 []) (user_of (short_group 0 []) 101) ≡ 80000000
  pub member_level : afternoon_level today (short_group 0 []) (user_of (short_group 0 []) 102) ≡ 12000000
  pub member_morning : morning_level today (short_group 0 []) (user_of (short_group 0 []) 102) ≡ 12000000
  -- sold and bought for d+1: the member's 30 MWh sold to 103 and 10 bought from it are the manager's, those inside the group cancel
  pub next_book : accepted (group (pos 12000000) 0 (amounts (pos 0) (pos 0)) (pos 0) (amounts (pos 0) (pos 0)) (trade 102 103 0 0 1 30 ∷ (trade 103 102 0 0 1 10 ∷ (trade 101 102 0 0 1 7 ∷ [])))) ≡ true
  pub next_level :
      let b = group (pos 12000000) 0 (amounts (pos 0) (pos 0)) (pos 0) (amounts (pos 0) (pos 0)) (trade 102 103 0 0 1 30 ∷ (trade 103 102 0 0 1 10 ∷ (trade 101 102 0 0 1 7 ∷ []))) in
      afternoon_level today b (user_of b 101) ≡ 12040000
  -- the larger of 0 and a position is taken of the sum: −10,000 + 4,000 in PVB; the credit too: 100 × 1,500
  pub net_book : accepted (group (pos 0) 0 (amounts (neg_ℤ (pos 10000)) (pos 0)) (pos 0) (amounts (pos 4000) (pos 0)) []) ≡ true
  pub net_level :
      let b = group (pos 0) 0 (amounts (neg_ℤ (pos 10000)) (pos 0)) (pos 0) (amounts (pos 4000) (pos 0)) [] in
      afternoon_level today b (user_of b 101) ≡ 12000000
  pub long_book : accepted (group (pos 12000000) 0 (amounts (neg_ℤ (pos 50)) (pos 0)) (pos 12000000) (amounts (pos 150) (pos 0)) []) ≡ true
  pub long_level :
      let b = group (pos 12000000) 0 (amounts (neg_ℤ (pos 50)) (pos 0)) (pos 12000000) (amounts (pos 150) (pos 0)) [] in
      afternoon_level today b (user_of b 101) ≡ 11850000
  pub long_member :
      let b = group (pos 12000000) 0 (amounts (neg_ℤ (pos 50)) (pos 0)) (pos 12000000) (amounts (pos 150) (pos 0)) [] in
      afternoon_level today b (user_of b 102) ≡ 12000000
  -- the flag: 40,000 MWh short, as document 01's first two rows; the member has none, though 35,000 MWh short
  pub not_flagged : flagged today (short_group 20000000 []) (user_of (short_group 20000000 []) 101) ≡ false
  pub is_flagged : flagged today (short_group 19999999 []) (user_of (short_group 19999999 []) 101) ≡ true
  pub member_flag : flagged today (short_group 0 []) (user_of (short_group 0 []) 102) ≡ false
  -- "at midday the manager's flag stands for a managed seller's": in PVB, and in TVB the member's own
  pub warning_book : accepted (short_group 0 (trade 102 103 0 0 0 1 ∷ [])) ≡ true
  pub is_warned : warned today (short_group 0 (trade 102 103 0 0 0 1 ∷ [])) (user_of (short_group 0 (trade 102 103 0 0 0 1 ∷ [])) 103) ≡ true
  pub tvb_book : accepted (short_group 0 (trade 102 103 1 0 0 1 ∷ [])) ≡ true
  pub not_warned : warned today (short_group 0 (trade 102 103 1 0 0 1 ∷ [])) (user_of (short_group 0 (trade 102 103 1 0 0 1 ∷ [])) 103) ≡ false
  -- a member that buys is warned itself, its manager is not
  pub buyer_book : accepted (group (pos 0) 0 (amounts (pos 0) (pos 0)) (pos 0) (amounts (pos 0) (pos 0)) (trade 103 102 0 0 0 40000 ∷ [])) ≡ true
  pub buyer_warned :
      let b = group (pos 0) 0 (amounts (pos 0) (pos 0)) (pos 0) (amounts (pos 0) (pos 0)) (trade 103 102 0 0 0 40000 ∷ []) in
      warned today b (user_of b 102) ≡ true
  pub manager_not_warned :
      let b = group (pos 0) 0 (amounts (pos 0) (pos 0)) (pos 0) (amounts (pos 0) (pos 0)) (trade 103 102 0 0 0 40000 ∷ []) in
      warned today b (user_of b 101) ≡ false
  -- "A member's trade there calls in the manager in place of the member"
  pub selling_book : accepted (selling_group 6000) ≡ true
  pub manager_called : called_in today (selling_group 6000) (user_of (selling_group 6000) 101) ≡ true
  pub member_not_called : called_in today (selling_group 6000) (user_of (selling_group 6000) 102) ≡ false
  -- the manager's sales and its member's in PVB to 103 are cut as document 01's 3 and 3 at A 6,000; neither the one inside the group nor the member's in TVB is
  pub group_cuts : standing_after (selling_group 6000) (reduction 101) ≡ 1 ∷ (2 ∷ (5 ∷ (4 ∷ (0 ∷ []))))
  pub group_answer :
      (step today (selling_group 6000) (reduction 101)).answer
      ≡ record { number = 0; level = 0; added = 0; reductions = 0; mwh = 3; worth = 6000; target = 6000; short = 0; over = 0 }
  -- "Positions stay per user": 101 had 5 − 3 − 5, 102 had −3 + 5, 103 had 6
  pub group_positions : pvb_after (selling_group 6000) 101 ≡ neg_ℤ (pos 2) ∷ (pos 4 ∷ (pos 3 ∷ []))
  -- the target beyond all that can be cut: the sale inside the group still stands
  pub all_cut : standing_after (selling_group 12001) (reduction 101) ≡ 0 ∷ (0 ∷ (5 ∷ (4 ∷ (0 ∷ []))))
  pub all_short : (step today (selling_group 12001) (reduction 101)).answer.short ≡ 1
  -- "and not the members' own": the member's sale in PVB is not eligible for it, that in TVB is
  pub member_book : accepted (selling_member 0) ≡ true
  pub member_reduction : (step today (selling_member 0) (reduction 102)).answer.number ≡ 14
  pub tvb_sale_book : accepted (selling_member 1) ≡ true
  pub tvb_reduction : (step today (selling_member 1) (reduction 102)).answer.number ≡ 0
  -- question 5: two shippers; not oneself, not an unknown id, not a clearing house, not one that is managed there; version 3 alone has managers
  pub well_managed : accepted (roles 3 0 unmanaged 0 (in_pvb 101)) ≡ true
  pub unknown_manager : accepted (roles 3 0 unmanaged 0 (in_pvb 999)) ≡ false
  pub own_manager : accepted (roles 3 0 unmanaged 0 (in_pvb 102)) ≡ false
  pub house_manages : accepted (roles 3 1 unmanaged 0 (in_pvb 101)) ≡ false
  pub house_managed : accepted (roles 3 0 unmanaged 1 (in_pvb 101)) ≡ false
  pub manager_managed : accepted (roles 3 0 (in_pvb 103) 0 (in_pvb 101)) ≡ false
  pub managed_elsewhere : accepted (roles 3 0 (record { pvb = 0; tvb = 102; avb = 0 }) 0 (in_pvb 101)) ≡ true
  pub managed_in_version_2 : accepted (roles 2 0 unmanaged 0 (in_pvb 101)) ≡ false

pub groups : Groups
unfolding opened prices amounts user positioned trade book_of standing_after in_version selling_tariff_at in_pvb managed_by grouped group short_group user_of selling_group selling_member pvb_after roles
groups =
    record {
      short_book = refl;
      manager_level = refl;
      manager_morning = refl;
      member_level = refl;
      member_morning = refl;
      next_book = refl;
      next_level = refl;
      net_book = refl;
      net_level = refl;
      long_book = refl;
      long_level = refl;
      long_member = refl;
      not_flagged = refl;
      is_flagged = refl;
      member_flag = refl;
      warning_book = refl;
      is_warned = refl;
      tvb_book = refl;
      not_warned = refl;
      buyer_book = refl;
      buyer_warned = refl;
      manager_not_warned = refl;
      selling_book = refl;
      manager_called = refl;
      member_not_called = refl;
      group_cuts = refl;
      group_answer = refl;
      group_positions = refl;
      all_cut = refl;
      all_short = refl;
      member_book = refl;
      member_reduction = refl;
      tvb_sale_book = refl;
      tvb_reduction = refl;
      well_managed = refl;
      unknown_manager = refl;
      own_manager = refl;
      house_manages = refl;
      house_managed = refl;
      manager_managed = refl;
      managed_elsewhere = refl;
      managed_in_version_2 = refl;
    }
