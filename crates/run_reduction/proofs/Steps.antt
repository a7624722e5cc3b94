-- One reduction on arrays, step by step: the user's own sales in them, what they lose, and the positions that this moves. Assumes nothing.
use Rattle.base.specs.Basics.{◌≡◌, sym, ap, ap₂, subst, ◌∙◌, inl, inr, List, map, ℕ, suc, ◌+◌, ◌*◌, ◌-◌, ◌≤◌, ◌<◌, ◌^◌, add-one, arith, ltb, length}
use Rattle.base.specs.Basics.{get_or, length-map, get_or-eq_default, length-sets, sets}
use Rattle.base.proofs.Fronts.{all_at}
use Rattle.cut_tiers.proofs.After.{cuts_of_sales}
use Rattle.cut_tiers.specs.Tiers.{cuts_of}
use Rattle.cut_worth.specs.Rates.{Sales}
use Rattle.fields.proofs.Sets.{get_or_apart}
use Rattle.book_format.specs.Book.{book_of, count_of_users, users_of}
use Rattle.book_format.specs.Steps.{place_of}
use Rattle.base.proofs.Linear.{by_order}
use Rattle.base.specs.Parts.{neg_part, pos_part}
use Rattle.laws.proofs.Bounds.{blocked-le}
use Rattle.laws.proofs.Trades.{framed}
use Rattle.rules.specs.Areas.{Prices}
use Rattle.rules.specs.Book.{at, Book, Header, Party, Trade, User, no_trade, nobody}
use Rattle.rules.specs.Levels.{Limits}
use Rattle.rules.specs.Questions.{user_is_valid}
use Rattle.run_state.proofs.Own.{own_areas, own_buyers}
use Rattle.run_state.proofs.Reduced.{place_inside}
use Rattle.run_state.proofs.Stays.{Alike, Stays, alike_borne, stays, users_many}
use Rattle.risk_bearers.proofs.Borne.{length-users_in}
use Rattle.risk_bearers.specs.Bearers.{users_in}
use Rattle.risk_user.proofs.Accepted.{prices_in}
use Rattle.risk_user.proofs.Borne.{member_borne, members_borne, party_borne}
use Rattle.risk_user.specs.UserAt.{position_in, DayOf}
use Rattle.run_reduction.specs.Reductions.{Reached, Reducible, RunOf, short_in}
use Rattle.laws_sales.proofs.FirstCuts.{first_bound, first_none, own_cut_le, own_cuts_length}
use Rattle.laws_sales.proofs.Listed.{starts_rise}
use Rattle.laws_sales.proofs.Numbers.{less-length, read_at}
use Rattle.laws_sales.proofs.Own.{own_sales_lem}
use Rattle.laws_sales.proofs.Parts.{Around, around_sets, part_here, part_length, part-most, part_stored}
use Rattle.laws_sales.proofs.Valid.{Sale, borne_valid_lem, sale_at}
use Rattle.laws_sales.specs.Borne.{borne_book, borne_user}
use Rattle.laws_sales.specs.Groups.{starts}
use Rattle.laws_sales.specs.Parts.{part}
use Rattle.laws_sales.specs.Reduced.{own_cuts, own_sales}
use Rattle.laws_sales.specs.Sales.{less, sales_of, short_at}
use Rattle.units.proofs.Amounts.{parts_net}
use Rattle.units.specs.Prices.{InRange}
use Rattle.book_questions.specs.Opened.{OpenedFigures}

-- ---- an accepted book

module _ {limits : Limits} {f : Prices} {s : List ℕ} (o : OpenedFigures limits s) (prices_are : f ≡ (book_of s).header.prices) where
  day_prices : InRange f
  day_prices = subst InRange (sym prices_are) (prices_in (book_of s) o.accepted.sound)

  -- what levels are asked by
  pub accepted_day : DayOf limits f s
  unfolding book_of nobody
  accepted_day =
      record {
        limits_in = o.limits_in;
        prices_in = day_prices;
        blocked_most = λ i.
            by_order i (length (users_of s))
            (λ h. blocked-le (get_or (users_of s) i nobody) (all_at user_is_valid (users_of s) o.accepted.sound.users i nobody h))
            (λ h. let e : (get_or (users_of s) i nobody).blocked ≡ 0 = ap (λ (u : User). u.blocked) (get_or-eq_default (users_of s) nobody {n = i} h) in omega (arith, e));
      }

module _ {limits : Limits} {f : Prices} {s sums ss area_codes bs : List ℕ} (q : RunOf limits f s sums ss area_codes bs) where
  pub run_prices : InRange f
  run_prices = day_prices q.risk.opened q.risk.prices_are

  pub run_day : DayOf limits f s
  run_day = accepted_day q.risk.opened q.risk.prices_are

  -- ---- the user at a place

  module _ {place : ℕ} (inside : place < count_of_users s) where
    member_first : place < length (users_in s)
    member_first = omega (arith, length-users_in s)

    pub start_is : get_or ss place 0 ≡ starts (borne_book (book_of s)) place
    start_is = q.sales.starts_at place (omega (arith, member_first))

    pub end_is : get_or ss (place + 1) 0 ≡ starts (borne_book (book_of s)) (suc place)
    end_is = rw add-one (q.sales.starts_at (suc place) (omega (arith, member_first)))

    pub part_rises : get_or ss place 0 ≤ get_or ss (place + 1) 0
    part_rises = omega (arith, start_is, end_is, starts_rise (borne_book (book_of s)) place (suc place) (omega arith) (omega (arith, member_first)))

    pub part_few : get_or ss (place + 1) 0 ≤ 256
    part_few = omega (arith, end_is, starts_rise (borne_book (book_of s)) (suc place) (length (users_in s)) (omega (arith, member_first)) (omega arith), q.sales.few)

    abbrev from : ℕ
    from = get_or ss place 0

    abbrev to : ℕ
    to = get_or ss (place + 1) 0

    module _ {b : Book} {ns ps : List ℕ} (h : Reached (book_of s) b ns ps) where
      now : Stays (book_of s) b
      now = stays (book_of s) b q.risk.opened.accepted.sound h.lowered h.same

      pub member_in : place < length b.users
      member_in = omega (arith, users_many now, member_first, members_borne (book_of s))

      pub members_few : length b.users ≤ 64
      members_few = omega (arith, users_many now, members_borne (book_of s), length-users_in s, q.risk.opened.accepted.held.form.users)

      alike : Alike (borne_book (book_of s)) (borne_book b)
      alike = alike_borne now (framed h.borne)

      -- the book and the user as the risk is borne
      abbrev bb : Book
      bb = borne_book b

      abbrev ub : User
      ub = borne_user b.users (get_or b.users place nobody)

      borne_in : place < length (borne_book b).users
      borne_in = omega (arith, member_in, members_borne b)

      abbrev user : User
      user = get_or b.users place nobody

      abbrev sales : List Trade
      sales = own_sales (borne_book b) (borne_user b.users (get_or b.users place nobody))

      pub own_standing : part (get_or ss place 0) (get_or ss (place + 1) 0) ns ≡ map (λ t. t.standing) (own_sales (borne_book b) (borne_user b.users (get_or b.users place nobody)))
      unfolding borne_user
      own_standing = ap₂ (λ (m n : ℕ). part m n ns) start_is end_is ∙ h.standing.each place borne_in ∙ ap (λ (p : Party). map (λ t. t.standing) (sales_of bb.trades p.id)) (party_borne b place)

      pub own_codes : part (get_or ss place 0) (get_or ss (place + 1) 0) area_codes ≡ map (λ t. t.terms.area) (own_sales (borne_book b) (borne_user b.users (get_or b.users place nobody)))
      unfolding borne_user
      own_codes = ap₂ (λ (m n : ℕ). part m n area_codes) start_is end_is ∙ own_areas alike q.sales place borne_in ∙ ap (λ (p : Party). map (λ t. t.terms.area) (sales_of bb.trades p.id)) (party_borne b place)

      own_places : part from to bs ≡ map (λ t. place_of bb.users t.terms.buyer) sales
      unfolding borne_user
      own_places = ap₂ (λ (m n : ℕ). part m n bs) start_is end_is ∙ own_buyers alike q.sales place borne_in ∙ ap (λ (p : Party). map (λ t. place_of bb.users t.terms.buyer) (sales_of bb.trades p.id)) (party_borne b place)

      sales_many : length sales ≡ to - from
      sales_many = sym (length-map sales (λ t. t.standing)) ∙ ap length (sym own_standing) ∙ part_length ns from to (omega (arith, part_few, h.standing_room))

      -- what is known of the sale at a place
      sale_here : (k : ℕ) → from ≤ k → k < to → Sale bb.users user.party.id (get_or sales (k - from) no_trade)
      unfolding borne_user
      sale_here k l m = sale_at bb.users bb.trades user.party.id (k - from) no_trade (borne_valid_lem b h.sound) (omega (arith, sales_many))

      -- what is read off it, from an array
      read_here : (g : Trade → ℕ) (xs : List ℕ) → part from to xs ≡ map g sales → (k : ℕ) → from ≤ k → k < to → get_or xs k 0 ≡ g (get_or sales (k - from) no_trade)
      read_here g xs e k l m =
          sym (part_here xs from to k 0 l m) ∙ ap (λ (ys : List ℕ). get_or ys (k - from) 0) e ∙ read_at g sales (k - from) no_trade 0 (omega (arith, sales_many))

      standing_most : (k : ℕ) → from ≤ k → k < to → get_or ns k 0 ≤ 100000
      standing_most k l m = omega (arith, read_here (λ t. t.standing) ns own_standing k l m, (sale_here k l m).standing)

      area_most : (k : ℕ) → from ≤ k → k < to → get_or area_codes k 0 < 3
      area_most k l m = omega (arith, read_here (λ t. t.terms.area) area_codes own_codes k l m, (sale_here k l m).area)

      pub sales_in : Sales ns area_codes (get_or ss place 0) (get_or ss (place + 1) 0)
      sales_in =
          record { inside = part_few; standing_long = h.standing_room; areas_long = q.sales.areas_room; standing_most = standing_most; area_most = area_most }

      -- the buyer of a sale is one of the users
      pub buyer_inside : (k : ℕ) → get_or ss place 0 ≤ k → k < get_or ss (place + 1) 0 → get_or bs k 0 < length b.users
      buyer_inside k l m =
          omega (
            arith,
            members_borne b,
            read_here (λ t. place_of bb.users t.terms.buyer) bs own_places k l m,
            place_inside bb.users (get_or sales (k - from) no_trade).terms.buyer (sale_here k l m).buyer,
          )

      -- the positions that the cuts move have room for them

      -- a position of one of the users, in the array
      near : (i area : ℕ) → i < length b.users → area < 3 → (51200000 ≤ get_or ps (3 * i + area) 0) × (get_or ps (3 * i + area) 0 + 51200000 < 2 ^ 32)
      near i area l m =
          let bound = first_bound b user 0 h.sound 0 i area l m in
          let same = ap (λ (us : List User). at (get_or us i nobody).position area) (first_none own_sales_lem bb ub 0) in
          let here = h.positions.each i area (omega (arith, l, members_borne b)) m in
          let x = parts_net (record { 0 = get_or ps (3 * i + area) 0 }) in
          let p : pos_part (position_in ps i area) ≤ 89600000 = omega (arith, bound.0, ap pos_part same, ap pos_part here) in
          let n : neg_part (position_in ps i area) ≤ 89600000 = omega (arith, bound.1, ap neg_part same, ap neg_part here) in
          (omega (arith, x, p, n), omega (arith, x, p, n))

      pub reducible : Reducible place (get_or ss place 0) (get_or ss (place + 1) 0) area_codes bs ps
      reducible =
          record {
            rising = part_rises;
            buyers_room = q.sales.buyers_room;
            room = h.positions_room;
            place_in = omega (arith, member_in, members_few);
            buyer_in = λ k l m. omega (arith, buyer_inside k l m, members_few);
            low = λ k l m. (near (get_or bs k 0) (get_or area_codes k 0) (buyer_inside k l m) (area_most k l m)).0;
            high = λ k l m. (near place (get_or area_codes k 0) member_in (area_most k l m)).1;
          }

      -- ---- what the sales lose

      short_is : (area : ℕ) → area < 3 → short_in ps place area ≡ short_at ub area
      unfolding short_at
      short_is area l = ap (λ z. ltb 0 (neg_part z)) (h.positions.each place area borne_in l ∙ ap (λ (u : User). at u.position area) (member_borne b place member_in))

      pub prices_same : f ≡ b.header.prices
      prices_same = q.risk.prices_are ∙ ap (λ (x : Header). x.prices) (sym now.header)

      pub cuts_own : (asked : ℕ) → cuts_of f (short_in ps place) asked (part (get_or ss place 0) (get_or ss (place + 1) 0) ns) (part (get_or ss place 0) (get_or ss (place + 1) 0) area_codes)
          ≡ own_cuts (borne_book b) (borne_user b.users (get_or b.users place nobody)) asked
      unfolding borne_book
      cuts_own asked =
          ap (λ (g : Prices). cuts_of g (short_in ps place) asked (part from to ns) (part from to area_codes)) prices_same
          ∙ cuts_of_sales b.header.prices (short_in ps place) (short_at ub) asked sales short_is
          (λ i. omega (arith, part-most area_codes from to 2 (λ k l m. omega (arith, area_most k l m)) i)) own_standing own_codes

      -- ---- stored, taken off, and moved

      module _ (asked : ℕ) where
        -- the user's part of the cuts has them, and the rest is as it was
        module _ (cs cs₀ xs : List ℕ) (c : cs ≡ sets cs₀ (get_or ss place 0) xs) (room : length cs₀ ≡ 256) (own : xs ≡ own_cuts (borne_book b) (borne_user b.users (get_or b.users place nobody)) asked) where
          cuts_many : length xs ≡ to - from
          cuts_many = ap length own ∙ own_cuts_length own_sales_lem bb ub asked ∙ sales_many

          pub cuts_room : length cs ≡ 256
          cuts_room = ap length c ∙ length-sets cs₀ from xs ∙ room

          pub cuts_part : part (get_or ss place 0) (get_or ss (place + 1) 0) cs ≡ own_cuts (borne_book b) (borne_user b.users (get_or b.users place nobody)) asked
          cuts_part = ap (part from to) c ∙ part_stored cs₀ from to xs cuts_many part_rises (omega (arith, part_few, room)) ∙ own

          pub cuts_before : (k : ℕ) → k < get_or ss place 0 → get_or cs k 0 ≡ get_or cs₀ k 0
          cuts_before k l = ap (λ (ys : List ℕ). get_or ys k 0) c ∙ get_or_apart xs cs₀ from k 0 (inl l)

          pub cuts_behind : (k : ℕ) → get_or ss (place + 1) 0 ≤ k → get_or cs k 0 ≡ get_or cs₀ k 0
          cuts_behind k l = ap (λ (ys : List ℕ). get_or ys k 0) c ∙ get_or_apart xs cs₀ from k 0 (inr (omega (arith, cuts_many, part_rises)))

        -- no cut is above what stands
        pub cut_within_lem : (cs : List ℕ) → part (get_or ss place 0) (get_or ss (place + 1) 0) cs ≡ own_cuts (borne_book b) (borne_user b.users (get_or b.users place nobody)) asked
            → (k : ℕ) → get_or ss place 0 ≤ k → k < get_or ss (place + 1) 0 → get_or cs k 0 ≤ get_or ns k 0
        cut_within_lem cs own i l m =
            omega (
              arith,
              sym (part_here cs from to i 0 l m) ∙ ap (λ (ys : List ℕ). get_or ys (i - from) 0) own,
              own_cut_le own_sales_lem bb ub asked (i - from),
              sym (part_here ns from to i 0 l m) ∙ ap (λ (ys : List ℕ). get_or ys (i - from) 0) own_standing,
            )

      -- what stands after it
      module _ (cs ms : List ℕ) (e : ms ≡ sets ns (get_or ss place 0) (less (part (get_or ss place 0) (get_or ss (place + 1) 0) cs) (part (get_or ss place 0) (get_or ss (place + 1) 0) ns))) where
        left_many : length (less (part from to cs) (part from to ns)) ≡ to - from
        left_many = less-length (part from to cs) (part from to ns) ∙ part_length ns from to (omega (arith, part_few, h.standing_room))

        pub left_room : length ms ≡ 256
        left_room = ap length e ∙ length-sets ns from (less (part from to cs) (part from to ns)) ∙ h.standing_room

        pub left_part : part (get_or ss place 0) (get_or ss (place + 1) 0) ms ≡ less (part (get_or ss place 0) (get_or ss (place + 1) 0) cs) (part (get_or ss place 0) (get_or ss (place + 1) 0) ns)
        left_part = ap (part from to) e ∙ part_stored ns from to (less (part from to cs) (part from to ns)) left_many part_rises (omega (arith, part_few, h.standing_room))

        pub left_only : Around (get_or ss place 0) (get_or ss (place + 1) 0) ns ms
        left_only = subst (λ (xs : List ℕ). Around from to ns xs) (sym e) (around_sets ns (less (part from to cs) (part from to ns)) left_many part_rises)
