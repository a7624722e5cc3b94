-- The loop that moves the positions of the parties of sales, one sale after the other: the positions are those of the book whose trades are lowered so far. Assumes nothing.
use Rattle.base.specs.Basics.{◌≡◌, refl, sym, ap, ap₂, subst, ◌∙◌, List, [], ◌∷◌, map, ℕ, zero, suc, ◌+◌, ◌≤◌, ◌<◌, add-one, le_of_suc-le-suc}
use Rattle.base.specs.Basics.{not-suc-le-zero, arith, T, ltb, drop, get_or, length, length-set, set, take, length-take-le, take_all, take-suc-set}
use Rattle.base.specs.Basics.{eq-eqb, eqb-true, ltb-false, ltb-true}
use Rattle.base.proofs.Tests.{all_by, by_case}
use Rattle.risk_bearers.proofs.Places.{party_is, party_within}
use Rattle.book_parties.specs.Ids.{BookIn, PlacedOn, id_at}
use Rattle.book_format.proofs.Passed.{length-trades_of, length-users_of}
use Rattle.book_format.specs.Book.{book_of, count_of_trades, trades_at, trades_of, count_of_users, users_of}
use Rattle.book_format.proofs.Held.{accepted_ids, accepted_trades, held_itself, held_count_of_trades, held_trades, held_count_of_users, held_users, held_begin}
use Rattle.book_format.specs.Held.{HeldAs}
use Rattle.base.specs.Lists.{all}
use Rattle.base.specs.Parts.{neg_part, pos_part}
use Rattle.laws.proofs.Bounds.{position_bound, standing_le}
use Rattle.laws.proofs.Positions.{buyer_known, seller_known}
use Rattle.laws.proofs.Settle.{area-lt, retraded_sound}
use Rattle.laws.specs.Sound.{Sound}
use Rattle.laws.proofs.Trades.{framed}
use Rattle.base.proofs.Fronts.{all_at}
use Rattle.rules.specs.Book.{Book, Party, Terms, Trade, User, no_trade, nobody}
use Rattle.rules.specs.Changes.{with_users}
use Rattle.rules.specs.Questions.{known, positions_are_valid, trade_is_valid, user_is_valid}
use Rattle.rules.specs.Reduction.{cut_by, settle, settle_one, with_trades}
use Rattle.laws_sales.proofs.Again.{retraded_again}
use Rattle.laws_sales.proofs.Settled.{party_at, settle_none, settle_one_at, settle_one_none, settle_parties}
use Rattle.laws_sales.proofs.Standing.{same_length}
use Rattle.base.proofs.Stores.{set_front}
use Rattle.laws_sales.specs.Groups.{written}
use Rattle.laws_sales.specs.Sales.{settled_at}
use Rattle.cut_apply.proofs.Cutting.{lowered_long, lowered_more, lowered_next, lowered_none, lowered_snoc, lowered_to_lem, lowered_valid, lowered_to, next_stands}
use Rattle.cut_apply.proofs.Losing.{losing_first, losing_none}
use Rattle.cut_apply.specs.Cutting.{Cuttable, MovedBy, SaleCut, SaleIn, losing, lowered_at}
use Rattle.cut_apply.specs.Positions.{PartiesIn, position_of}

-- ---- one trade of a list

-- one trade changes: it alone is settled
settle-set : (ts : List Trade) (i : ℕ) (n : Trade) (us : List User) → i < length ts → settle ts (set ts i n) us ≡ settle_one (get_or ts i no_trade) n us
unfolding settle
settle-set [] i n us h = absurd (not-suc-le-zero h)
settle-set (t ∷ ts) zero n us h = settle_none ts (settle_one t n us)
settle-set (t ∷ ts) (suc i) n us h = ap (settle ts (set ts i n)) (settle_one_none t us) ∙ settle-set ts i n us (le_of_suc-le-suc h)

-- ---- the loop

-- after j sales: the positions are those of the book whose trades are lowered so far; those that lose something, alone, are noted
pub record MovedSo (b : Book) (is cs places amounts s : List ℕ) (lost j : ℕ) : Type 0 where
  pub held : HeldAs (with_users b (with_trades b (lowered_to is cs b.trades j)).users) s
  pub same : lowered_at (take lost places) (take lost amounts) b.trades ≡ lowered_to is cs b.trades j
  pub inside : (k : ℕ) → k < lost → get_or places k 0 < length b.trades
  pub count : lost + losing (drop j cs) ≡ losing cs
  pub places_room : length places ≡ losing cs
  pub amounts_room : length amounts ≡ losing cs

module _ {s₀ sellers buyers : List ℕ} (a : BookIn s₀ sellers buyers) {is cs : List ℕ} (p : Cuttable (book_of s₀).trades is cs) where
  -- none is passed yet
  pub moved_start : {places amounts : List ℕ} → length places ≡ losing cs → length amounts ≡ losing cs → MovedSo (book_of s₀) is cs places amounts s₀ 0 0
  unfolding with_users with_trades lowered_at written
  moved_start e f =
      record {
        held = subst (λ (us : List User). HeldAs (with_users (book_of s₀) us) s₀) (sym (settle_none (book_of s₀).trades (book_of s₀).users)) a.accepted.held;
        same = refl;
        inside = λ k h. absurd (not-suc-le-zero h);
        count = omega arith;
        places_room = e;
        amounts_room = f;
      }

  -- ---- the books between

  parties_at : (j : ℕ) → map (λ u. u.party) (with_trades (book_of s₀) (lowered_to is cs (book_of s₀).trades j)).users ≡ map (λ u. u.party) (book_of s₀).users
  unfolding with_trades
  parties_at j = settle_parties (book_of s₀).trades (lowered_to is cs (book_of s₀).trades j) (book_of s₀).users

  users_many : (j : ℕ) → length (with_trades (book_of s₀) (lowered_to is cs (book_of s₀).trades j)).users ≡ length (book_of s₀).users
  users_many j = same_length (book_of s₀).users (with_trades (book_of s₀) (lowered_to is cs (book_of s₀).trades j)).users (parties_at j)

  sound_at : (j : ℕ) → j ≤ length is → Sound (with_trades (book_of s₀) (lowered_to is cs (book_of s₀).trades j))
  sound_at j h =
      let l = lowered_to_lem p j h in
      retraded_sound (book_of s₀) (lowered_to is cs (book_of s₀).trades j) a.accepted.sound (framed l) (lowered_valid (book_of s₀).users l a.accepted.sound.trades)

  users_are : count_of_users s₀ ≡ length (book_of s₀).users
  unfolding book_of
  users_are = sym (length-users_of s₀)

  module _ (j : ℕ) (h : j < length is) where
    abbrev so_far : List Trade
    so_far = lowered_to is cs (book_of s₀).trades j

    abbrev place : ℕ
    place = get_or is j 0

    abbrev sale : Trade
    sale = get_or (book_of s₀).trades place no_trade

    abbrev cut : ℕ
    cut = get_or cs j 0

    sale_valid : T (trade_is_valid (book_of s₀).users sale)
    sale_valid = all_at (trade_is_valid (book_of s₀).users) (book_of s₀).trades a.accepted.sound.trades place no_trade (p.inside j h)

    -- the next sale alone is settled in the positions so far
    users_next : (with_trades (book_of s₀) (lowered_to is cs (book_of s₀).trades (suc j))).users ≡ settle_one sale (cut_by cut sale) (with_trades (book_of s₀) so_far).users
    unfolding with_trades
    users_next =
        let b = book_of s₀ in
        let l = lowered_to_lem p j (omega arith) in
        let us = (with_trades b so_far).users in
        ap (λ (c : Book). c.users) (sym (retraded_again b so_far (lowered_to is cs b.trades (suc j)) a.accepted.sound (framed l) (lowered_valid b.users l a.accepted.sound.trades) (framed (lowered_next p j h))))
        ∙ ap (λ (ns : List Trade). settle so_far ns us) (lowered_more p j h)
        ∙ settle-set so_far place (cut_by cut sale) us (omega (arith, lowered_long l, p.inside j h))
        ∙ ap (λ (t : Trade). settle_one t (cut_by cut sale) us) (next_stands p j h)

    place_low : place < count_of_trades s₀
    unfolding book_of
    place_low = omega (arith, p.inside j h, length-trades_of s₀)

    -- a party of the sale stands at its place
    -- all parties on a side are users
    sides_known : (side : Terms → ℕ) → ((us : List User) (t : Trade) → T (trade_is_valid us t) → T (known us (side t.terms))) → T (all (λ t. known (users_of s₀) (side t.terms)) (trades_of s₀))
    sides_known side is_known = all_by (trade_is_valid (users_of s₀)) (λ t. known (users_of s₀) (side t.terms)) (is_known (users_of s₀)) (trades_of s₀) (accepted_trades a.accepted)

    module _ (side : Terms → ℕ) (side_known : (us : List User) (t : Trade) → T (trade_is_valid us t) → T (known us (side t.terms))) (ps : List ℕ)
        (placed : PlacedOn side (users_of s₀) (trades_of s₀) ps) {party : ℕ} (e : party ≡ get_or ps place 0) where
      party_low : party < count_of_users s₀
      party_low = omega (arith, length-users_of s₀, party_within side (users_of s₀) (trades_of s₀) ps (accepted_ids a.accepted) (sides_known side side_known) placed {i = place} (omega (arith, place_low, length-trades_of s₀)) e)

      party-id : (get_or (with_trades (book_of s₀) so_far).users party nobody).party.id ≡ side sale.terms
      unfolding book_of
      party-id =
          let here = party_is side (users_of s₀) (trades_of s₀) ps (accepted_ids a.accepted) (sides_known side side_known) placed {i = place} (omega (arith, place_low, length-trades_of s₀)) e party (omega (arith, party_low, length-users_of s₀)) in
          ap (λ (q : Party). q.id) (party_at (book_of s₀).users (with_trades (book_of s₀) so_far).users (parties_at j) party nobody)
          ∙ sym (eqb-true (side sale.terms) (id_at (users_of s₀) party) (sym here ∙ eq-eqb party party refl))

    module _ {seller buyer : ℕ} (sells : seller ≡ get_or sellers place 0) (buys : buyer ≡ get_or buyers place 0) where
      seller_low : seller < count_of_users s₀
      seller_low = party_low (λ r. r.seller) seller_known sellers a.placed.of_sellers sells

      buyer_low : buyer < count_of_users s₀
      buyer_low = party_low (λ r. r.buyer) buyer_known buyers a.placed.of_buyers buys

      -- at the places of its parties
      users_settled : settled_at seller buyer sale.terms.area cut (with_trades (book_of s₀) so_far).users ≡ (with_trades (book_of s₀) (lowered_to is cs (book_of s₀).trades (suc j))).users
      users_settled =
          let many = users_many j in
          sym (users_next ∙ settle_one_at cut sale (with_trades (book_of s₀) so_far).users 0 seller buyer (sound_at j (omega arith)).ids (omega (arith, seller_low, users_are)) (omega (arith, buyer_low, users_are))
          (party-id (λ r. r.seller) seller_known sellers a.placed.of_sellers sells) (party-id (λ r. r.buyer) buyer_known buyers a.placed.of_buyers buys) (p.most j h))

      module _ {places amounts s : List ℕ} {lost : ℕ} (q : MovedSo (book_of s₀) is cs places amounts s lost j) where
        users_here : users_of s ≡ (with_trades (book_of s₀) so_far).users
        unfolding with_users
        users_here = held_users q.held

        count_here : count_of_users s₀ ≡ count_of_users s
        unfolding with_users
        count_here = users_are ∙ sym (users_many j) ∙ held_count_of_users q.held

        begin_here : trades_at s ≡ trades_at s₀
        unfolding with_users
        begin_here = held_begin q.held a.accepted.held refl (users_many j)

        trade_here : get_or (trades_of s) place no_trade ≡ sale
        unfolding with_users
        trade_here = ap (λ (ts : List Trade). get_or ts place no_trade) (held_trades q.held)

        -- positions are in range
        position_here : (i area : ℕ) → i < count_of_users s₀ → area < 3 → (pos_part (position_of (users_of s) i area) < 100000000) × (neg_part (position_of (users_of s) i area) < 100000000)
        position_here i area k l =
            let b = with_trades (book_of s₀) so_far in
            let sound = sound_at j (omega arith) in
            let inside : i < length b.users = omega (arith, users_are, users_many j) in
            let u = get_or b.users i nobody in
            let e = position_bound b sound u (all_at user_is_valid b.users sound.users i nobody inside) (all_at (positions_are_valid b.trades) b.users sound.positions i nobody inside) area l in
            rw users_here (omega (arith, e.0), omega (arith, e.1))

        -- the sale can be cut
        pub sale_here : {begin : ℕ} → begin ≡ trades_at s₀ → SaleIn s begin seller buyer place cut
        unfolding with_users
        sale_here starts =
            let area_is : sale.terms.area ≡ (get_or (trades_of s) place no_trade).terms.area = ap (λ (t : Trade). t.terms.area) (sym trade_here) in
            let area = area-lt (book_of s₀).users sale sale_valid in
            record {
              held = held_itself q.held;
              trade = record { form = q.held.form; begin = omega (arith, starts, begin_here); inside = omega (arith, p.inside j h, held_count_of_trades q.held) };
              parties = subst (λ (x : ℕ). PartiesIn s seller buyer x cut) area_is
                  (record {
                    sold = record { held = held_itself q.held; user_inside = omega (arith, seller_low, count_here); area_inside = area };
                    buyer_inside = omega (arith, buyer_low, count_here);
                    seller_low = (position_here seller sale.terms.area seller_low area).0;
                    buyer_low = (position_here buyer sale.terms.area buyer_low area).1;
                    energy_low = omega (arith, p.most j h, standing_le (book_of s₀).users sale sale_valid);
                  });
            }

        -- where it loses something, there is room to note it
        pub sale_room : 0 < cut → lost < losing cs
        sale_room l = omega (arith, q.count, losing_first cs j (omega (arith, p.same)))

        -- it is cut, and noted where it loses something
        module _ {places' amounts' s' : List ℕ} {lost' : ℕ} (g : SaleCut s seller buyer place cut lost places amounts s' places' amounts' lost') where
          held_more : HeldAs (with_users (book_of s₀) (with_trades (book_of s₀) (lowered_to is cs (book_of s₀).trades (suc j))).users) s'
          unfolding with_users
          held_more =
              let area_is = ap (λ (t : Trade). t.terms.area) trade_here in
              subst (λ (b : Book). HeldAs b s')
              (ap₂ (λ (b : Book) (us : List User). with_users b us) q.held.book (ap₂ (λ (x : ℕ) (us : List User). settled_at seller buyer x cut us) area_is users_here ∙ users_settled)) g.users

          -- the noted ones with this one more
          same_more : lost < losing cs → lowered_at (take (suc lost) (set places lost place)) (take (suc lost) (set amounts lost cut)) (book_of s₀).trades ≡ lowered_to is cs (book_of s₀).trades (suc j)
          same_more room =
              let ts = (book_of s₀).trades in
              let front = lowered_at (take lost places) (take lost amounts) ts in
              ap₂ (λ (xs ys : List ℕ). lowered_at xs ys ts) (take-suc-set places lost place (omega (arith, q.places_room))) (take-suc-set amounts lost cut (omega (arith, q.amounts_room)))
              ∙ lowered_snoc (take lost places) (take lost amounts) place cut ts
              (length-take-le lost amounts (omega (arith, q.amounts_room)) ∙ sym (length-take-le lost places (omega (arith, q.places_room))))
              (ap (λ (ns : List Trade). get_or ns place no_trade) q.same ∙ next_stands p j h)
              ∙ ap (λ (ns : List Trade). set ns place (cut_by cut sale)) q.same ∙ sym (lowered_more p j h)

          inside_more : lost < losing cs → (k : ℕ) → k < suc lost → get_or (set places lost place) k 0 < length (book_of s₀).trades
          inside_more room k l =
              set_front (λ m x. x < length (book_of s₀).trades) places lost place 0 (omega (arith, q.places_room)) (p.inside j h) q.inside k (omega arith)

          pub moved_more : MovedSo (book_of s₀) is cs places' amounts' s' lost' (suc j)
          moved_more =
              let left = losing_first cs j (omega (arith, p.same)) in
              by_case (ltb 0 cut)
              (λ y.
              let loses = ltb-true 0 cut y in
              let room = sale_room loses in
              rw (g.places_are, g.amounts_are, g.count, y, add-one)
              (record {
                held = held_more;
                same = same_more room;
                inside = inside_more room;
                count = omega (arith, q.count, left, loses);
                places_room = length-set places lost place ∙ q.places_room;
                amounts_room = length-set amounts lost cut ∙ q.amounts_room;
              }))
              (λ y.
              rw (g.places_are, g.amounts_are, g.count, y)
              (record {
                held = held_more;
                same = q.same ∙ sym (lowered_none p j h (omega (arith, ltb-false 0 cut y)));
                inside = q.inside;
                count = omega (arith, q.count, left, ltb-false 0 cut y);
                places_room = q.places_room;
                amounts_room = q.amounts_room;
              }))

  -- all are passed
  pub moved_end : {places amounts s : List ℕ} {lost j : ℕ} → MovedSo (book_of s₀) is cs places amounts s lost j → length is ≤ j → MovedBy (book_of s₀) is cs places amounts s
  moved_end {places} {amounts} {s} {lost} {j} q h =
      let ts = (book_of s₀).trades in
      let all : lost ≡ losing cs = omega (arith, q.count, losing_none cs j (omega (arith, p.same))) in
      let whole : lowered_to is cs ts j ≡ lowered_at is cs ts = ap₂ (λ (xs ys : List ℕ). lowered_at xs ys ts) (take_all j is h) (take_all j cs (omega (arith, p.same))) in
      record {
        held = subst (λ (ns : List Trade). HeldAs (with_users (book_of s₀) (with_trades (book_of s₀) ns).users) s) whole q.held;
        same = ap₂ (λ (xs ys : List ℕ). lowered_at xs ys ts) (sym (take_all lost places (omega (arith, q.places_room)))) (sym (take_all lost amounts (omega (arith, q.amounts_room))))
            ∙ q.same ∙ whole;
        inside = λ k l. q.inside k (omega (arith, q.places_room));
        count = q.places_room;
      }
