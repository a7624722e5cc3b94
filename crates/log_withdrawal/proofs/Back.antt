-- Trades that rise one after the other: what is left to settle, settled, gives the whole. Assumes nothing.
use Rattle.base.specs.Basics.{◌≡◌, refl, sym, ap, ap₂, subst, ◌∙◌, List, [], ◌∷◌, ◌++◌, map, append-nil, ℕ, zero, suc, ◌+◌, ◌*◌, ◌≤◌, ◌<◌, add-one}
use Rattle.base.specs.Basics.{le_of_suc-le-suc, not-suc-le-zero, arith, T, leb, leb→le, pos, neg_ℤ, length, get_or, take, drop, set, length-append}
use Rattle.base.specs.Basics.{length-drop, length-set, drop_of_length-le, get_or-eq_default, drop-cons, length-take-le, set_at, take-suc, take_all}
use Rattle.base.specs.Basics.{get_or_at, append_snoc}
use Rattle.base.proofs.Fronts.{all_at}
use Rattle.base.specs.Lists.{all}
use Rattle.base.proofs.Linear.{by_order}
use Rattle.base.proofs.Tests.{all_by, and_l, and_r}
use Rattle.base.specs.Parts.{neg_part, pos_part}
use Rattle.book_format.proofs.Held.{accepted_ids, accepted_trades, held_itself, held_count_of_trades, held_trades, held_count_of_users, held_users, held_begin}
use Rattle.book_format.proofs.Passed.{length-trades_of, length-users_of}
use Rattle.book_format.specs.Book.{book_of, count_of_trades, trades_at, trades_of, count_of_users, users_of}
use Rattle.book_format.specs.Held.{HeldAs, trades_replaced}
use Rattle.book_format.specs.Places.{TradeIn}
use Rattle.book_parties.specs.Ids.{BookIn, PlacedOn}
use Rattle.cut_apply.specs.Positions.{position_of}
use Rattle.risk_bearers.proofs.Places.{party-id, party_within}
use Rattle.laws.proofs.Bounds.{position_bound, standing_le}
use Rattle.laws.proofs.Positions.{buyer_known, seller_known}
use Rattle.laws.proofs.Settle.{area-lt}
use Rattle.laws.specs.Sound.{Sound}
use Rattle.laws_sales.proofs.Settled.{party_at, settle_one_parties, settle_one_rise}
use Rattle.laws_sales.proofs.Standing.{same_length}
use Rattle.log_format.specs.Fits.{raise_within, raises_within}
use Rattle.log_format.specs.Withdrawal.{raise_all, raise_by, withdrawn}
use Rattle.rules.specs.Book.{Book, Party, Terms, Trade, User, at, no_trade, nobody}
use Rattle.rules.specs.Changes.{moved, with_users}
use Rattle.rules.specs.Questions.{amounts_valid, codes_valid, ids_rise, known, parties_valid, positions_are_valid, trade_is_valid, user_is_valid}
use Rattle.rules.specs.Reduction.{settle, settle_one, with_trades}
use Rattle.log_withdrawal.proofs.Bounds.{bounded_back, raised_at}
use Rattle.log_withdrawal.specs.Back.{BackIn, Bounded, PartiesBack, back_at, back_to}

-- ---- one trade in the bytes

module _ {s : List ℕ} {begin seller buyer place cut : ℕ} (p : BackIn s begin seller buyer place cut) where
  pub back_parties : {area : ℕ} → area ≡ (get_or (trades_of s) place no_trade).terms.area → PartiesBack s seller buyer area cut
  back_parties e = subst (λ (a : ℕ). PartiesBack s seller buyer a cut) (sym e) p.parties

  module _ {area : ℕ} (e : area ≡ (get_or (trades_of s) place no_trade).terms.area) {t : List ℕ} (h : HeldAs (with_users (book_of s) (back_at seller buyer area cut (users_of s))) t) where
    -- the trade stands where it stood
    pub trade_back : HeldAs (book_of t) t × TradeIn t begin place
    unfolding with_users book_of
    trade_back =
        let us = users_of s in
        let fallen = set us seller (moved area (neg_ℤ (pos cut)) (get_or us seller nobody)) in
        let many : length us ≡ length (back_at seller buyer area cut us)
        = sym (length-set us seller (moved area (neg_ℤ (pos cut)) (get_or us seller nobody))) ∙ sym (length-set fallen buyer (moved area (pos cut) (get_or fallen buyer nobody))) in (
          held_itself h,
          record { form = h.form; begin = p.trade.begin ∙ held_begin p.held h refl many; inside = omega (arith, p.trade.inside, held_count_of_trades h, length-trades_of s) },
        )

    -- and is written over
    pub back_done : {r : List ℕ} {n : Trade} → n ≡ raise_by cut (get_or (trades_of s) place no_trade) → HeldAs (trades_replaced (book_of t) (set (trades_of t) place n)) r → HeldAs (back_to (book_of s) seller buyer place cut) r
    unfolding back_to trades_replaced with_users book_of
    back_done {r} {n} f g =
        subst (λ (x : Book). HeldAs x r)
        (ap₂ (λ (x : Book) (ts : List Trade). trades_replaced x (set ts place n)) h.book (held_trades h)
        ∙ ap₂ (λ (a : ℕ) (x : Trade). record { header = (book_of s).header; users = back_at seller buyer a cut (users_of s); trades = set (trades_of s) place x }) e f) g

-- ---- all trades

length_raised : (cs : List ℕ) (ts : List Trade) → length (raise_all cs ts) ≡ length ts
unfolding raise_all
length_raised [] ts = refl
length_raised (c ∷ cs) [] = refl
length_raised (c ∷ cs) (t ∷ ts) = ap suc (length_raised cs ts)

raised_there : (cs : List ℕ) (ts : List Trade) (k : ℕ) → k < length cs → k < length ts → get_or (raise_all cs ts) k no_trade ≡ raise_by (get_or cs k 0) (get_or ts k no_trade)
unfolding raise_all
raised_there [] ts k h j = absurd (not-suc-le-zero h)
raised_there (c ∷ cs) [] k h j = absurd (not-suc-le-zero j)
raised_there (c ∷ cs) (t ∷ ts) zero h j = refl
raised_there (c ∷ cs) (t ∷ ts) (suc k) h j = raised_there cs ts k (le_of_suc-le-suc h) (le_of_suc-le-suc j)

within_there : (cs : List ℕ) (ts : List Trade) (k : ℕ) → T (raises_within cs ts) → k < length ts → T (raise_within (get_or cs k 0) (get_or ts k no_trade))
unfolding raises_within
within_there [] [] k w h = absurd (not-suc-le-zero h)
within_there [] (t ∷ ts) k w h = absurd w
within_there (c ∷ cs) [] k w h = absurd w
within_there (c ∷ cs) (t ∷ ts) zero w h = and_l (raise_within c t) (raises_within cs ts) w
within_there (c ∷ cs) (t ∷ ts) (suc k) w h = within_there cs ts k (and_r (raise_within c t) (raises_within cs ts) w) (le_of_suc-le-suc h)

-- no cut is above 100,000 MWh
cut_small : (us : List User) (c : ℕ) (t : Trade) → T (raise_within c t) → T (trade_is_valid us t) → c ≤ 100000
unfolding raise_within trade_is_valid parties_valid codes_valid amounts_valid
cut_small us c t w v =
    let l : T (leb (t.standing + c) t.terms.notified) = search (and_l, and_r) in
    let m : T (leb t.terms.notified 100000) = search (and_l, and_r) in
    omega (arith, leb→le (t.standing + c) t.terms.notified l, leb→le t.terms.notified 100000 m)

pub cut_low : (b : Book) (cs : List ℕ) → Sound b → T (raises_within cs b.trades) → (k : ℕ) → k < length b.trades → get_or cs k 0 ≤ 100000
cut_low b cs s w k h =
    cut_small b.users (get_or cs k 0) (get_or b.trades k no_trade) (within_there cs b.trades k w h) (all_at (trade_is_valid b.users) b.trades s.trades k no_trade h)

-- the trades of two lists, the first of the one and the rest of the other
fronts_next : (ns ts : List Trade) (k : ℕ) → k < length ts → length ns ≡ length ts
    → (get_or (take k ns ++ drop k ts) k no_trade ≡ get_or ts k no_trade) × (set (take k ns ++ drop k ts) k (get_or ns k no_trade) ≡ take (k + 1) ns ++ drop (k + 1) ts)
fronts_next ns ts k h e =
    let long : length (take k ns) ≡ k = length-take-le k ns (omega arith) in
    let split : take k ns ++ drop k ts ≡ take k ns ++ (get_or ts k no_trade ∷ drop (suc k) ts) = ap (λ (xs : List Trade). take k ns ++ xs) (drop-cons ts k no_trade h) in
    let front : take (suc k) ns ++ drop (suc k) ts ≡ take k ns ++ (get_or ns k no_trade ∷ drop (suc k) ts)
    = ap (λ (xs : List Trade). xs ++ drop (suc k) ts) (take-suc ns k no_trade (omega arith)) ∙ append_snoc (take k ns) (get_or ns k no_trade) (drop (suc k) ts) in (
      ap (λ (xs : List Trade). get_or xs k no_trade) split ∙ get_or_at (take k ns) (get_or ts k no_trade) (drop (suc k) ts) no_trade k long,
      ap (λ (xs : List Trade). set xs k (get_or ns k no_trade)) split ∙ set_at (take k ns) (get_or ts k no_trade) (drop (suc k) ts) (get_or ns k no_trade) k long ∙ rw add-one (sym front),
    )

-- ---- the loop

-- the positions of an accepted book
pub bounded_first : (b : Book) → Sound b → Bounded b.users 26600000
unfolding at nobody pos_part neg_part
bounded_first b s = record { long = λ i a. (there i a).0; short = λ i a. (there i a).1 }
  where
    low : (i a : ℕ) → a < 3 → (pos_part (position_of b.users i a) ≤ 26600000) × (neg_part (position_of b.users i a) ≤ 26600000)
    low i a k =
        by_order i (length b.users)
        (λ h. position_bound b s (get_or b.users i nobody) (all_at user_is_valid b.users s.users i nobody h) (all_at (positions_are_valid b.trades) b.users s.positions i nobody h) a k)
        (λ h. none a (get_or b.users i nobody) (get_or-eq_default b.users nobody {n = i} h))
      where
        none : (a : ℕ) (u : User) → u ≡ nobody → (pos_part (at u.position a) ≤ 26600000) × (neg_part (at u.position a) ≤ 26600000)
        none zero u e = rw e (omega arith, omega arith)
        none (suc zero) u e = rw e (omega arith, omega arith)
        none (suc (suc a)) u e = rw e (omega arith, omega arith)

    there : (i a : ℕ) → (pos_part (position_of b.users i a) ≤ 26600000) × (neg_part (position_of b.users i a) ≤ 26600000)
    there i zero = low i 0 (omega arith)
    there i (suc zero) = low i 1 (omega arith)
    there i (suc (suc a)) = low i 2 (omega arith)

-- the first k trades of b have risen
pub record GivenTo (b : Book) (cs s : List ℕ) (k : ℕ) : Type 0 where
  pub users : List User
  pub held : HeldAs (record { header = b.header; users = users; trades = take k (raise_all cs b.trades) ++ drop k b.trades }) s
  pub left : settle (drop k b.trades) (drop k (raise_all cs b.trades)) users ≡ settle b.trades (raise_all cs b.trades) b.users
  pub bounded : Bounded users (26600000 + 200000 * k)
  pub same : map (λ u. u.party) users ≡ map (λ u. u.party) b.users
  pub rise : T (ids_rise 0 users)

module _ {s₀ sellers buyers : List ℕ} (a : BookIn s₀ sellers buyers) (cs : List ℕ) (within : T (raises_within cs (book_of s₀).trades)) (many : length cs ≡ length (book_of s₀).trades) where
  pub given_start : GivenTo (book_of s₀) cs s₀ 0
  given_start =
      let b = book_of s₀ in
      record { users = b.users; held = a.accepted.held; left = refl; bounded = bounded_first b a.accepted.sound; same = refl; rise = a.accepted.sound.ids }

  -- all have
  pub given_end : {s : List ℕ} {k : ℕ} → GivenTo (book_of s₀) cs s k → length (book_of s₀).trades ≤ k → HeldAs (withdrawn (book_of s₀) cs) s
  unfolding withdrawn with_trades settle
  given_end {s} {k} p h =
      let b = book_of s₀ in
      let ts = b.trades in
      let ns = raise_all cs ts in
      let none : drop k ts ≡ [] = drop_of_length-le ts {i = k} h in
      let whole : take k ns ++ drop k ts ≡ ns = ap₂ (λ (xs ys : List Trade). xs ++ ys) (take_all k ns (omega (arith, length_raised cs ts))) none ∙ append-nil ns in
      let users : p.users ≡ settle ts ns b.users = rw none at p.left in
      subst (λ (x : Book). HeldAs x s) (ap₂ (λ (us : List User) (xs : List Trade). record { header = b.header; users = us; trades = xs }) users whole) p.held

  -- the next one
  module _ {s : List ℕ} {k : ℕ} (p : GivenTo (book_of s₀) cs s k) (h : k < length (book_of s₀).trades) {seller buyer cut : ℕ} (sells : seller ≡ get_or sellers k 0) (buys : buyer ≡ get_or buyers k 0)
      (cut_is : cut ≡ get_or cs k 0) where
    abbrev ts : List Trade
    ts = (book_of s₀).trades

    abbrev ns : List Trade
    ns = raise_all cs (book_of s₀).trades

    abbrev sale : Trade
    sale = get_or (book_of s₀).trades k no_trade

    sale_valid : T (trade_is_valid (book_of s₀).users sale)
    sale_valid = all_at (trade_is_valid (book_of s₀).users) ts a.accepted.sound.trades k no_trade h

    small : cut ≤ 100000
    small = omega (arith, cut_small (book_of s₀).users (get_or cs k 0) sale (within_there cs ts k within h) sale_valid)

    place_low : k < count_of_trades s₀
    unfolding book_of
    place_low = omega (arith, h, length-trades_of s₀)

    users_are : count_of_users s₀ ≡ length p.users
    unfolding book_of
    users_are = sym (length-users_of s₀) ∙ sym (same_length (users_of s₀) p.users p.same)

    module _ (side : Terms → ℕ) (side_known : (us : List User) (t : Trade) → T (trade_is_valid us t) → T (known us (side t.terms))) (ps : List ℕ)
        (placed : PlacedOn side (users_of s₀) (trades_of s₀) ps) {party : ℕ} (e : party ≡ get_or ps k 0) where
      -- each trade has a user on this side
      all_known : T (all (λ t. known (users_of s₀) (side t.terms)) (trades_of s₀))
      all_known = all_by (trade_is_valid (users_of s₀)) (λ t. known (users_of s₀) (side t.terms)) (side_known (users_of s₀)) (trades_of s₀) (accepted_trades a.accepted)

      party_low : party < count_of_users s₀
      party_low =
          omega (arith, length-users_of s₀, party_within side (users_of s₀) (trades_of s₀) ps (accepted_ids a.accepted) all_known placed {i = k} (omega (arith, place_low, length-trades_of s₀)) e)

      id_now : (get_or p.users party nobody).party.id ≡ side sale.terms
      unfolding book_of
      id_now =
          ap (λ (q : Party). q.id) (party_at (book_of s₀).users p.users p.same party nobody)
          ∙ party-id side (users_of s₀) (trades_of s₀) ps (accepted_ids a.accepted) all_known placed {i = k} (omega (arith, place_low, length-trades_of s₀)) e

    seller_low : seller < length p.users
    seller_low = omega (arith, users_are, party_low (λ r. r.seller) seller_known sellers a.placed.of_sellers sells)

    buyer_low : buyer < length p.users
    buyer_low = omega (arith, users_are, party_low (λ r. r.buyer) buyer_known buyers a.placed.of_buyers buys)

    raised_is : get_or ns k no_trade ≡ raise_by cut sale
    raised_is = raised_there cs ts k (omega arith) h ∙ ap (λ (c : ℕ). raise_by c sale) (sym cut_is)

    -- it alone is settled
    settled : settle_one sale (get_or ns k no_trade) p.users ≡ back_at seller buyer sale.terms.area cut p.users
    settled =
        ap (λ (n : Trade). settle_one sale n p.users) raised_is
        ∙ raised_at cut sale p.users 0 seller buyer p.rise seller_low buyer_low (id_now (λ r. r.seller) seller_known sellers a.placed.of_sellers sells) (id_now (λ r. r.buyer) buyer_known buyers a.placed.of_buyers buys)

    fronts : (get_or (take k ns ++ drop k ts) k no_trade ≡ sale) × (set (take k ns ++ drop k ts) k (get_or ns k no_trade) ≡ take (k + 1) ns ++ drop (k + 1) ts)
    fronts = fronts_next ns ts k h (length_raised cs ts)

    trade_here : get_or (trades_of s) k no_trade ≡ sale
    trade_here = ap (λ (xs : List Trade). get_or xs k no_trade) (held_trades p.held) ∙ fronts.0

    pub back_here : {begin : ℕ} → begin ≡ trades_at s₀ → BackIn s begin seller buyer k cut
    back_here starts =
        let area_is : sale.terms.area ≡ (get_or (trades_of s) k no_trade).terms.area = ap (λ (t : Trade). t.terms.area) (sym trade_here) in
        let count = held_count_of_users p.held in
        let long : length (take k ns ++ drop k ts) ≡ length ts = rw (length-append, length-take-le k ns (omega (arith, h, length_raised cs ts)), length-drop) (omega (arith, h)) in
        let few : k < 256 = omega (arith, place_low, a.accepted.held.form.trades) in
        record {
          held = held_itself p.held;
          trade = record {
            form = p.held.form;
            begin = starts ∙ sym (held_begin p.held a.accepted.held refl (same_length (book_of s₀).users p.users p.same));
            inside = omega (arith, h, long, held_count_of_trades p.held);
          };
          parties = subst (λ (x : ℕ). PartiesBack s seller buyer x cut) area_is
              (record {
                sold = record { held = held_itself p.held; user_inside = omega (arith, seller_low, count); area_inside = area-lt (book_of s₀).users sale sale_valid };
                buyer_inside = omega (arith, buyer_low, count);
                most = subst (λ (vs : List User). Bounded vs 100000000) (sym (held_users p.held))
                    (record { long = λ i x. omega (arith, p.bounded.long i x, few); short = λ i x. omega (arith, p.bounded.short i x, few) });
                energy_most = small;
              });
          stands = rw trade_here (standing_le (book_of s₀).users sale sale_valid);
        }

    pub given_more : {s' : List ℕ} → HeldAs (back_to (book_of s) seller buyer k cut) s' → GivenTo (book_of s₀) cs s' (k + 1)
    unfolding back_to settle
    given_more {s'} g =
        let us = p.users in
        let back = back_at seller buyer sale.terms.area cut us in
        record {
          users = back;
          held = subst (λ (x : Book). HeldAs x s')
              (ap (λ (x : Book). back_to x seller buyer k cut) p.held.book
              ∙ ap₂ (λ (t : Trade) (xs : List Trade). record { header = (book_of s₀).header; users = back_at seller buyer t.terms.area cut us; trades = xs }) fronts.0
              (ap (λ (t : Trade). set (take k ns ++ drop k ts) k (raise_by cut t)) fronts.0 ∙ ap (set (take k ns ++ drop k ts) k) (sym raised_is) ∙ fronts.1)) g;
          left = sym (rw (add-one, drop-cons ts k no_trade h, drop-cons ns k no_trade (omega (arith, h, length_raised cs ts))) (ap (settle (drop (suc k) ts) (drop (suc k) ns)) settled)) ∙ p.left;
          bounded = let w = bounded_back p.bounded seller buyer sale.terms.area cut seller_low buyer_low in record { long = λ i x. omega (arith, w.long i x, small); short = λ i x. omega (arith, w.short i x, small) };
          same = ap (map (λ (u : User). u.party)) (sym settled) ∙ settle_one_parties sale (get_or ns k no_trade) us ∙ p.same;
          rise = subst (λ (vs : List User). T (ids_rise 0 vs)) settled (rw (settle_one_rise sale (get_or ns k no_trade) 0 us) p.rise);
        }
