-- What a reduction of the user at a place leaves of who is due: it and the buyers of sales that lost something are party to a trade standing below notified; the others are due as before.
-- Assumes nothing.
use Rattle.base.specs.Basics.{◌≡◌, refl, sym, ap, ap₂, fun_ext, subst, ◌∙◌, Bool, true, false, cond, ◌&&◌, ◌||◌, List, [], ◌∷◌, map, ℕ, ◌-◌, ◌<◌, arith, T, eqb}
use Rattle.base.specs.Basics.{ltb, eqb→eq, ltb→lt, length, get_or, eq-eqb, ltb-false}
use Rattle.laws_sales.specs.{Parties.cut_before, Cover.AllNext, Cover.due, Cover.short_from, Groups.standings, Sales.is_party, Sales.some_cut}
use Rattle.laws_sales.specs.{Borne.borne_book, Borne.borne_result, Borne.borne_user, Borne.borne_valid, Reduced.own_sales, Reduced.own_cuts, Reduced.SalesReduced}
use Rattle.book_format.proofs.OneUser.{place_known}
use Rattle.book_format.specs.Steps.{place_of}
use Rattle.laws.proofs.{Fuel.reduced_by-mwh, Run.has_target, Run.reduced_by_less, Trades.framed}
use Rattle.laws.specs.{Sound.Sound, Statements.own_holding}
use Rattle.base.proofs.Tests.{and_l, and_r, all_by, by_case, holds, and-false, or-true}
use Rattle.rules.specs.{Areas.Prices, Reduction.Tally, Reduction.has_eligible, Reduction.nothing, Reduction.tallied, Reduction.tally_all, Reduction.target}
use Rattle.rules.specs.{Book.Book, Book.Header, Book.Party, Book.Trade, Book.User, Book.nobody, Calls.Answer, Calls.answer_of_cuts, Calls.reduced_by}
use Rattle.rules.specs.Levels.{Limits, Holding, exceeds_its_margin, holding, level_from, shipper, short_of_cover}
use Rattle.rules.specs.Questions.{ids_rise, known}
use Rattle.base.specs.Lists.{all, any}
use Rattle.risk_user.proofs.Borne.{member_borne, members_borne, party_borne}
use Rattle.run_state.specs.{Asked.member_at, Asked.touched, Going.owed, Going.owed_called}
use Rattle.laws_sales.proofs.Cover.{has_eligible_sales, level_next, next_holding, short_from_lem, some_cut_buyer, some_cut_seller, target_from}
use Rattle.laws_sales.proofs.{FirstCuts.own_cuts_length, Own.own_sales_lem, Reduced.cover_left, Reduced.sales_reduced, Reduced.user_left, Standing.same_length}
use Rattle.laws_sales.proofs.{Settled.party_at, Settled.same_place, Sums.held_borne, Valid.borne_ids, Valid.borne_valid_lem, Valid.sales_own, Valid.sales_valid}

-- ---- the user of a known id stands at its place

pub place_inside : (us : List User) (id : ℕ) → T (known us id) → place_of us id < length us
place_inside us id k = ltb→lt (place_of us id) (length us) (subst T (sym (place_known us id)) k)

pub place_id : (us : List User) (id : ℕ) → T (known us id) → (get_or us (place_of us id) nobody).party.id ≡ id
unfolding place_of known any
place_id [] id k = absurd k
place_id (u ∷ us) id k =
    by_case (eqb u.party.id id)
    (λ e. rw e (eqb→eq u.party.id id (holds e)))
    (λ e. rw e (place_id us id (rw e at k)))

-- a place is that of an id where the user there has the id
place_test : (us : List User) (id j : ℕ) → T (ids_rise 0 us) → T (known us id) → j < length us → eqb (place_of us id) j ≡ eqb id (get_or us j nobody).party.id
place_test us id j r k h =
    sym (same_place us 0 (place_of us id) j nobody r (place_inside us id k) h) ∙ ap (λ (n : ℕ). eqb n (get_or us j nobody).party.id) (place_id us id k)

-- ---- cuts

-- no cut is above 0: nothing is tallied
tally_none : (f : Prices) (cs : List ℕ) (ss : List Trade) (y : Tally) → any (λ c. ltb 0 c) cs ≡ false → (tally_all f cs ss y).mwh ≡ y.mwh
unfolding any tally_all tallied
tally_none f [] ss y e = refl
tally_none f (c ∷ cs) [] y e = refl
tally_none f (c ∷ cs) (s ∷ ss) y e =
    by_case (ltb 0 c) (λ x. absurd (subst T (rw x at e) tt)) (λ x. omega (arith, ltb-false 0 c x, tally_none f cs ss (tallied f c s y) (rw x at e)))

-- who buys in a sale that lost something
touched_buyers : (us : List User) (j : ℕ) → T (ids_rise 0 us) → j < length us → (cs : List ℕ) (ss : List Trade) → T (all (λ s. known us s.terms.buyer) ss)
    → touched j (map (λ s. place_of us s.terms.buyer) ss) cs ≡ some_cut (λ s. eqb s.terms.buyer (get_or us j nobody).party.id) cs ss
unfolding touched some_cut all
touched_buyers us j r h [] [] v = refl
touched_buyers us j r h [] (s ∷ ss) v = refl
touched_buyers us j r h (c ∷ cs) [] v = refl
touched_buyers us j r h (c ∷ cs) (s ∷ ss) v =
    ap₂ (λ (x y : Bool). (x && ltb 0 c) || y)
    (place_test us s.terms.buyer j r (and_l (known us s.terms.buyer) (all (λ t. known us t.terms.buyer) ss) v) h)
    (touched_buyers us j r h cs ss (and_r (known us s.terms.buyer) (all (λ t. known us t.terms.buyer) ss) v))

-- of two tests, the second first
pub cond-and : (x y : Bool) (n : ℕ) → cond (x && y) n 0 ≡ cond y (cond x n 0) 0
cond-and true true n = refl
cond-and true false n = refl
cond-and false true n = refl
cond-and false false n = refl

-- ---- short of cover, by the trades as they are borne

pub short_rules : (limits : Limits) (b : Book) (u : User) → short_of_cover limits b u ≡ short_from limits b.header.prices u (holding b u) (cut_before u.party.id (borne_book b).trades)
unfolding short_from borne_user shipper exceeds_its_margin
short_rules limits b u =
    short_from_lem limits b u
    ∙ ap (λ (h : ℕ → Holding). short_from limits b.header.prices u h (cut_before u.party.id (borne_book b).trades)) (sym (fun_ext (held_borne b u)))

-- ---- the reduction

module _ (limits : Limits) (b : Book) (sound : Sound b) (place : ℕ) (k : place < length b.users) where
  abbrev seller : User
  seller = get_or b.users place nobody

  abbrev asked : ℕ
  asked = target limits b (get_or b.users place nobody)

  abbrev after : Book
  after = (reduced_by b (get_or b.users place nobody) (target limits b (get_or b.users place nobody))).book

  -- the book, the user, its own sales and their cuts, as the risk is borne
  abbrev bb : Book
  bb = borne_book b

  abbrev ub : User
  ub = borne_user b.users (get_or b.users place nobody)

  abbrev sales : List Trade
  sales = own_sales (borne_book b) (borne_user b.users (get_or b.users place nobody))

  abbrev cuts : List ℕ
  cuts = own_cuts (borne_book b) (borne_user b.users (get_or b.users place nobody)) (target limits b (get_or b.users place nobody))

  pub law : SalesReduced b seller asked (reduced_by b seller asked)
  law = sales_reduced b seller asked sound

  pub members_stay : length after.users ≡ length b.users
  unfolding borne_result
  members_stay = sym (members_borne after) ∙ same_length bb.users (borne_book after).users law.parties ∙ members_borne b

  pub member_stays : (j : ℕ) → (member_at after j).party ≡ (member_at b j).party
  unfolding borne_result
  member_stays j = sym (party_borne after j) ∙ party_at bb.users (borne_book after).users law.parties j nobody ∙ party_borne b j

  id_stays : (j : ℕ) → (member_at after j).party.id ≡ (member_at b j).party.id
  id_stays j = ap (λ (p : Party). p.id) (member_stays j)

  id_borne : (j : ℕ) → (member_at (borne_book b) j).party.id ≡ (member_at b j).party.id
  id_borne j = ap (λ (p : Party). p.id) (party_borne b j)

  -- users at two places have two ids
  pub apart : (j : ℕ) → j < length b.users → (j ≡ place → ⊥) → (member_at b j).party.id ≡ seller.party.id → ⊥
  apart j l n e = n (eqb→eq j place (subst T (sym (eq-eqb _ _ e) ∙ same_place b.users 0 j place nobody sound.ids l k) tt))

  -- ---- eligible trades

  -- another user has one as before
  pub eligible_left : (j : ℕ) → j < length b.users → (j ≡ place → ⊥) → has_eligible after (member_at after j) ≡ has_eligible b (member_at b j)
  unfolding borne_result borne_user
  eligible_left j l n =
      has_eligible_sales after (member_at after j)
      ∙ ap (λ (id : ℕ). any (λ m. ltb 0 m) (standings (borne_book after).trades id)) (id_stays j)
      ∙ ap (λ (ss : List Trade). any (λ m. ltb 0 m) (map (λ s. s.standing) ss)) (law.other (member_at b j).party.id (apart j l n))
      ∙ sym (has_eligible_sales b (member_at b j))

  -- the user has one where one of its own sales stands
  pub eligible_own : has_eligible after (member_at after place) ≡ any (λ m. ltb 0 m) (standings (borne_book after).trades seller.party.id)
  eligible_own = has_eligible_sales after (member_at after place) ∙ ap (λ (id : ℕ). any (λ m. ltb 0 m) (standings (borne_book after).trades id)) (id_stays place)

  -- ---- who is touched

  all_known : T (all (λ s. known bb.users s.terms.buyer) sales)
  unfolding borne_valid
  all_known =
      all_by (borne_valid bb.users) (λ s. known bb.users s.terms.buyer) (λ s v. search (and_l, and_r)) sales
      (sales_valid bb.users bb.trades ub.party.id (borne_valid_lem b sound))

  -- the buyers of sales that lost something
  abbrev buyers : List ℕ
  buyers = map (λ s. place_of (borne_book b).users s.terms.buyer) (own_sales (borne_book b) (borne_user b.users (get_or b.users place nobody)))

  touched_is : (j : ℕ) → j < length b.users → (j ≡ place → ⊥) → touched j buyers cuts ≡ some_cut (is_party (member_at b j).party.id) cuts sales
  unfolding borne_user
  touched_is j l n =
      touched_buyers bb.users j (borne_ids b sound) (omega (arith, members_borne b)) cuts sales all_known
      ∙ ap (λ (id : ℕ). some_cut (λ s. eqb s.terms.buyer id) cuts sales) (id_borne j)
      ∙ sym (some_cut_buyer seller.party.id (member_at b j).party.id (apart j l n) cuts sales (sales_own bb.trades seller.party.id))

  -- who is party to a sale that lost something: with an eligible trade its cover is asked as of a user that is called in
  asked_anew : (j : ℕ) → some_cut (is_party (member_at b j).party.id) cuts sales ≡ true
      → owed limits after (member_at after j)
      ≡ cond (has_eligible after (member_at after j)) (owed_called limits after (member_at after j)) 0
  unfolding due borne_result
  asked_anew j e =
      let v = member_at after j in
      let cut : cut_before v.party.id (borne_book after).trades ≡ true
      = law.cut v.party.id ∙ ap (λ (n : ℕ). cut_before v.party.id bb.trades || some_cut (is_party n) cuts sales) (id_stays j)
      ∙ ap (λ (x : Bool). cut_before v.party.id bb.trades || x) e ∙ or-true (cut_before v.party.id bb.trades) in
      let short : short_of_cover limits after v ≡ short_from limits after.header.prices v (holding after v) true
      = short_rules limits after v ∙ ap (short_from limits after.header.prices v (holding after v)) cut in
      ap (λ (x : Bool). cond (x && has_eligible after v) (target limits after v) 0) short
      ∙ cond-and (short_from limits after.header.prices v (holding after v) true) (has_eligible after v) (target limits after v)

  -- what a user holds, as the afternoon reads it, where its record is as before
  held_kept : (u : User) → AllNext (own_holding bb u) (own_holding (borne_book after) u)
  unfolding own_holding borne_result
  held_kept u = record { each = λ area h. next_holding bb (borne_book after) u u refl (framed law.lowered) area (own_holding bb u area) refl refl refl }

  -- who stands as it did has the same target
  target_kept : (u v : User) → borne_user after.users v ≡ borne_user b.users u → v.party ≡ u.party → target limits after v ≡ target limits b u
  unfolding borne_result borne_book
  target_kept u v same p =
      let x = borne_user b.users u in
      target_from limits after v
      ∙ ap₂ (λ (w : User) (q : Party). level_from limits after.header.prices w (own_holding (borne_book after) w) - q.assigned) same p
      ∙ ap (λ (h : Header). level_from limits h.prices x (own_holding (borne_book after) x) - u.party.assigned) law.header
      ∙ ap (λ (m : ℕ). m - u.party.assigned) (sym (level_next (held_kept x) limits b.header.prices x)) ∙ sym (target_from limits b u)

  -- who is party to none is due as before, for the same target
  asked_before : (j : ℕ) → j < length b.users → (j ≡ place → ⊥) → some_cut (is_party (member_at b j).party.id) cuts sales ≡ false
      → owed limits after (member_at after j) ≡ owed limits b (member_at b j)
  unfolding due borne_result
  asked_before j l n e =
      let u = member_at b j in
      let v = member_at after j in
      let same : borne_user after.users v ≡ borne_user b.users u
      = sym (member_borne after j (omega (arith, members_stay))) ∙ user_left law j nobody (ap (λ (id : ℕ). some_cut (is_party id) cuts sales) (id_borne j) ∙ e) ∙ member_borne b j l in
      let cover : short_of_cover limits after v ≡ short_of_cover limits b u = cover_left limits b seller asked sound u v same e in
      ap₂ (λ (x y : Bool). cond (x && y) (target limits after v) 0) cover (eligible_left j l n)
      ∙ ap (λ (m : ℕ). cond (short_of_cover limits b u && has_eligible b u) m 0) (target_kept u v same (member_stays j))

  -- ---- the user

  module _ (is_due : due limits b seller ≡ true) where
    -- something is cut
    some_lost : some_cut (is_party seller.party.id) cuts sales ≡ true
    unfolding due answer_of_cuts nothing borne_result borne_user
    some_lost =
        let whole = holds is_due in
        let s = and_l (short_of_cover limits b seller) (has_eligible b seller) whole in
        let eligible = and_r (short_of_cover limits b seller) (has_eligible b seller) whole in
        let some = some_cut_seller seller.party.id cuts sales (sales_own bb.trades seller.party.id) (own_cuts_length own_sales_lem bb ub asked) in
        by_case (any (λ c. ltb 0 c) cuts) (λ e. some ∙ e)
        (λ e.
        let less-mwh = reduced_by_less b seller asked sound (has_target limits b seller s) eligible in
        let mwh = reduced_by-mwh b seller asked in
        let zero-mwh : (reduced_by b seller asked).answer.mwh ≡ 0
        = ap (λ (a : Answer). a.mwh) law.answer ∙ tally_none bb.header.prices cuts sales nothing e in
        absurd (omega (arith, less-mwh, mwh, zero-mwh)))

    pub asked_own : owed limits after (member_at after place)
        ≡ cond (has_eligible after (member_at after place)) (owed_called limits after (member_at after place)) 0
    asked_own = asked_anew place some_lost

  -- another user: touched and with an eligible trade it is asked anew, else its target stays
  pub asked_other : (j : ℕ) → j < length b.users → (j ≡ place → ⊥)
      → owed limits after (member_at after j)
      ≡ cond (touched j buyers cuts && has_eligible b (member_at b j))
      (owed_called limits after (member_at after j))
      (owed limits b (member_at b j))
  unfolding due
  asked_other j l n =
      by_case (touched j buyers cuts)
      (λ e. rw e (asked_anew j (sym (touched_is j l n) ∙ e) ∙ ap (λ (x : Bool). cond x (owed_called limits after (member_at after j)) 0) (eligible_left j l n)
      ∙ none (short_of_cover limits b (member_at b j)) (has_eligible b (member_at b j)) (owed_called limits after (member_at after j)) (target limits b (member_at b j))))
      (λ e. rw e (asked_before j l n (sym (touched_is j l n) ∙ e)))
    where
      -- without an eligible trade there was no target
      none : (x y : Bool) (m t : ℕ) → cond y m 0 ≡ cond y m (cond (x && y) t 0)
      none x true m t = refl
      none x false m t = rw (and-false x)
