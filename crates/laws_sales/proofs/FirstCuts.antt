-- Positions while own sales are cut one after the other: after each, the users are those of an accepted book, so that their positions are within the range of one.
-- Start, a turn and the end of a loop over the sales, by the places of the users. Assumes nothing.
use Rattle.base.specs.Basics.{◌≡◌, sym, ap, subst, ◌∙◌, Bool, ◌||◌, List, [], ◌∷◌, map, ℕ, suc, ◌≤◌, ◌<◌, arith, T, eqb, leb, le→leb, length, take, get_or}
use Rattle.base.specs.Basics.{length-map, length-take, get_or-eq_default, get_or-map, take_all, get_or-take}
use Rattle.base.proofs.{Fronts.get_or_inside, Linear.by_order, Tests.and_i, Tests.or_r, Tests.by_case, Tests.holds}
use Rattle.base.specs.Parts.{pos_part, neg_part}
use Rattle.laws.proofs.{Levels.borne_bound, Reduction.cuts_sound, Shares.within_at}
use Rattle.laws.specs.{Sound.Sound, Trades.cut_within, Trades.cuts_within}
use Rattle.rules.specs.{Book.at, Book.Party, Book.Book, Book.User, Book.Trade, Book.bilateral_for_day, Book.nobody, Questions.ids_rise}
use Rattle.rules.specs.Reduction.{cut_all, settle, with_trades}
use Rattle.laws_sales.proofs.{Borne.borne_with, Cuts.cut_borne, Cuts.sale_length, Cuts.sale_within, Cuts.within_borne, Kept.kept_yes, Kept.kept_no}
use Rattle.laws_sales.proofs.{Numbers.read_at, Own.own_sales_lem, Sums.at_sums}
use Rattle.laws_sales.proofs.Settled.{settle_none, settle-kept, settle_front, settle_parties, settle_rise, settle_one_at, party_at}
use Rattle.laws_sales.specs.{Borne.borne_book, Borne.borne_user, Own.Owned}
use Rattle.laws_sales.specs.{Kept.kept, Kept.spread, Reduced.cuts_by, Reduced.sales_by, Reduced.settled_first, Sales.own_sale, Sales.short_at, Sales.settled_at}

-- ---- cuts of some of the sales

-- cuts of trades that pass, each at most what stands, leave the other trades
pub spread_within : (p q : Trade → Bool) → ((t : Trade) → T (p t) → T (q t)) → (ts : List Trade) (cs : List ℕ)
    → ((i : ℕ) → get_or cs i 0 ≤ get_or (map (λ t. t.standing) (kept p ts)) i 0) → T (cuts_within q (spread p ts cs) ts)
unfolding cuts_within cut_within spread kept
spread_within p q f [] cs h = tt
spread_within p q f (t ∷ ts) [] h =
    and_i (cut_within q 0 t) (cuts_within q (spread p ts []) ts) (and_i (leb 0 t.standing) (eqb 0 0 || q t) (le→leb 0 t.standing (omega arith)) tt)
    (spread_within p q f ts [] (λ i. omega (arith, get_or-eq_default {A = ℕ} [] 0 {n = i} (omega arith))))
spread_within p q f (t ∷ ts) (c ∷ cs) h =
    by_case (p t)
    (λ e. rw e
    (let g : (i : ℕ) → get_or (c ∷ cs) i 0 ≤ get_or (map (λ t. t.standing) (t ∷ kept p ts)) i 0
    = subst (λ (ss : List Trade). (i : ℕ) → get_or (c ∷ cs) i 0 ≤ get_or (map (λ t. t.standing) ss) i 0) (kept_yes p t ts e) h in
    and_i (cut_within q c t) (cuts_within q (spread p ts cs) ts)
    (and_i (leb c t.standing) (eqb c 0 || q t) (le→leb c t.standing (g 0)) (or_r (eqb c 0) (q t) (f t (holds e))))
    (spread_within p q f ts cs (λ i. g (suc i)))))
    (λ e. rw e
    (and_i (cut_within q 0 t) (cuts_within q (spread p ts (c ∷ cs)) ts) (and_i (leb 0 t.standing) (eqb 0 0 || q t) (le→leb 0 t.standing (omega arith)) tt)
    (spread_within p q f ts (c ∷ cs)
    (subst (λ (ss : List Trade). (i : ℕ) → get_or (c ∷ cs) i 0 ≤ get_or (map (λ t. t.standing) ss) i 0) (kept_no p t ts e) h))))

-- the first of a list are at most what all are
take-le : (n : ℕ) (cs : List ℕ) (i : ℕ) → get_or (take n cs) i 0 ≤ get_or cs i 0
take-le n cs i =
    by_order i n (λ h. omega (arith, get_or-take n cs i 0 h))
    (λ h. omega (arith, get_or-eq_default (take n cs) 0 {n = i} (omega (arith, length-take n cs))))

module _ {own : ℕ → Trade → Bool} (o : Owned own) (b : Book) (u : User) (asked : ℕ) where
  -- a cut is at most what stands
  pub own_cut_le : (i : ℕ) → get_or (cuts_by own b u asked) i 0 ≤ get_or (map (λ s. s.standing) (sales_by own b u)) i 0
  own_cut_le i =
      within_at (cuts_by own b u asked) (map (λ s. s.standing) (sales_by own b u)) (sale_within b.header.prices (short_at u) asked (sales_by own b u)) i

  -- a cut for each own sale
  pub own_cuts_length : length (cuts_by own b u asked) ≡ length (sales_by own b u)
  own_cuts_length = sale_length b.header.prices (short_at u) asked (sales_by own b u)

  -- before the first cut
  pub first_none : settled_first own b u asked 0 ≡ b.users
  unfolding cut_all
  first_none = settle_none (sales_by own b u) b.users

  -- after the last
  pub first_all : (n : ℕ) → length (sales_by own b u) ≤ n → settled_first own b u asked n ≡ settle (sales_by own b u) (cut_all (cuts_by own b u asked) (sales_by own b u)) b.users
  first_all n h =
      ap (λ (cs : List ℕ). settle (sales_by own b u) (cut_all cs (sales_by own b u)) b.users) (take_all n (cuts_by own b u asked) (omega (arith, own_cuts_length)))

  -- the users are the same parties
  pub first_parties : (n : ℕ) → map (λ v. v.party) (settled_first own b u asked n) ≡ map (λ v. v.party) b.users
  first_parties n = settle_parties (sales_by own b u) (cut_all (take n (cuts_by own b u asked)) (sales_by own b u)) b.users

  pub first_length : (n : ℕ) → length (settled_first own b u asked n) ≡ length b.users
  first_length n =
      sym (length-map (settled_first own b u asked n) (λ v. v.party)) ∙ ap length (first_parties n) ∙ length-map b.users (λ v. v.party)

  -- one cut more, by the places of the sale's seller and buyer
  pub first_next : T (ids_rise 0 b.users) → (n seller buyer : ℕ) (d : Trade) → n < length (sales_by own b u) → seller < length b.users → buyer < length b.users
      → (get_or b.users seller nobody).party.id ≡ (get_or (sales_by own b u) n d).terms.seller → (get_or b.users buyer nobody).party.id ≡ (get_or (sales_by own b u) n d).terms.buyer
      → settled_first own b u asked (suc n) ≡ settled_at seller buyer (get_or (sales_by own b u) n d).terms.area (get_or (cuts_by own b u asked) n 0) (settled_first own b u asked n)
  first_next rise n seller buyer d h k l e g =
      let ss = sales_by own b u in
      let cs = cuts_by own b u asked in
      let vs = settled_first own b u asked n in
      let t = get_or ss n d in
      let same = first_parties n in
      let stands : get_or (map (λ s. s.standing) ss) n 0 ≡ t.standing
      = read_at (λ s. s.standing) ss n d 0 h in
      settle_front cs ss b.users n d h (omega (arith, own_cuts_length))
      ∙ settle_one_at (get_or cs n 0) t vs 0 seller buyer
      (rw (settle_rise ss (cut_all (take n cs) ss) 0 b.users) rise) (omega (arith, first_length n)) (omega (arith, first_length n))
      (ap (λ (q : Party). q.id) (party_at b.users vs same seller nobody) ∙ e)
      (ap (λ (q : Party). q.id) (party_at b.users vs same buyer nobody) ∙ g)
      (omega (arith, own_cut_le n))

-- ---- an accepted book as its risk is borne

module _ (b : Book) (u : User) (asked : ℕ) (s : Sound b) where
  abbrev bb : Book
  bb = borne_book b

  abbrev ub : User
  ub = borne_user b.users u

  -- the first cuts
  abbrev first_cuts : ℕ → List ℕ
  first_cuts n = spread (own_sale u.party.id) bb.trades (take n (cuts_by own_sale bb ub asked))

  first_within : (n : ℕ) → T (cuts_within bilateral_for_day (first_cuts n) bb.trades)
  unfolding borne_user
  first_within n =
      spread_within (own_sale u.party.id) bilateral_for_day (own_sales_lem.bilateral u.party.id) bb.trades (take n (cuts_by own_sale bb ub asked))
      (λ i. omega (arith, take-le n (cuts_by own_sale bb ub asked) i, own_cut_le own_sales_lem bb ub asked i))

  -- the book after them
  book_after : ℕ → Book
  book_after n = with_trades b (cut_all (first_cuts n) b.trades)

  after_sound : (n : ℕ) → Sound (book_after n)
  unfolding book_after borne_book
  after_sound n = cuts_sound b (first_cuts n) s (within_borne b.users (first_cuts n) b.trades (first_within n))

  after_users : (n : ℕ) → (borne_book (book_after n)).users ≡ settled_first own_sale bb ub asked n
  unfolding book_after borne_book borne_user with_trades
  after_users n =
      ap (λ (x : Book). x.users) (borne_with b (cut_all (first_cuts n) b.trades) s)
      ∙ ap (λ (ns : List Trade). settle bb.trades ns bb.users) (cut_borne b.users (first_cuts n) b.trades)
      ∙ settle-kept (own_sale u.party.id) bb.trades (take n (cuts_by own_sale bb ub asked)) bb.users

  -- each position is that of an accepted book
  pub first_bound : (n i area : ℕ) → i < length b.users → area < 3
      → (pos_part (at (get_or (settled_first own_sale bb ub asked n) i nobody).position area) ≤ 89600000)
      × (neg_part (at (get_or (settled_first own_sale bb ub asked n) i nobody).position area) ≤ 89600000)
  unfolding borne_book borne_user
  first_bound n i area h k =
      let us = (book_after n).users in
      let many : length us ≡ length b.users = sym (length-map us (borne_user us)) ∙ ap length (after_users n) ∙ first_length own_sales_lem bb ub asked n ∙ length-map b.users (borne_user b.users) in
      let x = get_or us i nobody in
      let here : get_or (settled_first own_sale bb ub asked n) i nobody ≡ borne_user us x
      = ap (λ (vs : List User). get_or vs i nobody) (sym (after_users n)) ∙ get_or_inside (map (borne_user us) us) i nobody (borne_user us nobody) (omega (arith, length-map us (borne_user us), many)) ∙ get_or-map (borne_user us) us i nobody in
      rw (here, at_sums (λ v. v.position) us x.party.id area) (borne_bound (book_after n) (after_sound n) x.party.id area k)
