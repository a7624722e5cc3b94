-- A reduction in an accepted book, said of the user's own sales alone; and the users that it leaves as they were: neither the seller nor the buyer of a sale that lost
-- something. Assumes nothing.
use Rattle.base.specs.Basics.{◌≡◌, refl, sym, ap, subst, ◌∙◌, Bool, true, false, ◌&&◌, ◌||◌, List, [], ◌∷◌, map, ℕ, zero, suc, arith, T, eqb, ltb, neg_ℤ, get_or}
use Rattle.base.specs.Basics.{ltb-false}
use Rattle.laws_sales.specs.{Parties.cut_before, Cover.AllNext, Cover.short_from, Reduced.ReducedOf, Reduced.SalesReduced, Reduced.cuts_by, Reduced.sales_by}
use Rattle.laws_sales.specs.{Borne.borne_book, Borne.borne_result, Borne.borne_user, Sales.own_sale, Sales.short_at, Sales.is_party, Sales.some_cut}
use Rattle.laws_sales.specs.Kept.{kept, spread}
use Rattle.laws.proofs.{Reduction.cuts_lowered, Trades.framed}
use Rattle.laws.specs.{Sound.Sound, Statements.own_holding, Trades.Lowered, Trades.Pairwise}
use Rattle.base.proofs.Tests.{eqb_comm, by_case}
use Rattle.rules.specs.{Book.Header, Book.Book, Book.User, Book.Trade, Book.bilateral_for_day, Levels.Limits, Levels.Holding, Levels.short_of_cover}
use Rattle.rules.specs.{Calls.Result, Calls.reduced_by, Calls.answer_of_cuts, Changes.change, Changes.moved}
use Rattle.rules.specs.Reduction.{cut_by, cut_all, cuts, settle_one, settle, tally_all, nothing, with_trades, lost}
use Rattle.laws_sales.proofs.{Cover.cut_before_kept, Cover.next_holding, Cover.or-false, Cover.short_from_lem, Cover.short_next, Valid.borne_notified}
use Rattle.laws_sales.proofs.Cuts.{cut_borne, sale_within, cuts_sales, sales_cut, sales_other, tally_borne, tally-kept, cut_zero}
use Rattle.laws_sales.proofs.{Borne.borne_with, Own.own_sales_lem, Settled.settle-kept, Settled.settle_parties, Settled.settle_one_none, Settled.settle_none}
use Rattle.laws_sales.proofs.FirstCuts.{own_cut_le, spread_within}

module _ (b : Book) (u : User) (asked : ℕ) (s : Sound b) where
  -- the book, the user and what a reduction makes of the book, as the risk is borne
  abbrev bb : Book
  bb = borne_book b

  abbrev ub : User
  ub = borne_user b.users u

  abbrev cs : List ℕ
  cs = spread (own_sale u.party.id) bb.trades (cuts_by own_sale bb ub asked)

  book_reduced : borne_book (reduced_by b u asked).book ≡ with_trades bb (cut_all cs bb.trades)
  unfolding reduced_by borne_book
  book_reduced =
      borne_with b (cut_all (cuts b u asked) b.trades) s
      ∙ ap (with_trades bb) (cut_borne b.users (cuts b u asked) b.trades ∙ ap (λ (ds : List ℕ). cut_all ds bb.trades) (cuts_sales b u asked))

  trades_reduced : (borne_book (reduced_by b u asked).book).trades ≡ cut_all cs bb.trades
  unfolding with_trades
  trades_reduced = ap (λ (n : Book). n.trades) book_reduced

  users_reduced : (borne_book (reduced_by b u asked).book).users ≡ settle (sales_by own_sale bb ub) (cut_all (cuts_by own_sale bb ub asked) (sales_by own_sale bb ub)) bb.users
  unfolding with_trades borne_user
  users_reduced =
      ap (λ (n : Book). n.users) book_reduced ∙ settle-kept (own_sale u.party.id) bb.trades (cuts_by own_sale bb ub asked) bb.users

  answer_reduced : (reduced_by b u asked).answer ≡ answer_of_cuts asked (tally_all b.header.prices (cuts_by own_sale bb ub asked) (sales_by own_sale bb ub) nothing)
  unfolding reduced_by borne_book borne_user
  answer_reduced =
      ap (answer_of_cuts asked)
      (sym (tally_borne b.users b.header.prices (cuts b u asked) b.trades nothing)
      ∙ ap (λ (ds : List ℕ). tally_all b.header.prices ds bb.trades nothing) (cuts_sales b u asked)
      ∙ tally-kept b.header.prices (own_sale u.party.id) bb.trades (cuts_by own_sale bb ub asked) nothing)

  -- each cut is at most what stands
  lowered_reduced : Pairwise Lowered bb.trades (borne_book (reduced_by b u asked).book).trades
  unfolding borne_user
  lowered_reduced =
      rw trades_reduced
      (cuts_lowered cs bb.trades
      (spread_within (own_sale u.party.id) bilateral_for_day (own_sales_lem.bilateral u.party.id) bb.trades (cuts_by own_sale bb ub asked)
      (own_cut_le own_sales_lem bb ub asked)))

  pub sales_reduced : SalesReduced b u asked (reduced_by b u asked)
  unfolding borne_result borne_book borne_user reduced_by with_trades
  sales_reduced =
      let id = u.party.id in
      let ts = bb.trades in
      let ds = cuts_by own_sale bb ub asked in
      record {
        header = refl;
        trades = trades_reduced;
        lowered = lowered_reduced;
        users = users_reduced;
        parties = ap (map (λ v. v.party)) users_reduced ∙ settle_parties (sales_by own_sale bb ub) (cut_all ds (sales_by own_sale bb ub)) bb.users;
        answer = answer_reduced;
        own = ap (kept (own_sale id)) trades_reduced ∙ sales_cut own_sales_lem id ts ds;
        other = λ other n. ap (kept (own_sale other)) trades_reduced ∙ sales_other own_sales_lem id ts ds other n;
        cut = λ other. ap (cut_before other) trades_reduced
            ∙ cut_before_kept other (own_sale id) ts ds (borne_notified b s) (sale_within b.header.prices (short_at ub) asked (sales_by own_sale bb ub));
      }

-- ---- users that are left as they were

-- a change of another user
change_other : (id : ℕ) (f : User → User) (us : List User) (i : ℕ) (d : User) → eqb (get_or us i d).party.id id ≡ false → get_or (change id f us) i d ≡ get_or us i d
unfolding change
change_other id f [] i d e = refl
change_other id f (u ∷ us) zero d e = rw e
change_other id f (u ∷ us) (suc i) d e = change_other id f us i d e

or_neither : (a b : Bool) → (a || b) ≡ false → (a ≡ false) × (b ≡ false)
or_neither true b e = absurd (subst T e tt)
or_neither false b e = (refl, e)

and_not : (a b : Bool) → (a && b) ≡ false → b ≡ true → a ≡ false
and_not true b e h = sym h ∙ e
and_not false b e h = refl

-- one sale
settle_one_other : (c : ℕ) (t : Trade) (us : List User) (i : ℕ) (d : User) → (is_party (get_or us i d).party.id t && ltb 0 c) ≡ false
    → get_or (settle_one t (cut_by c t) us) i d ≡ get_or us i d
unfolding settle_one is_party
settle_one_other c t us i d e =
    by_case (ltb 0 c)
    (λ h.
    let z = lost t (cut_by c t) in
    let area = t.terms.area in
    let risen = change t.terms.seller (moved area z) us in
    let neither = or_neither (eqb t.terms.seller (get_or us i d).party.id) (eqb t.terms.buyer (get_or us i d).party.id) (and_not _ (ltb 0 c) e h) in
    let first : get_or risen i d ≡ get_or us i d
    = change_other t.terms.seller (moved area z) us i d (eqb_comm (get_or us i d).party.id t.terms.seller ∙ neither.0) in
    change_other t.terms.buyer (moved area (neg_ℤ z)) risen i d
    (ap (λ (v : User). eqb v.party.id t.terms.buyer) first ∙ eqb_comm (get_or us i d).party.id t.terms.buyer ∙ neither.1)
    ∙ first)
    (λ h.
    let z : c ≡ 0 = omega (arith, ltb-false 0 c h) in
    ap (λ (n : ℕ). get_or (settle_one t (cut_by n t) us) i d) z ∙ ap (λ (n : Trade). get_or (settle_one t n us) i d) (cut_zero t)
    ∙ ap (λ (vs : List User). get_or vs i d) (settle_one_none t us))

-- all of them
pub settle_other : (cs : List ℕ) (ss : List Trade) (us : List User) (i : ℕ) (d : User) → some_cut (is_party (get_or us i d).party.id) cs ss ≡ false
    → get_or (settle ss (cut_all cs ss) us) i d ≡ get_or us i d
unfolding settle cut_all some_cut
settle_other [] ss us i d e = ap (λ (vs : List User). get_or vs i d) (settle_none ss us)
settle_other (c ∷ cs) [] us i d e = refl
settle_other (c ∷ cs) (s ∷ ss) us i d e =
    let q = is_party (get_or us i d).party.id in
    let neither = or_neither (q s && ltb 0 c) (some_cut q cs ss) e in
    let first = settle_one_other c s us i d neither.0 in
    settle_other cs ss (settle_one s (cut_by c s) us) i d (ap (λ (v : User). some_cut (is_party v.party.id) cs ss) first ∙ neither.1) ∙ first

module _ {own : ℕ → Trade → Bool} {b : Book} {u : User} {asked : ℕ} {r : Result Book} (h : ReducedOf own b u asked r) where
  -- the user at a place that is party to no sale that lost something
  pub user_left : (i : ℕ) (d : User) → some_cut (is_party (get_or b.users i d).party.id) (cuts_by own b u asked) (sales_by own b u) ≡ false
      → get_or r.book.users i d ≡ get_or b.users i d
  user_left i d e =
      ap (λ (vs : List User). get_or vs i d) h.users ∙ settle_other (cuts_by own b u asked) (sales_by own b u) b.users i d e

-- short of cover after the reduction
module _ (limits : Limits) (b : Book) (u : User) (asked : ℕ) (s : Sound b) where
  abbrev after : Book
  after = (reduced_by b u asked).book

  -- some sale of the reduced that has the user for a party loses something
  abbrev touched : ℕ → Bool
  touched id = some_cut (is_party id) (cuts_by own_sale (borne_book b) (borne_user b.users u) asked) (sales_by own_sale (borne_book b) (borne_user b.users u))

  -- from the position and what was sold and bought for d+1
  pub cover_after : (v : User) {g : ℕ → Holding} → AllNext g (own_holding (borne_book after) (borne_user after.users v))
      → short_of_cover limits after v
      ≡ short_from limits b.header.prices (borne_user after.users v) g (cut_before v.party.id (borne_book b).trades || touched v.party.id)
  unfolding borne_result borne_book
  cover_after v {g} same =
      let w = borne_user after.users v in
      let h = sales_reduced b u asked s in
      short_from_lem limits after v
      ∙ ap (λ (x : Header). short_from limits x.prices w (own_holding (borne_book after) w) (cut_before v.party.id (borne_book after).trades)) h.header
      ∙ sym (short_next same limits b.header.prices w (cut_before v.party.id (borne_book after).trades))
      ∙ ap (short_from limits b.header.prices w g) (h.cut v.party.id)

  -- what a user held before serves, where the position is that of the record
  held_before : (w : User) → AllNext (own_holding (borne_book b) w) (own_holding (borne_book after) w)
  unfolding own_holding borne_result
  held_before w = record {
    each = λ area k. next_holding (borne_book b) (borne_book after) w w refl (framed (sales_reduced b u asked s).lowered) area (own_holding (borne_book b) w area) refl refl refl;
  }

  -- the cover of a user that is party to no sale that lost something, and stands as it did
  pub cover_left : (v w : User) → borne_user after.users w ≡ borne_user b.users v → touched v.party.id ≡ false → short_of_cover limits after w ≡ short_of_cover limits b v
  unfolding borne_user
  cover_left v w same e =
      let before = borne_book b in
      cover_after w (held_before (borne_user after.users w))
      ∙ ap (λ (x : User). short_from limits b.header.prices x (own_holding before x) (cut_before x.party.id before.trades || touched x.party.id)) same
      ∙ ap (short_from limits b.header.prices (borne_user b.users v) (own_holding before (borne_user b.users v)))
      (or-false (cut_before v.party.id before.trades) (touched v.party.id) e)
      ∙ sym (short_from_lem limits b v)
