-- After the cuts of a reduction: who is party to a trade standing below notified, who is short of cover and who has an eligible trade. Assumes nothing.
use Rattle.base.specs.Basics.{◌≡◌, refl, sym, ap, ap₂, fun_ext, ◌∙◌, Bool, true, false, cond, ◌&&◌, ◌||◌, List, [], ◌∷◌, map, map-map, ℕ, ◌+◌, ◌-◌, ◌*◌, ◌≤◌}
use Rattle.base.specs.Basics.{arith, T, eqb, ltb, leb, leb→le, eqb→eq, ltb→lt, ℤ, pos, ◌+ℤ◌, ◌-ℤ◌, length, lt-ltb, le-ltb, ltb-true, ltb-false, ne_eqb}
use Rattle.laws_sales.specs.{Parties.is_cut, Parties.cut_before, Cover.SameNext, Cover.AllNext, Cover.short_from, Kept.kept, Kept.spread, Own.EligibleBy}
use Rattle.laws_sales.specs.{Borne.borne_book, Borne.borne_trade, Borne.borne_user, Borne.shut, Sales.own_sale, Sales.sales_of, Sales.is_party, Sales.some_cut}
use Rattle.base.specs.{Parts.pos_part, Parts.neg_part, Sums.sum, Lists.all, Lists.any}
use Rattle.laws.proofs.Shares.{each_within}
use Rattle.base.proofs.Tests.{and_l, and_r, or_l, all_by, sum_by, by_case, and-false}
use Rattle.laws.specs.{Statements.own_holding, Trades.Framed, Trades.Pairwise, Trades.ended, Trades.then}
use Rattle.rules.specs.Areas.{Prices, areas, reference_price_of, selling_tariff_of}
use Rattle.rules.specs.{Bearers.as_borne, Book.Party, Book.Terms, Book.Book, Book.User, Book.Trade, Book.bilateral_for_day, Book.dealt, Book.sold, Book.bought}
use Rattle.rules.specs.Levels.{Limits, Holding, party_to, floored, stock, need_of_afternoon, afternoon_sum, credit, exposure, lowest_reference_price, level_from}
use Rattle.rules.specs.Levels.{flagged_from, afternoon_level, flagged, called_in, exceeds_its_margin, shipper, short_of_cover}
use Rattle.rules.specs.Reduction.{has_eligible, target, cut_by, cut_all}
use Rattle.laws_sales.proofs.{Cuts.cut_yes, Cuts.cut_no, Kept.kept_map, Kept.kept_yes, Kept.kept_no, Kept.any-kept, Own.own_eligible, Sums.held_borne}

-- ---- trades standing below notified

-- no more stands than was notified
unfoldable pub as_notified : Trade → Bool
as_notified t = leb t.standing t.terms.notified

-- a cut leaves less than was notified where less stood, or where it is above 0
below_cut : (c s n : ℕ) → c ≤ s → s ≤ n → ltb (s - c) n ≡ ltb s n || ltb 0 c
below_cut c s n h k =
    by_case (ltb s n)
    (λ e. rw e (lt-ltb (s - c) n (omega (arith, ltb-true s n e))))
    (λ e. rw e (by_case (ltb 0 c)
    (λ g. rw g (lt-ltb (s - c) n (omega (arith, ltb-false s n e, ltb-true 0 c g))))
    (λ g. rw g (le-ltb (s - c) n (omega (arith, ltb-false s n e, ltb-false 0 c g))))))

distribute : (a x y : Bool) → (a && (x || y)) ≡ (a && x) || (a && y)
distribute true x y = refl
distribute false x y = refl

regroup : (a b c d : Bool) → ((a || b) || (c || d)) ≡ ((a || c) || (b || d))
regroup true b c d = refl
regroup false true true d = refl
regroup false true false d = refl
regroup false false true d = refl
regroup false false false d = refl

regroup_one : (a c d : Bool) → (a || (c || d)) ≡ ((a || c) || d)
regroup_one true c d = refl
regroup_one false c d = refl

pub or-false : (a b : Bool) → b ≡ false → (a || b) ≡ a
or-false true b e = refl
or-false false b e = e

is_cut_after : (id c : ℕ) (t : Trade) → c ≤ t.standing → T (as_notified t) → is_cut id (cut_by c t) ≡ is_cut id t || (is_party id t && ltb 0 c)
unfolding is_cut cut_by is_party as_notified
is_cut_after id c t h k =
    ap (λ (x : Bool). (eqb t.terms.seller id || eqb t.terms.buyer id) && x) (below_cut c t.standing t.terms.notified h (leb→le t.standing t.terms.notified k))
    ∙ distribute (eqb t.terms.seller id || eqb t.terms.buyer id) (ltb t.standing t.terms.notified) (ltb 0 c)

-- after cuts of those that pass: as before, or party to one of them with a cut above 0
pub cut_before_kept : (id : ℕ) (p : Trade → Bool) (ts : List Trade) (cs : List ℕ) → T (all as_notified ts) → T (each_within cs (map (λ t. t.standing) (kept p ts)))
    → cut_before id (cut_all (spread p ts cs) ts) ≡ cut_before id ts || some_cut (is_party id) cs (kept p ts)
unfolding cut_before any all spread cut_all kept each_within some_cut
cut_before_kept id p [] [] v h = refl
cut_before_kept id p [] (c ∷ cs) v h = refl
cut_before_kept id p (t ∷ ts) cs v h =
    let vs = and_r (as_notified t) (all as_notified ts) v in
    by_case (p t)
    (λ e. here e cs (λ ds k. cut_before_kept id p ts ds vs k) (rw (kept_yes p t ts e) at h))
    (λ e. ap (cut_before id) (cut_no p t ts cs e)
    ∙ ap (λ (x : Bool). is_cut id t || x) (cut_before_kept id p ts cs vs (rw (kept_no p t ts e) at h))
    ∙ regroup_one (is_cut id t) (cut_before id ts) (some_cut (is_party id) cs (kept p ts))
    ∙ ap (λ (ss : List Trade). cut_before id (t ∷ ts) || some_cut (is_party id) cs ss) (sym (kept_no p t ts e)))
  where
    here : p t ≡ true → (cs : List ℕ)
        → ((ds : List ℕ) → T (each_within ds (map (λ t. t.standing) (kept p ts))) → cut_before id (cut_all (spread p ts ds) ts) ≡ cut_before id ts || some_cut (is_party id) ds (kept p ts))
        → T (each_within cs (map (λ t. t.standing) (t ∷ kept p ts)))
        → cut_before id (cut_all (spread p (t ∷ ts) cs) (t ∷ ts)) ≡ cut_before id (t ∷ ts) || some_cut (is_party id) cs (kept p (t ∷ ts))
    here e [] ih h = absurd h
    here e (c ∷ cs) ih h =
        let rest = each_within cs (map (λ t. t.standing) (kept p ts)) in
        let l = leb→le c t.standing (and_l (leb c t.standing) rest h) in
        ap (cut_before id) (cut_yes p t ts c cs e)
        ∙ ap₂ (λ (x y : Bool). x || y) (is_cut_after id c t l (and_l (as_notified t) (all as_notified ts) v)) (ih cs (and_r (leb c t.standing) rest h))
        ∙ regroup (is_cut id t) (is_party id t && ltb 0 c) (cut_before id ts) (some_cut (is_party id) cs (kept p ts))
        ∙ ap (λ (ss : List Trade). cut_before id (t ∷ ts) || some_cut (is_party id) (c ∷ cs) ss) (sym (kept_yes p t ts e))

-- of sales that all pass: some cut is above 0
some_cut_all : (q : Trade → Bool) (cs : List ℕ) (ss : List Trade) → T (all q ss) → length cs ≡ length ss → some_cut q cs ss ≡ any (λ c. ltb 0 c) cs
unfolding some_cut any all
some_cut_all q [] ss h e = refl
some_cut_all q (c ∷ cs) [] h e = absurd (omega arith)
some_cut_all q (c ∷ cs) (s ∷ ss) h e =
    let yes = and_l (q s) (all q ss) h in
    ap₂ (λ (x y : Bool). (x && ltb 0 c) || y) (by_case (q s) (λ t. t) (λ t. absurd (rw t at yes)))
    (some_cut_all q cs ss (and_r (q s) (all q ss) h) (omega arith))

-- of sales on which two tests agree
some_cut_same : (p q r : Trade → Bool) → ((t : Trade) → T (p t) → q t ≡ r t) → (cs : List ℕ) (ss : List Trade) → T (all p ss) → some_cut q cs ss ≡ some_cut r cs ss
unfolding some_cut all
some_cut_same p q r f [] ss h = refl
some_cut_same p q r f (c ∷ cs) [] h = refl
some_cut_same p q r f (c ∷ cs) (s ∷ ss) h =
    ap₂ (λ (x y : Bool). (x && ltb 0 c) || y) (f s (and_l (p s) (all p ss) h)) (some_cut_same p q r f cs ss (and_r (p s) (all p ss) h))

-- the seller is party to all its own sales
pub some_cut_seller : (id : ℕ) (cs : List ℕ) (ss : List Trade) → T (all (own_sale id) ss) → length cs ≡ length ss
    → some_cut (is_party id) cs ss ≡ any (λ c. ltb 0 c) cs
unfolding own_sale is_party
some_cut_seller id cs ss h e =
    some_cut_all (is_party id) cs ss
    (all_by (own_sale id) (is_party id) (λ t k. or_l (eqb t.terms.seller id) (eqb t.terms.buyer id) (and_l (eqb t.terms.seller id) (bilateral_for_day t) k)) ss h) e

-- another user to those that it buys
pub some_cut_buyer : (id other : ℕ) → (other ≡ id → ⊥) → (cs : List ℕ) (ss : List Trade) → T (all (own_sale id) ss)
    → some_cut (is_party other) cs ss ≡ some_cut (λ s. eqb s.terms.buyer other) cs ss
unfolding own_sale is_party
some_cut_buyer id other n cs ss h =
    some_cut_same (own_sale id) (is_party other) (λ s. eqb s.terms.buyer other)
    (λ t k.
    let seller = eqb→eq t.terms.seller id (and_l (eqb t.terms.seller id) (bilateral_for_day t) k) in
    rw (ne_eqb t.terms.seller other (λ e. n (sym e ∙ seller))) refl) cs ss h

-- ---- eligible trades

-- a test of what each becomes
any_through : {A B : Type 0} (q : B → Bool) (f : A → B) (xs : List A) → any (λ x. q (f x)) xs ≡ any q (map f xs)
unfolding any
any_through q f [] = refl
any_through q f (x ∷ xs) = ap (λ (c : Bool). q (f x) || c) (any_through q f xs)

-- the user has an eligible trade where an own sale stands above 0
has_eligible_kept : (b : Book) (u : User) (p : Trade → Bool) → EligibleBy b u p → has_eligible b u ≡ any (λ n. ltb 0 n) (map (λ s. s.standing) (kept p b.trades))
unfolding has_eligible EligibleBy
has_eligible_kept b u p own =
    ap (λ (q : Trade → Bool). any q b.trades) (fun_ext own)
    ∙ any-kept p (λ t. ltb 0 t.standing) b.trades
    ∙ any_through (λ n. ltb 0 n) (λ t. t.standing) (kept p b.trades)

pub has_eligible_sales : (b : Book) (u : User) → has_eligible b u ≡ any (λ n. ltb 0 n) (map (λ s. s.standing) (sales_of (borne_book b).trades u.party.id))
unfolding borne_book borne_trade shut as_borne
has_eligible_sales b u =
    let own = own_sale u.party.id in
    let f = borne_trade b.users in
    has_eligible_kept b u (λ t. own (f t)) (own_eligible b u)
    ∙ ap (any (λ n. ltb 0 n)) (sym (ap (map (λ s. s.standing)) (kept_map own f b.trades) ∙ map-map (λ s. s.standing) f (kept (λ t. own (f t)) b.trades)))

-- ---- what was sold and bought for d+1

-- a trade for d+1 is not cut
next_one : (counts day : Bool) (s n : ℕ) → (T day → n ≡ s) → cond counts (cond day n 0) 0 ≡ cond counts (cond day s 0) 0
next_one true true s n h = h tt
next_one true false s n h = refl
next_one false day s n h = refl

not_of_day : {t n : Trade} (area : ℕ) → Framed t n → T (eqb t.terms.area area && eqb t.terms.day 1) → n.standing ≡ t.standing
unfolding bilateral_for_day
not_of_day {t} {n} area p h =
    let e = eqb→eq t.terms.day 1 (and_r (eqb t.terms.area area) (eqb t.terms.day 1) h) in
    p.other (rw (ne_eqb t.terms.day 0 (λ z. omega arith), and-false (eqb t.terms.kind 0)) tt)

-- trades that differ in what stands of kind 0 and day 0 only: for d+1 the same is dealt
pub next_framed : (side : Terms → ℕ) (counts : ℕ → Bool) (area : ℕ) {ts ns : List Trade} → Pairwise Framed ts ns → dealt side counts ns area 1 ≡ dealt side counts ts area 1
unfolding dealt sum
next_framed side counts area ended = refl
next_framed side counts area (then {t = t} {n = n} {ts = ts} {ns = ns} p ps) =
    rw p.terms
    (ap₂ (λ (x y : ℕ). x + y)
    (next_one (counts (side t.terms)) (eqb t.terms.area area && eqb t.terms.day 1) t.standing n.standing (not_of_day area p))
    (next_framed side counts area ps))

module _ (id area : ℕ) {ts ns : List Trade} (h : Pairwise Framed ts ns) where
  pub sold_next_lem : sold ns id area 1 ≡ sold ts id area 1
  unfolding sold
  sold_next_lem = next_framed (λ r. r.seller) (λ party. eqb party id) area h

  pub bought_next_lem : bought ns id area 1 ≡ bought ts id area 1
  unfolding bought
  bought_next_lem = next_framed (λ r. r.buyer) (λ party. eqb party id) area h

-- ---- levels and cover

-- a user's holdings after, where its record is v and before it was u
pub next_holding : (b n : Book) (u v : User) → v.party ≡ u.party → Pairwise Framed b.trades n.trades → (area : ℕ) (h : Holding)
    → h.position ≡ (own_holding n v area).position → h.sold_next ≡ (own_holding b u area).sold_next → h.bought_next ≡ (own_holding b u area).bought_next → SameNext h (own_holding n v area)
unfolding own_holding
next_holding b n u v e p area h z s t =
    record {
      position = z;
      sold = s ∙ sym (sold_next_lem u.party.id area p) ∙ ap (λ (q : Party). sold n.trades q.id area 1) (sym e);
      bought = t ∙ sym (bought_next_lem u.party.id area p) ∙ ap (λ (q : Party). bought n.trades q.id area 1) (sym e);
    }

module _ {g h : ℕ → Holding} (same : AllNext g h) where
  areas_next : (worth : ℕ → Holding → ℕ) → ((area : ℕ) → SameNext (g area) (h area) → worth area (g area) ≡ worth area (h area))
      → sum (λ area. worth area (g area)) areas ≡ sum (λ area. worth area (h area)) areas
  unfolding areas all
  areas_next worth e = sum_by (λ area. ltb area 3) (λ area t. e area (same.each area (ltb→lt area 3 t))) (0 ∷ 1 ∷ 2 ∷ []) tt

  pub exposure_next : (f : Prices) → exposure f g ≡ exposure f h
  unfolding exposure
  exposure_next f = areas_next (λ area x. neg_part x.position * reference_price_of f area) (λ area s. ap (λ (z : ℤ). neg_part z * reference_price_of f area) s.position)

  credit_next : (f : Prices) → credit f g ≡ credit f h
  unfolding credit
  credit_next f = areas_next (λ area x. pos_part x.position * selling_tariff_of f area) (λ area s. ap (λ (z : ℤ). pos_part z * selling_tariff_of f area) s.position)

  need_next : (area : ℕ) → SameNext (g area) (h area) → need_of_afternoon area (g area) ≡ need_of_afternoon area (h area)
  unfolding need_of_afternoon stock
  need_next area s = rw (s.position, s.sold, s.bought)

  pub afternoon_next : (f : Prices) (charges : ℤ) → afternoon_sum f g charges ≡ afternoon_sum f h charges
  unfolding afternoon_sum
  afternoon_next f charges =
      ap₂ (λ (z : ℤ) (n : ℕ). z -ℤ pos n)
      (ap₂ (λ (m n : ℕ). charges +ℤ pos m +ℤ pos n)
      (areas_next (λ area x. pos_part (need_of_afternoon area x) * reference_price_of f area) (λ area s. ap (λ (z : ℤ). pos_part z * reference_price_of f area) (need_next area s)))
      (exposure_next f))
      (credit_next f)

  module _ (limits : Limits) (f : Prices) (u : User) where
    pub level_next : level_from limits f u g ≡ level_from limits f u h
    level_next = ap (floored limits) (afternoon_next f u.party.charges)

    pub flagged_next : flagged_from limits f u g ≡ flagged_from limits f u h
    flagged_next = ap (λ (n : ℕ). ltb (limits.flag_mwh * lowest_reference_price f + u.blocked) n) (exposure_next f)

    pub short_next : (cut : Bool) → short_from limits f u g cut ≡ short_from limits f u h cut
    unfolding short_from
    short_next cut = rw (level_next, flagged_next)

-- by the book as its risk is borne
module _ (limits : Limits) (b : Book) (u : User) where
  pub target_from : target limits b u ≡ level_from limits b.header.prices (borne_user b.users u) (own_holding (borne_book b) (borne_user b.users u)) - u.party.assigned
  unfolding target afternoon_level borne_user
  target_from = ap (λ (h : ℕ → Holding). level_from limits b.header.prices u h - u.party.assigned) (fun_ext (held_borne b u))

  -- party to a trade standing below notified, as it is borne
  pub cut_borne_before : any (λ t. party_to b u t && ltb t.standing t.terms.notified) b.trades ≡ cut_before u.party.id (borne_book b).trades
  unfolding party_to cut_before is_cut borne_book borne_trade shut as_borne
  cut_borne_before = any_through (is_cut u.party.id) (borne_trade b.users) b.trades

  pub short_from_lem : short_of_cover limits b u ≡ short_from limits b.header.prices (borne_user b.users u) (own_holding (borne_book b) (borne_user b.users u)) (cut_before u.party.id (borne_book b).trades)
  unfolding short_of_cover short_from afternoon_level called_in flagged borne_user shipper exceeds_its_margin
  short_from_lem =
      ap₂ (λ (h : ℕ → Holding) (cut : Bool). short_from limits b.header.prices u h cut) (fun_ext (held_borne b u)) cut_borne_before
