-- Positions after the cuts of a reduction: a trade that loses nothing moves nobody, so the own sales alone settle them; sale by sale, and by the places of the
-- users. Assumes nothing.
use Rattle.base.specs.Basics.{◌≡◌, refl, sym, ap, ap₂, ◌∙◌, Bool, cond, List, [], ◌∷◌, map, ℕ, zero, suc, ◌≤◌, ◌<◌, le_of_eq, not-suc-le-zero, le_of_suc-le-suc}
use Rattle.base.specs.Basics.{arith, T, eqb, ltb, ltb→lt, eqb-zero-suc, eqb-suc-zero, eqb-suc-suc, ℤ, pos, neg_ℤ, +ℤ_idr, length, take, get_or, set, length-map}
use Rattle.base.specs.Basics.{get_or-map, eq-eqb, ne_eqb}
use Rattle.base.proofs.{Linear.eq_parts, Linear.pos_part-pos, Linear.neg_part-pos, Tests.and_l, Tests.and_r, Tests.by_test, Tests.by_case}
use Rattle.laws.proofs.{Trades.parts_lost, Users.change_absent, Users.ids_rise-map}
use Rattle.rules.specs.{Book.Party, Book.PerArea, Book.User, Book.Trade, Book.nobody, Questions.ids_rise}
use Rattle.rules.specs.{Changes.add, Changes.change, Changes.moved, Reduction.cut_by, Reduction.cut_all, Reduction.lost, Reduction.settle_one, Reduction.settle}
use Rattle.laws_sales.proofs.{Cuts.cut_zero, Cuts.cut_nobody, Cuts.cut_yes, Cuts.cut_no, Kept.kept_yes, Kept.kept_no}
use Rattle.laws_sales.specs.{Kept.kept, Kept.spread, Sales.settled_at}

-- ---- a trade that loses nothing

-- what a cut takes off
pub lost_cut : (c : ℕ) (t : Trade) → c ≤ t.standing → lost t (cut_by c t) ≡ pos c
unfolding cut_by
lost_cut c t h = eq_parts (lost t (cut_by c t)) (pos c) (omega (arith, parts_lost t (cut_by c t), pos_part-pos c, neg_part-pos c))

lost_none : (t : Trade) → lost t t ≡ pos 0
lost_none t = ap (lost t) (sym (cut_zero t)) ∙ lost_cut 0 t (omega arith)

add_none : (v : PerArea) (area : ℕ) → add v area (pos 0) ≡ v
unfolding add
add_none v zero = ap (λ (z : ℤ). record { pvb = z; tvb = v.tvb; avb = v.avb }) (+ℤ_idr v.pvb)
add_none v (suc zero) = ap (λ (z : ℤ). record { pvb = v.pvb; tvb = z; avb = v.avb }) (+ℤ_idr v.tvb)
add_none v (suc (suc area)) = ap (λ (z : ℤ). record { pvb = v.pvb; tvb = v.tvb; avb = z }) (+ℤ_idr v.avb)

-- a move by nothing
pub move_none : (area : ℕ) (u : User) → moved area (pos 0) u ≡ u
unfolding moved
move_none area u = ap (λ (v : PerArea). record { party = u.party; physical = u.physical; position = v; blocked = u.blocked }) (add_none u.position area)

-- a change that leaves a user leaves all
change_none : (id : ℕ) (f : User → User) → ((u : User) → f u ≡ u) → (us : List User) → change id f us ≡ us
unfolding change
change_none id f e [] = refl
change_none id f e (u ∷ us) =
    ap₂ (λ (v : User) (vs : List User). v ∷ vs) (by_test (λ (v : User). v ≡ u) (eqb u.party.id id) (λ t. e u) (λ t. refl)) (change_none id f e us)

pub settle_one_none : (t : Trade) (us : List User) → settle_one t t us ≡ us
unfolding settle_one
settle_one_none t us =
    rw (lost_none t)
    (change_none t.terms.buyer (moved t.terms.area (pos 0)) (move_none t.terms.area) (change t.terms.seller (moved t.terms.area (pos 0)) us)
    ∙ change_none t.terms.seller (moved t.terms.area (pos 0)) (move_none t.terms.area) us)

pub settle_none : (ts : List Trade) (us : List User) → settle ts ts us ≡ us
unfolding settle
settle_none [] us = refl
settle_none (t ∷ ts) us = ap (settle ts ts) (settle_one_none t us) ∙ settle_none ts us

-- trades that are cut only where they pass a test: those that pass settle the positions
pub settle-kept : (p : Trade → Bool) (ts : List Trade) (cs : List ℕ) (us : List User)
    → settle ts (cut_all (spread p ts cs) ts) us ≡ settle (kept p ts) (cut_all cs (kept p ts)) us
unfolding settle spread cut_all kept
settle-kept p ts [] us = ap (λ (ns : List Trade). settle ts ns us) (cut_nobody p ts) ∙ settle_none ts us ∙ sym (settle_none (kept p ts) us)
settle-kept p [] (c ∷ cs) us = refl
settle-kept p (t ∷ ts) (c ∷ cs) us =
    by_case (p t)
    (λ e. ap (λ (ns : List Trade). settle (t ∷ ts) ns us) (cut_yes p t ts c cs e)
    ∙ settle-kept p ts cs (settle_one t (cut_by c t) us)
    ∙ ap (λ (ss : List Trade). settle ss (cut_all (c ∷ cs) ss) us) (sym (kept_yes p t ts e)))
    (λ e. ap (λ (ns : List Trade). settle (t ∷ ts) ns us) (cut_no p t ts (c ∷ cs) e)
    ∙ ap (settle ts (cut_all (spread p ts (c ∷ cs)) ts)) (settle_one_none t us)
    ∙ settle-kept p ts (c ∷ cs) us
    ∙ ap (λ (ss : List Trade). settle ss (cut_all (c ∷ cs) ss) us) (sym (kept_no p t ts e)))

-- ---- sale by sale

-- one cut more from the front, after those before it
pub settle_front : (cs : List ℕ) (ss : List Trade) (us : List User) (i : ℕ) (d : Trade) → i < length ss → i < length cs
    → settle ss (cut_all (take (suc i) cs) ss) us ≡ settle_one (get_or ss i d) (cut_by (get_or cs i 0) (get_or ss i d)) (settle ss (cut_all (take i cs) ss) us)
unfolding settle cut_all
settle_front cs [] us i d h k = absurd (not-suc-le-zero h)
settle_front [] (s ∷ ss) us i d h k = absurd (not-suc-le-zero k)
settle_front (c ∷ cs) (s ∷ ss) us zero d h k =
    settle_none ss (settle_one s (cut_by c s) us) ∙ ap (settle_one s (cut_by c s)) (sym (settle_none (s ∷ ss) us))
settle_front (c ∷ cs) (s ∷ ss) us (suc i) d h k = settle_front cs ss (settle_one s (cut_by c s) us) i d (le_of_suc-le-suc h) (le_of_suc-le-suc k)

-- the seller's position rises by the cut and the buyer's falls
pub settle_one_cut : (c : ℕ) (t : Trade) (us : List User) → c ≤ t.standing
    → settle_one t (cut_by c t) us
    ≡ change t.terms.buyer (moved t.terms.area (neg_ℤ (pos c))) (change t.terms.seller (moved t.terms.area (pos c)) us)
unfolding settle_one
settle_one_cut c t us h = rw (lost_cut c t h)

-- ---- the users by their places

-- ids above a least one stay above it
pub ids_above : (us : List User) (low i : ℕ) (d : User) → T (ids_rise low us) → i < length us → low < (get_or us i d).party.id
unfolding ids_rise
ids_above [] low i d r h = absurd (not-suc-le-zero h)
ids_above (u ∷ us) low zero d r h = ltb→lt low u.party.id (and_l (ltb low u.party.id) (ids_rise u.party.id us) r)
ids_above (u ∷ us) low (suc i) d r h =
    let l = ltb→lt low u.party.id (and_l (ltb low u.party.id) (ids_rise u.party.id us) r) in
    let m = ids_above us u.party.id i d (and_r (ltb low u.party.id) (ids_rise u.party.id us) r) (le_of_suc-le-suc h) in
    omega arith

-- users at two places have one id where the places are one
pub same_place : (us : List User) (low i j : ℕ) (d : User) → T (ids_rise low us) → i < length us → j < length us
    → eqb (get_or us i d).party.id (get_or us j d).party.id ≡ eqb i j
unfolding ids_rise
same_place [] low i j d r h k = absurd (not-suc-le-zero h)
same_place (u ∷ us) low zero zero d r h k = eq-eqb u.party.id u.party.id refl
same_place (u ∷ us) low zero (suc j) d r h k =
    let l = ids_above us u.party.id j d (and_r (ltb low u.party.id) (ids_rise u.party.id us) r) (le_of_suc-le-suc k) in
    ne_eqb u.party.id (get_or us j d).party.id (λ e. omega arith) ∙ sym (eqb-zero-suc j)
same_place (u ∷ us) low (suc i) zero d r h k =
    let l = ids_above us u.party.id i d (and_r (ltb low u.party.id) (ids_rise u.party.id us) r) (le_of_suc-le-suc h) in
    ne_eqb (get_or us i d).party.id u.party.id (λ e. omega arith) ∙ sym (eqb-suc-zero i)
same_place (u ∷ us) low (suc i) (suc j) d r h k =
    same_place us u.party.id i j d (and_r (ltb low u.party.id) (ids_rise u.party.id us) r) (le_of_suc-le-suc h) (le_of_suc-le-suc k) ∙ sym (eqb-suc-suc i j)

-- ids stand in their order, and one user has an id: a change of the user of an id is a change at its place
pub change_at : (f : User → User) (us : List User) (low i : ℕ) (d : User) → T (ids_rise low us) → i < length us
    → change (get_or us i d).party.id f us ≡ set us i (f (get_or us i d))
unfolding change ids_rise
change_at f [] low i d r h = absurd (not-suc-le-zero h)
change_at f (u ∷ us) low zero d r h =
    rw (eq-eqb u.party.id u.party.id refl)
    (ap (λ (vs : List User). f u ∷ vs) (change_absent f us u.party.id u.party.id (le_of_eq refl) (and_r (ltb low u.party.id) (ids_rise u.party.id us) r)))
change_at f (u ∷ us) low (suc i) d r h =
    let rest = and_r (ltb low u.party.id) (ids_rise u.party.id us) r in
    rw (ne_eqb u.party.id (get_or us i d).party.id (λ e. omega (arith, ids_above us u.party.id i d rest (le_of_suc-le-suc h))))
    (ap (λ (vs : List User). u ∷ vs) (change_at f us u.party.id i d rest (le_of_suc-le-suc h)))

-- the same, for an id that stands at the place
pub change_placed : (f : User → User) (us : List User) (low id i : ℕ) (d : User) → T (ids_rise low us) → i < length us → (get_or us i d).party.id ≡ id
    → change id f us ≡ set us i (f (get_or us i d))
change_placed f us low id i d r h e = ap (λ (n : ℕ). change n f us) (sym e) ∙ change_at f us low i d r h

-- no change of a position changes who a user is
pub change_parties : (id : ℕ) (f : User → User) → ((u : User) → (f u).party ≡ u.party) → (us : List User) → map (λ u. u.party) (change id f us) ≡ map (λ u. u.party) us
unfolding change
change_parties id f e [] = refl
change_parties id f e (u ∷ us) =
    ap₂ (λ (q : Party) (qs : List Party). q ∷ qs)
    (by_test (λ (v : User). v.party ≡ u.party) (eqb u.party.id id) (λ t. e u) (λ t. refl)) (change_parties id f e us)

pub move_parties : (id area : ℕ) (z : ℤ) (us : List User) → map (λ u. u.party) (change id (moved area z) us) ≡ map (λ u. u.party) us
unfolding moved
move_parties id area z us = change_parties id (moved area z) (λ u. refl) us

-- users with the same parties have the same at each place
pub party_at : (us vs : List User) → map (λ u. u.party) vs ≡ map (λ u. u.party) us → (i : ℕ) (d : User) → (get_or vs i d).party ≡ (get_or us i d).party
party_at us vs e i d =
    sym (get_or-map (λ (u : User). u.party) vs i d) ∙ ap (λ (ps : List Party). get_or ps i d.party) e ∙ get_or-map (λ (u : User). u.party) us i d

-- and ids in the same order
pub move_rise : (id area : ℕ) (z : ℤ) (low : ℕ) (us : List User) → ids_rise low (change id (moved area z) us) ≡ ids_rise low us
unfolding change moved
move_rise id area z low us =
    ids_rise-map (λ u. cond (eqb u.party.id id) (moved area z u) u)
    (λ u. by_test (λ (v : User). v.party ≡ u.party) (eqb u.party.id id) (λ t. refl) (λ t. refl)) low us

pub settle_one_rise : (t n : Trade) (low : ℕ) (us : List User) → ids_rise low (settle_one t n us) ≡ ids_rise low us
unfolding settle_one
settle_one_rise t n low us =
    move_rise t.terms.buyer t.terms.area (neg_ℤ (lost t n)) low (change t.terms.seller (moved t.terms.area (lost t n)) us)
    ∙ move_rise t.terms.seller t.terms.area (lost t n) low us

pub settle_one_parties : (t n : Trade) (us : List User) → map (λ u. u.party) (settle_one t n us) ≡ map (λ u. u.party) us
unfolding settle_one
settle_one_parties t n us =
    move_parties t.terms.buyer t.terms.area (neg_ℤ (lost t n)) (change t.terms.seller (moved t.terms.area (lost t n)) us)
    ∙ move_parties t.terms.seller t.terms.area (lost t n) us

pub settle_parties : (ts ns : List Trade) (us : List User) → map (λ u. u.party) (settle ts ns us) ≡ map (λ u. u.party) us
unfolding settle
settle_parties [] ns us = refl
settle_parties (t ∷ ts) [] us = refl
settle_parties (t ∷ ts) (n ∷ ns) us = settle_parties ts ns (settle_one t n us) ∙ settle_one_parties t n us

-- a cut at the places of its seller and its buyer
pub settle_one_at : (c : ℕ) (t : Trade) (us : List User) (low seller buyer : ℕ) → T (ids_rise low us) → seller < length us → buyer < length us
    → (get_or us seller nobody).party.id ≡ t.terms.seller → (get_or us buyer nobody).party.id ≡ t.terms.buyer → c ≤ t.standing
    → settle_one t (cut_by c t) us ≡ settled_at seller buyer t.terms.area c us
unfolding settled_at
settle_one_at c t us low seller buyer r h k e g l =
    let risen = change t.terms.seller (moved t.terms.area (pos c)) us in
    let first : risen ≡ set us seller (moved t.terms.area (pos c) (get_or us seller nobody))
    = change_placed (moved t.terms.area (pos c)) us low t.terms.seller seller nobody r h e in
    let same = move_parties t.terms.seller t.terms.area (pos c) us in
    let long : length risen ≡ length us
    = sym (length-map risen (λ u. u.party)) ∙ ap length same ∙ length-map us (λ u. u.party) in
    settle_one_cut c t us l
    ∙ change_placed (moved t.terms.area (neg_ℤ (pos c))) risen low t.terms.buyer buyer nobody
    (rw (move_rise t.terms.seller t.terms.area (pos c) low us) r) (omega arith)
    (ap (λ (q : Party). q.id) (party_at us risen same buyer nobody) ∙ g)
    ∙ ap (λ (vs : List User). set vs buyer (moved t.terms.area (neg_ℤ (pos c)) (get_or vs buyer nobody))) first

pub settle_rise : (ts ns : List Trade) (low : ℕ) (us : List User) → ids_rise low (settle ts ns us) ≡ ids_rise low us
unfolding settle
settle_rise [] ns low us = refl
settle_rise (t ∷ ts) [] low us = refl
settle_rise (t ∷ ts) (n ∷ ns) low us = settle_rise ts ns low (settle_one t n us) ∙ settle_one_rise t n low us
