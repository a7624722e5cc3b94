-- A withdrawal leaves an accepted book, takes its cuts off the totals, and gives back the book before the reduction. Assumes nothing.
use Rattle.base.specs.Basics.{◌≡◌, refl, sym, ap, ap₂, subst, ◌∙◌, not, ◌&&◌, ◌||◌, List, [], ◌∷◌, map-map, ℕ, ◌+◌, ◌-◌, arith, T, eqb, leb, ℤ, pos, neg_ℤ, ◌+ℤ◌}
use Rattle.base.specs.Basics.{map-id}
use Rattle.base.proofs.Linear.{eq_parts, neg_part-neg, neg_part-pos, parts_add, pos_part-neg, pos_part-pos}
use Rattle.base.proofs.Tests.{and_i, and_l, and_r, map_by}
use Rattle.base.specs.{Lists.all, Parts.neg_part, Parts.pos_part, Sums.sum}
use Rattle.laws.proofs.{Moved.Moved, Settle.retraded_anew, Settle.retraded_moved, Settle.retraded_sound}
use Rattle.laws.proofs.{Positions.position_is, Reduction.cut_le, Reduction.cuts_lowered, Reduction.cuts_sound, Reduction.still_valid, Reduction.none_unless}
use Rattle.laws.proofs.Trades.{framed, framed_refl, left_mwh_lem, left_trans, left_worth_lem, left_worth_trans, pairs_refl, standing_worth}
use Rattle.laws.specs.{Books.anew, Books.repositioned, Sound.Sound}
use Rattle.laws.specs.Trades.{ended, then, Framed, Pairwise, cut_within, cuts_within, left_mwh, left_worth}
use Rattle.rules.specs.{Areas.Prices, Questions.amounts_valid, Questions.codes_valid, Questions.parties_valid, Questions.positions_are_valid, Questions.trade_is_valid}
use Rattle.rules.specs.Book.{Book, Terms, Trade, User, at, bilateral_for_day, defined_position}
use Rattle.rules.specs.Reduction.{Tally, cut_all, cut_by, nothing, tallied, tally_all, with_trades}
use Rattle.log_format.specs.Fits.{raise_within, raises_within}
use Rattle.log_format.specs.Withdrawal.{raise_all, raise_by, withdrawn, withdrawn_tally}

-- ---- trades that rise

-- a trade of another kind or day does not
raise_none : (c : ℕ) (t : Trade) → T (raise_within c t) → T (not (bilateral_for_day t)) → c ≡ 0
unfolding raise_within
raise_none c t h k = none_unless c (bilateral_for_day t) (and_r (leb (t.standing + c) t.terms.notified) (eqb c 0 || bilateral_for_day t) h) k

raises_framed : (cs : List ℕ) (ts : List Trade) → T (raises_within cs ts) → Pairwise Framed ts (raise_all cs ts)
unfolding raise_all raises_within raise_by
raises_framed [] [] h = ended
raises_framed [] (t ∷ ts) h = absurd h
raises_framed (c ∷ cs) [] h = absurd h
raises_framed (c ∷ cs) (t ∷ ts) h =
    then {n = raise_by c t} (record { terms = refl; other = λ k. let z = raise_none c t (and_l (raise_within c t) (raises_within cs ts) h) k in omega arith })
    (raises_framed cs ts (and_r (raise_within c t) (raises_within cs ts) h))

module _ (f : Prices) where
  raises_mwh : (cs : List ℕ) (ts : List Trade) (y : Tally) → T (raises_within cs ts)
      → sum (λ t. t.standing) (raise_all cs ts) + y.mwh ≡ sum (λ t. t.standing) ts + (tally_all f cs ts y).mwh
  unfolding raise_all raises_within tally_all tallied sum raise_by
  raises_mwh [] [] y h = refl
  raises_mwh [] (t ∷ ts) y h = absurd h
  raises_mwh (c ∷ cs) [] y h = absurd h
  raises_mwh (c ∷ cs) (t ∷ ts) y h = omega (arith, raises_mwh cs ts (tallied f c t y) (and_r (raise_within c t) (raises_within cs ts) h))

  raises_worth : (cs : List ℕ) (ts : List Trade) (y : Tally) → T (raises_within cs ts)
      → sum (standing_worth f) (raise_all cs ts) + y.worth ≡ sum (standing_worth f) ts + (tally_all f cs ts y).worth
  unfolding raise_all raises_within tally_all tallied sum standing_worth raise_by
  raises_worth [] [] y h = refl
  raises_worth [] (t ∷ ts) y h = absurd h
  raises_worth (c ∷ cs) [] y h = absurd h
  raises_worth (c ∷ cs) (t ∷ ts) y h = omega (arith, raises_worth cs ts (tallied f c t y) (and_r (raise_within c t) (raises_within cs ts) h))

raise_valid : (us : List User) (c : ℕ) (t : Trade) → T (raise_within c t) → T (trade_is_valid us t) → T (trade_is_valid us (raise_by c t))
unfolding trade_is_valid parties_valid codes_valid amounts_valid raise_by bilateral_for_day raise_within
raise_valid us c t h k =
    let new : T (leb (t.standing + c) t.terms.notified) = and_l (leb (t.standing + c) t.terms.notified) (eqb c 0 || bilateral_for_day t) h in
    let was : T (bilateral_for_day t || eqb t.standing t.terms.notified) = search (and_l, and_r) in
    let now : T (bilateral_for_day t || eqb (t.standing + c) t.terms.notified) = still_valid (bilateral_for_day t) t.standing t.terms.notified (t.standing + c) (λ n. let z = raise_none c t h n in omega arith) was in
    search (and_l, and_r, and_i)

raises_valid : (us : List User) (cs : List ℕ) (ts : List Trade) → T (raises_within cs ts) → T (all (trade_is_valid us) ts) → T (all (trade_is_valid us) (raise_all cs ts))
unfolding raise_all raises_within all
raises_valid us [] [] h k = tt
raises_valid us [] (t ∷ ts) h k = absurd h
raises_valid us (c ∷ cs) [] h k = absurd h
raises_valid us (c ∷ cs) (t ∷ ts) h k =
    and_i (trade_is_valid us (raise_by c t)) (all (trade_is_valid us) (raise_all cs ts))
    (raise_valid us c t (and_l (raise_within c t) (raises_within cs ts) h) (and_l (trade_is_valid us t) (all (trade_is_valid us) ts) k))
    (raises_valid us cs ts (and_r (raise_within c t) (raises_within cs ts) h) (and_r (trade_is_valid us t) (all (trade_is_valid us) ts) k))

-- ---- the way back

pairs_sym : {ts ns : List Trade} → Pairwise Framed ts ns → Pairwise Framed ns ts
unfolding bilateral_for_day
pairs_sym ended = ended
pairs_sym (then {t = t} {n = n} p ps) =
    then (record { terms = sym p.terms; other = λ (h : T (not (bilateral_for_day n))). sym (p.other (subst (λ (r : Terms). T (not (eqb r.kind 0 && eqb r.day 0))) p.terms h)) }) (pairs_sym ps)

-- what comes to 0 with m more is m below 0
below : (x : ℤ) (m : ℕ) → x +ℤ pos m ≡ pos 0 → x ≡ neg_ℤ (pos m)
below x m e =
    let p : pos_part (x +ℤ pos m) ≡ 0 = ap pos_part e ∙ pos_part-pos 0 in
    let n : neg_part (x +ℤ pos m) ≡ 0 = ap neg_part e ∙ neg_part-pos 0 in
    eq_parts x (neg_ℤ (pos m)) (omega (arith, parts_add x (pos m), pos_part-neg (pos m), neg_part-neg (pos m), pos_part-pos m, neg_part-pos m))

-- ---- a withdrawal

module _ (b : Book) (cs : List ℕ) (s : Sound b) (h : T (raises_within cs b.trades)) where
  -- it leaves an accepted book
  pub withdrawn_sound : Sound (withdrawn b cs)
  unfolding withdrawn
  withdrawn_sound = retraded_sound b (raise_all cs b.trades) s (raises_framed cs b.trades h) (raises_valid b.users cs b.trades h s.trades)

  -- what it moves: its MWh and worth come back, physical entries stay, and with them what positions sum to
  pub withdrawn_moved : let tally = withdrawn_tally b cs in Moved b (withdrawn b cs) (λ a. pos 0) (neg_ℤ (pos tally.mwh)) (neg_ℤ (pos tally.worth))
  unfolding withdrawn withdrawn_tally nothing
  withdrawn_moved =
      let f = b.header.prices in
      let ts = b.trades in
      let ns = raise_all cs ts in
      let tally = tally_all f cs ts nothing in
      let k = raises_framed cs ts h in
      let r = pairs_sym k in
      let z : Pairwise Framed ts ts = pairs_refl framed_refl ts in
      let up : left_mwh ns ts ≡ pos tally.mwh = left_mwh_lem tally.mwh r (omega (arith, raises_mwh f cs ts nothing h)) in
      let dear : left_worth f ns ts ≡ pos tally.worth = left_worth_lem f tally.worth r (omega (arith, raises_worth f cs ts nothing h)) in
      retraded_moved b ns s k
      (below (left_mwh ts ns) tally.mwh (ap (λ (x : ℤ). left_mwh ts ns +ℤ x) (sym up) ∙ sym (left_trans k r) ∙ left_mwh_lem 0 z (omega arith)))
      (below (left_worth f ts ns) tally.worth (ap (λ (x : ℤ). left_worth f ts ns +ℤ x) (sym dear) ∙ sym (left_worth_trans f k r) ∙ left_worth_lem f 0 z (omega arith)))

-- ---- withdrawing gives the book back

repositioned_is : (ts : List Trade) (v : User) → T (positions_are_valid ts v) → repositioned ts v ≡ v
unfolding repositioned at
repositioned_is ts v p =
    rw (← position_is ts v 0 (omega arith) p, ← position_is ts v 1 (omega arith) p, ← position_is ts v 2 (omega arith) p)

twice_repositioned : (ts ns : List Trade) (v : User) → repositioned ts (repositioned ns v) ≡ repositioned ts v
unfolding repositioned defined_position
twice_repositioned ts ns v = refl

-- the trades as they were give the book as it was
anew_back : (b : Book) (ns : List Trade) → Sound b → Pairwise Framed b.trades ns → Sound (with_trades b ns) → with_trades (with_trades b ns) b.trades ≡ b
unfolding anew
anew_back b ns s h k =
    retraded_anew (with_trades b ns) b.trades k (subst (λ (n : Book). Pairwise Framed n.trades b.trades) (sym (retraded_anew b ns s h)) (pairs_sym h))
    ∙ ap (λ (n : Book). anew n b.trades) (retraded_anew b ns s h)
    ∙ ap (λ (us : List User). record { header = b.header; users = us; trades = b.trades })
    (map-map (repositioned b.trades) (repositioned ns) b.users
    ∙ map_by (positions_are_valid b.trades) (λ v. repositioned b.trades (repositioned ns v)) (λ v. v) (λ v p. twice_repositioned b.trades ns v ∙ repositioned_is b.trades v p) b.users s.positions
    ∙ map-id b.users)

same_standing : (t : Trade) (n : ℕ) → n ≡ t.standing → ◌≡◌ {A = Trade} (record { terms = t.terms; standing = n }) t
same_standing t n e = ap (λ (m : ℕ). record { terms = t.terms; standing = m }) e

raise_cut : (cs : List ℕ) (ts : List Trade) → T (cuts_within bilateral_for_day cs ts) → raise_all cs (cut_all cs ts) ≡ ts
unfolding raise_all cut_all cuts_within raise_by cut_by
raise_cut [] [] h = refl
raise_cut [] (t ∷ ts) h = refl
raise_cut (c ∷ cs) [] h = refl
raise_cut (c ∷ cs) (t ∷ ts) h =
    let w = cut_within bilateral_for_day c t in
    let l = cut_le bilateral_for_day c t (and_l w (cuts_within bilateral_for_day cs ts) h) in
    ap₂ (λ (x : Trade) (xs : List Trade). x ∷ xs) (same_standing t (t.standing - c + c) (omega arith)) (raise_cut cs ts (and_r w (cuts_within bilateral_for_day cs ts) h))

pub withdrawn_back : (b : Book) (cs : List ℕ) → Sound b → T (cuts_within bilateral_for_day cs b.trades) → withdrawn (with_trades b (cut_all cs b.trades)) cs ≡ b
unfolding withdrawn with_trades
withdrawn_back b cs s h =
    let k = framed (cuts_lowered cs b.trades h) in
    ap (λ (ts : List Trade). with_trades (with_trades b (cut_all cs b.trades)) ts) (raise_cut cs b.trades h) ∙ anew_back b (cut_all cs b.trades) s k (cuts_sound b cs s h)
