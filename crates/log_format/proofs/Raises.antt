-- Question 19 by sums over the entries: the last entry fits by itself, and what an entry's cuts left can be raised by them again. Assumes nothing.
use Rattle.base.specs.Basics.{◌≡◌, Bool, true, ◌||◌, List, [], ◌∷◌, ℕ, ◌+◌, ◌-◌, ◌≤◌, arith, T, eqb, leb, leb→le, le→leb, length, replicate}
use Rattle.base.proofs.Tests.{and_i, and_l, and_r, eqb_of, or_l, or_r, by_case, fails, holds}
use Rattle.base.specs.Lists.{all}
use Rattle.laws.proofs.Reduction.{cut_le, none_unless}
use Rattle.laws.specs.Trades.{cut_within, cuts_within}
use Rattle.rules.specs.{Book.Trade, Book.User, Book.bilateral_for_day, Questions.amounts_valid, Questions.codes_valid, Questions.parties_valid, Questions.trade_is_valid}
use Rattle.rules.specs.Reduction.{cut_all, cut_by, together}
use Rattle.log_format.specs.Fits.{raise_within, raises_within}

-- ---- an entry and the others

zero_or : (c d : ℕ) (p : Bool) → T (eqb (c + d) 0 || p) → T (eqb c 0 || p)
zero_or c d p h =
    by_case p (λ e. or_r (eqb c 0) p (holds e)) (λ e. or_l (eqb c 0) p (eqb_of c 0 (omega (arith, none_unless (c + d) p h (fails e)))))

module _ (c d : ℕ) (t : Trade) (h : T (raise_within (c + d) t)) where
  both_within : t.standing + (c + d) ≤ t.terms.notified
  unfolding raise_within
  both_within =
      leb→le (t.standing + (c + d)) t.terms.notified
      (and_l (leb (t.standing + (c + d)) t.terms.notified) (eqb (c + d) 0 || bilateral_for_day t) h)

  both_kind : T (eqb (c + d) 0 || bilateral_for_day t)
  unfolding raise_within
  both_kind = and_r (leb (t.standing + (c + d)) t.terms.notified) (eqb (c + d) 0 || bilateral_for_day t) h

  raise_first : T (raise_within c t)
  unfolding raise_within
  raise_first =
      let l = both_within in
      and_i (leb (t.standing + c) t.terms.notified) (eqb c 0 || bilateral_for_day t) (le→leb (t.standing + c) t.terms.notified (omega arith))
      (zero_or c d (bilateral_for_day t) both_kind)

-- the entry that is withdrawn fits by itself
pub raises_first : (cs ds : List ℕ) (ts : List Trade) → length ds ≡ length cs → T (raises_within (together cs ds) ts) → T (raises_within cs ts)
unfolding raises_within together
raises_first [] ds [] e h = tt
raises_first [] ds (t ∷ ts) e h = absurd h
raises_first (c ∷ cs) [] ts e h = absurd (omega arith)
raises_first (c ∷ cs) (d ∷ ds) [] e h = absurd h
raises_first (c ∷ cs) (d ∷ ds) (t ∷ ts) e h =
    and_i (raise_within c t) (raises_within cs ts) (raise_first c d t (and_l (raise_within (c + d) t) (raises_within (together cs ds) ts) h))
    (raises_first cs ds ts (omega arith) (and_r (raise_within (c + d) t) (raises_within (together cs ds) ts) h))

-- ---- entries that were cut

-- a trade of an accepted book stands within notified, so no cut at all fits it
none_within : (us : List User) (t : Trade) → T (trade_is_valid us t) → T (raise_within 0 t)
unfolding raise_within trade_is_valid parties_valid codes_valid amounts_valid
none_within us t h =
    let l : T (leb t.standing t.terms.notified) = search (and_l, and_r) in
    let k = leb→le t.standing t.terms.notified l in
    and_i (leb (t.standing + 0) t.terms.notified) true (le→leb (t.standing + 0) t.terms.notified (omega arith)) tt

pub none_raised : (us : List User) (ts : List Trade) → T (all (trade_is_valid us) ts) → T (raises_within (replicate (length ts) 0) ts)
unfolding raises_within all
none_raised us [] h = tt
none_raised us (t ∷ ts) h =
    and_i (raise_within 0 t) (raises_within (replicate (length ts) 0) ts) (none_within us t (and_l (trade_is_valid us t) (all (trade_is_valid us) ts) h))
    (none_raised us ts (and_r (trade_is_valid us t) (all (trade_is_valid us) ts) h))

-- what is cut beside what fits already fits the trade that it leaves
cut_within_lem : (c d : ℕ) (t : Trade) → T (cut_within bilateral_for_day c t) → T (raise_within d t) → T (raise_within (c + d) (cut_by c t))
unfolding raise_within cut_within cut_by bilateral_for_day
cut_within_lem c d t h k =
    let l = cut_le bilateral_for_day c t h in
    let m = leb→le (t.standing + d) t.terms.notified (and_l (leb (t.standing + d) t.terms.notified) (eqb d 0 || bilateral_for_day t) k) in
    and_i (leb (t.standing - c + (c + d)) t.terms.notified) (eqb (c + d) 0 || bilateral_for_day t)
    (le→leb (t.standing - c + (c + d)) t.terms.notified (omega arith))
    (by_case (bilateral_for_day t) (λ e. or_r (eqb (c + d) 0) (bilateral_for_day t) (holds e))
    (λ e.
    let m = none_unless c (bilateral_for_day t) (and_r (leb c t.standing) (eqb c 0 || bilateral_for_day t) h) (fails e) in
    let n = none_unless d (bilateral_for_day t) (and_r (leb (t.standing + d) t.terms.notified) (eqb d 0 || bilateral_for_day t) k) (fails e) in
    or_l (eqb (c + d) 0) (bilateral_for_day t) (eqb_of (c + d) 0 (omega arith))))

pub cuts_raised : (cs ds : List ℕ) (ts : List Trade) → T (cuts_within bilateral_for_day cs ts) → T (raises_within ds ts) → T (raises_within (together cs ds) (cut_all cs ts))
unfolding raises_within cuts_within cut_all together
cuts_raised [] [] [] h k = tt
cuts_raised [] (d ∷ ds) [] h k = absurd k
cuts_raised [] ds (t ∷ ts) h k = absurd h
cuts_raised (c ∷ cs) ds [] h k = absurd h
cuts_raised (c ∷ cs) [] (t ∷ ts) h k = absurd k
cuts_raised (c ∷ cs) (d ∷ ds) (t ∷ ts) h k =
    let w = cut_within bilateral_for_day c t in
    and_i (raise_within (c + d) (cut_by c t)) (raises_within (together cs ds) (cut_all cs ts))
    (cut_within_lem c d t (and_l w (cuts_within bilateral_for_day cs ts) h) (and_l (raise_within d t) (raises_within ds ts) k))
    (cuts_raised cs ds ts (and_r w (cuts_within bilateral_for_day cs ts) h) (and_r (raise_within d t) (raises_within ds ts) k))
