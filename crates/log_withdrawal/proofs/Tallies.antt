-- The tally of an entry's cuts, trade by trade: what is left to tally, tallied, gives the whole. Assumes nothing.
use Rattle.base.specs.Basics.{◌≡◌, sym, ap, ◌∙◌, List, ℕ, suc, ◌+◌, ◌*◌, ◌≤◌, ◌<◌, add-one, arith, length, get_or, drop, drop_of_length-le, drop-cons}
use Rattle.cut_worth.specs.Tallies.{as_tally}
use Rattle.cut_worth.specs.declared.Tally.{Tally}
use Rattle.rules.specs.Areas.{Prices}
use Rattle.rules.specs.Book.{Trade, no_trade}
use Rattle.rules.specs.Reduction.{nothing, tallied, tally_all}

-- the first k cuts are tallied
pub record TalliedTo (f : Prices) (cs : List ℕ) (ts : List Trade) (y : Tally) (k : ℕ) : Type 0 where
  pub left : tally_all f (drop k cs) (drop k ts) (as_tally y) ≡ tally_all f cs ts nothing
  pub mwh : y.mwh.0 ≤ 100000 * k
  pub worth : y.worth.0 ≤ 10000000000 * k

module _ {f : Prices} {cs : List ℕ} {ts : List Trade} where
  pub tallied_start : {y : Tally} → as_tally y ≡ nothing → (y.mwh.0 ≡ 0) × (y.worth.0 ≡ 0) → TalliedTo f cs ts y 0
  tallied_start e z = record { left = ap (tally_all f cs ts) e; mwh = omega (arith, z.0); worth = omega (arith, z.1) }

  -- one more
  pub tallied_next : {y n : Tally} {k : ℕ} → TalliedTo f cs ts y k → k < length cs → k < length ts → as_tally n ≡ tallied f (get_or cs k 0) (get_or ts k no_trade) (as_tally y)
      → (n.mwh.0 ≤ y.mwh.0 + 100000) × (n.worth.0 ≤ y.worth.0 + 10000000000) → TalliedTo f cs ts n (k + 1)
  unfolding tally_all
  tallied_next {y} {n} {k} p h j e z =
      record {
        left = sym (rw (add-one, drop-cons cs k 0 h, drop-cons ts k no_trade j) (ap (tally_all f (drop (suc k) cs) (drop (suc k) ts)) (sym e))) ∙ p.left;
        mwh = omega (arith, p.mwh, z.0);
        worth = omega (arith, p.worth, z.1);
      }

  -- none is left
  pub tallied_end : {y : Tally} {k : ℕ} → TalliedTo f cs ts y k → length cs ≤ k → as_tally y ≡ tally_all f cs ts nothing
  unfolding tally_all
  tallied_end {y} {k} p h = rw (drop_of_length-le cs {i = k} h) at p.left
