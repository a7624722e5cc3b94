-- The search: what it gives is the first of the tried sets with the smallest excess; where it is complete, no other set has a smaller one; and more tries never give a larger one. Assumes nothing.
use Rattle.base.specs.Basics.{◌≡◌, refl, ap, sym, ◌∙◌, ◌⊎◌, inl, inr, Bool, true, false, not, cond, ◌&&◌, ◌||◌, ℕ, zero, suc, ◌+◌, ◌-◌, ◌^◌, ◌≤◌, ◌<◌}
use Rattle.base.specs.Basics.{le_refl, arith, T, eqb, eqb→eq, leb, ltb, leb→le, ltb→lt, length, eq-eqb, ne_eqb, eqb-true}
use mathlib.Core.Bool.{or-true, or-false}
use Rattle.base.proofs.Linear.{by_order}
use Rattle.base.proofs.Tests.{and_l, and_r, by_test}
use Rattle.cut_sets.specs.Sets.{worth_of_set}
use Rattle.cut_sets.specs.Search.{Choice, Search, better, searched, whole_search}
use Rattle.cut_sets.specs.Claims.{Claim, SearchClaim, MoreTriesClaim}
use Rattle.cut_sets.proofs.Sets.{pow-one, worth_all}
use Rattle.cut_sets.proofs.Tests.{not-zero, not_below, or_either}

module _ (worth : ℕ → ℕ) (asked all : ℕ) where
  -- the sets from m on were tried, and this is the first of them with the smallest excess
  record SoFar (m : ℕ) (best : Choice) : Type 0 where
    tried : m ≤ best.set
    inside : best.set < all
    reaches : worth best.set ≡ asked + best.excess
    smallest : (j : ℕ) → m ≤ j → j < all → asked ≤ worth j → best.excess ≤ worth j - asked
    first : (j : ℕ) → best.set < j → j < all → asked ≤ worth j → best.excess < worth j - asked
    at_once : best.excess ≡ 0 → best.set ≡ m

  -- one more set is tried
  so_far_more : (m : ℕ) (best : Choice) → m < all → (best.excess ≡ 0 → ⊥) → SoFar (suc m) best → SoFar m (better worth asked best m)
  unfolding better
  so_far_more m best l nonzero p =
      by_test (λ (x : Choice). SoFar m x) (leb asked (worth m) && ltb (worth m - asked) best.excess) taken left_alone
    where
      taken : T (leb asked (worth m) && ltb (worth m - asked) best.excess) → SoFar m (record { set = m; excess = worth m - asked })
      taken h =
          let k = leb→le asked (worth m) (and_l (leb asked (worth m)) (ltb (worth m - asked) best.excess) h) in
          let less = ltb→lt (worth m - asked) best.excess (and_r (leb asked (worth m)) (ltb (worth m - asked) best.excess) h) in
          record {
            tried = le_refl m;
            inside = l;
            reaches = omega arith;
            smallest =
                λ j a b c.
                by_order m j (λ d. omega (arith, p.smallest j d b c))
                (λ d.
                let same : j ≡ m = omega arith in
                omega (arith, ap worth same));
            first = λ j a b c. omega (arith, p.smallest j a b c);
            at_once = λ e. refl;
          }

      left_alone : T (not (leb asked (worth m) && ltb (worth m - asked) best.excess)) → SoFar m best
      left_alone h =
          record {
            tried = omega (arith, p.tried);
            inside = p.inside;
            reaches = p.reaches;
            smallest =
                λ j a b c.
                by_order m j (λ d. p.smallest j d b c)
                (λ d.
                let same : j ≡ m = omega arith in
                omega (arith, ap worth same, not_below asked (worth m) (worth m - asked) best.excess h (omega (arith, ap worth same))));
            first = p.first;
            at_once = λ e. absurd (nonzero e);
          }

  -- where a search ends
  ended : (m made tries : ℕ) (best : Choice) (complete : Bool) → made + m ≡ all → made ≤ tries → (made ≡ tries) ⊎ ((best.excess ≡ 0) ⊎ (made ≡ all))
      → complete ≡ (eqb best.excess 0 || eqb made all) → SoFar m best → Claim worth asked all tries (record { choice = best; tries = made; complete = complete })
  ended m made tries best complete e within until complete_is p =
      record {
        tried = omega (arith, p.tried);
        inside = p.inside;
        reaches = p.reaches;
        smallest = λ j a b c. p.smallest j (omega arith) b c;
        first = p.first;
        within = within;
        few = omega arith;
        until = until;
        at_once = λ z. omega (arith, p.at_once z);
        complete_is = complete_is;
        least = λ z j a b. least_of j a b (or_either (eqb best.excess 0) (eqb made all) (sym complete_is ∙ z));
      }
    where
      least_of : (j : ℕ) → j < all → asked ≤ worth j → (eqb best.excess 0 ≡ true) ⊎ (eqb made all ≡ true) → best.excess ≤ worth j - asked
      least_of j a b (inl z) = omega (arith, eqb-true best.excess 0 z)
      least_of j a b (inr z) = p.smallest j (omega (arith, eqb-true made all z)) a b

  searched_claim : (left m made tries : ℕ) (best : Choice) → made + m ≡ all → made + left ≡ tries → SoFar m best → Claim worth asked all tries (searched worth asked left m made best)
  unfolding searched
  searched_claim left zero made tries best e f p =
      let done : made ≡ all = omega arith in
      ended 0 made tries best true e (omega arith) (inr (inr done)) (sym (rw (eq-eqb made all done) (or-true (eqb best.excess 0)))) p
  searched_claim zero (suc m) made tries best e f p =
      ended (suc m) made tries best (eqb best.excess 0) e (omega arith) (inl (omega arith))
      (sym (rw (ne_eqb made all (λ z. omega arith)) (or-false (eqb best.excess 0)))) p
  searched_claim (suc left) (suc m) made tries best e f p =
      by_test (λ (x : Search). Claim worth asked all tries x) (eqb best.excess 0)
      (λ h.
      let none = eqb→eq best.excess 0 h in
      ended (suc m) made tries best true e (omega arith) (inr (inl none)) (sym (rw (eq-eqb best.excess 0 none))) p)
      (λ h. searched_claim left m (suc made) tries (better worth asked best m) (omega arith) (omega arith) (so_far_more m best (omega arith) (not-zero best.excess h) p))

-- every search whose target is reached by all trades together
pub whole_claim : SearchClaim
unfolding whole_search
whole_claim ws asked tries h t =
    let n = length ws in
    let all = 2 ^ n - 1 in
    let one = pow-one n in
    searched_claim (worth_of_set ws) asked (2 ^ n) (tries - 1) all 1 tries (record { set = all; excess = worth_of_set ws all - asked }) (omega arith) (omega arith)
    (record {
      tried = le_refl all;
      inside = omega arith;
      reaches = omega (arith, worth_all ws);
      smallest =
          λ j a b c.
          let same : j ≡ all = omega arith in
          omega (arith, ap (worth_of_set ws) same);
      first = λ j a b c. absurd (omega arith);
      at_once = λ e. refl;
    })

-- ---- "More tries never give a larger excess."

module _ (worth : ℕ → ℕ) (asked : ℕ) where
  better-le : (best : Choice) (m : ℕ) → (better worth asked best m).excess ≤ best.excess
  unfolding better
  better-le best m =
      by_test (λ (x : Choice). x.excess ≤ best.excess) (leb asked (worth m) && ltb (worth m - asked) best.excess)
      (λ h. omega (arith, ltb→lt (worth m - asked) best.excess (and_r (leb asked (worth m)) (ltb (worth m - asked) best.excess) h)))
      (λ h. le_refl best.excess)

  -- never above what was found before
  searched-le : (left m made : ℕ) (best : Choice) → (searched worth asked left m made best).choice.excess ≤ best.excess
  unfolding searched
  searched-le left zero made best = le_refl best.excess
  searched-le zero (suc m) made best = le_refl best.excess
  searched-le (suc left) (suc m) made best =
      by_test (λ (x : Search). x.choice.excess ≤ best.excess) (eqb best.excess 0) (λ h. le_refl best.excess)
      (λ h. omega (arith, searched-le left m (suc made) (better worth asked best m), better-le best m))

  searched_more : (left right m made : ℕ) (best : Choice) → left ≤ right
      → (searched worth asked right m made best).choice.excess ≤ (searched worth asked left m made best).choice.excess
  unfolding searched
  searched_more left right zero made best h = le_refl best.excess
  searched_more zero right (suc m) made best h = searched-le right (suc m) made best
  searched_more (suc left) zero (suc m) made best h = absurd (omega arith)
  searched_more (suc left) (suc right) (suc m) made best h = go (eqb best.excess 0) (searched_more left right m (suc made) (better worth asked best m) (omega arith))
    where
      go : (z : Bool) → (searched worth asked right m (suc made) (better worth asked best m)).choice.excess ≤ (searched worth asked left m (suc made) (better worth asked best m)).choice.excess
          → (cond z (record { choice = best; tries = made; complete = true }) (searched worth asked right m (suc made) (better worth asked best m))).choice.excess
          ≤ (cond z (record { choice = best; tries = made; complete = true }) (searched worth asked left m (suc made) (better worth asked best m))).choice.excess
      go true a = le_refl best.excess
      go false a = a

pub more_tries : MoreTriesClaim
unfolding whole_search
more_tries ws asked tries more h =
    let all = 2 ^ length ws - 1 in
    searched_more (worth_of_set ws) asked (tries - 1) (more - 1) all 1 (record { set = all; excess = worth_of_set ws all - asked }) (omega arith)
