-- The count from below: counting down from all trades, the sets left out count up, and what is left of the search gives the whole. Assumes nothing.
use Rattle.base.specs.Basics.{◌≡◌, refl, ap, sym, ◌∙◌, ◌⊎◌, inl, inr, Bool, true, false, cond, ◌||◌, List, ℕ, zero, suc, ◌+◌, ◌*◌, ◌-◌, ◌^◌}
use Rattle.base.specs.Basics.{◌/◌, ◌%◌, ◌≤◌, ◌<◌, min, arith, eqb, length, get_or, le-leb, lt-leb, le-ltb, lt-ltb, eq-eqb, ne_eqb}
use Rattle.std.specs.Prelude.{Option, None, Some, MatchOption}
use Rattle.base.specs.Sums.{sum}
use mathlib.Core.Bool.{or-true, or-false}
use Rattle.base.proofs.Linear.{by_order}
use Rattle.cut_sets.specs.declared.Best.{Best}
use Rattle.cut_sets.specs.declared.Found.{Found}
use Rattle.cut_sets.specs.Sets.{worth_of_set}
use Rattle.cut_sets.specs.Search.{Choice, better, searched, whole_search}
use Rattle.cut_sets.specs.Found.{Table, Told, Answered, smaller, search_of}
use Rattle.cut_sets.specs.Counting.{Block, Counting, FirstBetter, Passed, choice_of}
use Rattle.cut_sets.proofs.Sets.{pow-one, worth_all, worth_rest, worth_split}
use Rattle.cut_sets.proofs.Tests.{cond_below, met_same, taken_low}

-- ---- one turn and the ends of the search

module _ (worth : ℕ → ℕ) (asked : ℕ) where
  searched_turn : (left m made : ℕ) (best : Choice) → 0 < left → 0 < m → (best.excess ≡ 0 → ⊥)
      → searched worth asked left m made best ≡ searched worth asked (left - 1) (m - 1) (made + 1) (better worth asked best (m - 1))
  unfolding searched
  searched_turn zero m made best h k z = absurd (omega arith)
  searched_turn (suc left) zero made best h k z = absurd (omega arith)
  searched_turn (suc left) (suc m) made best h k z =
      let a : suc left - 1 ≡ left = omega arith in
      let b : suc m - 1 ≡ m = omega arith in
      let d : made + 1 ≡ suc made = omega arith in
      rw (ne_eqb best.excess 0 z, a, b, d)

  searched_same : {left left' m m' made made' : ℕ} {best best' : Choice} → left ≡ left' → m ≡ m' → made ≡ made' → best ≡ best'
      → searched worth asked left m made best ≡ searched worth asked left' m' made' best'
  searched_same a b d e = rw (a, b, d, e)

  -- "an excess of 0 is met"
  searched_met : (left m made : ℕ) (best : Choice) → best.excess ≡ 0 → searched worth asked left m made best ≡ record { choice = best; tries = made; complete = true }
  unfolding searched
  searched_met left zero made best z = refl
  searched_met zero (suc m) made best z = rw (eq-eqb best.excess 0 z)
  searched_met (suc left) (suc m) made best z = rw (eq-eqb best.excess 0 z)

  -- "none is left"
  searched_none : (left m made : ℕ) (best : Choice) → m ≡ 0 → searched worth asked left m made best ≡ record { choice = best; tries = made; complete = true }
  unfolding searched
  searched_none left zero made best z = refl
  searched_none left (suc m) made best z = absurd (omega arith)

  -- "the tries are spent"
  searched_spent : (left m made : ℕ) (best : Choice) → left ≡ 0 → 0 < m → searched worth asked left m made best ≡ record { choice = best; tries = made; complete = eqb best.excess 0 }
  unfolding searched
  searched_spent left zero made best z h = absurd (omega arith)
  searched_spent zero (suc m) made best z h = refl
  searched_spent (suc left) (suc m) made best z h = absurd (omega arith)

-- ---- one try

-- one more set is tried, and taken where it reaches the target with a smaller excess
pub record Tried (spare out : ℕ) (b r : Best) : Type 0 where
  pub made_more : r.made ≡ b.made + 1
  pub left_is : r.left ≡ cond (smaller spare out b.out) b.made b.left
  pub out_is : r.out ≡ cond (smaller spare out b.out) out b.out

kept : (all spare : ℕ) (b r : Best) → r.left ≡ b.left → r.out ≡ b.out → choice_of all spare b ≡ choice_of all spare r
unfolding choice_of
kept all spare b r e f = rw (e, f)

module _ {ws : List ℕ} {all asked tries spare : ℕ} where
  -- a set that is left out, and the set that is tried
  tried_worth : {b : Best} → Counting ws all asked tries spare b → (k : ℕ) → k < all → worth_of_set ws (all - k - 1) + worth_of_set ws k ≡ asked + spare
  tried_worth p k h =
      let same : 2 ^ length ws - 1 - k ≡ all - k - 1 = omega (arith, p.all_is) in
      omega (arith, p.spare_is, ap (worth_of_set ws) same, worth_rest ws k (omega (arith, p.all_is)))

  -- one more try, by what it leaves out
  better_is : {b r : Best} {out : ℕ} → Counting ws all asked tries spare b → b.made < all → out ≡ worth_of_set ws b.made → Tried spare out b r
      → better (worth_of_set ws) asked (choice_of all spare b) (all - b.made - 1) ≡ choice_of all spare r
  unfolding better choice_of
  better_is {b} {r} {out} p h e t =
      let m = all - b.made - 1 in
      let both = tried_worth p b.made h in
      by_order b.out out
      (λ k.
      let g = lt-ltb b.out out k in
      by_order spare out
      (λ l.
      let f = lt-leb out spare l in
      rw (lt-leb asked (worth_of_set ws m) (omega arith)) (kept all spare b r (t.left_is ∙ rw (g, f)) (t.out_is ∙ rw (g, f))))
      (λ l.
      let f = le-leb out spare l in
      let reach = le-leb asked (worth_of_set ws m) (omega arith) in
      let less = lt-ltb (worth_of_set ws m - asked) (spare - b.out) (omega arith) in
      let set : all - b.made - 1 ≡ all - 1 - b.made = omega arith in
      let excess : worth_of_set ws m - asked ≡ spare - out = omega arith in
      rw (reach, less, t.left_is, t.out_is, g, f, excess, set)))
      (λ k.
      let g = le-ltb b.out out k in
      let same = kept all spare b r (t.left_is ∙ rw g) (t.out_is ∙ rw g) in
      by_order (worth_of_set ws m) asked
      (λ l. rw (lt-leb asked (worth_of_set ws m) l) same)
      (λ l. rw (le-leb asked (worth_of_set ws m) l, le-ltb (worth_of_set ws m - asked) (spare - b.out) (omega (arith, p.low))) same))

  pub counting_more : {b r : Best} {out : ℕ} → Counting ws all asked tries spare b → b.made < tries → b.made < all → (b.out ≡ spare → ⊥) → out ≡ worth_of_set ws b.made → Tried spare out b r
      → Counting ws all asked tries spare r
  unfolding choice_of
  counting_more {b} {r} {out} p l k z e t =
      let left : tries - r.made ≡ tries - b.made - 1 = omega (arith, t.made_more) in
      let m : all - r.made ≡ all - b.made - 1 = omega (arith, t.made_more) in
      record {
        all_is = p.all_is;
        spare_is = p.spare_is;
        within = omega (arith, t.made_more);
        few = omega (arith, t.made_more);
        below = rw (t.left_is, t.made_more) (cond_below (smaller spare out b.out) (omega arith) (omega (arith, p.below)));
        low = rw t.out_is (taken_low spare out b.out p.low);
        rest =
            searched_same (worth_of_set ws) asked left m t.made_more (sym (better_is p k e t))
            ∙ (sym (searched_turn (worth_of_set ws) asked (tries - b.made) (all - b.made) b.made (choice_of all spare b) (omega arith) (omega arith) (λ y. z (omega (arith, p.low, y)))) ∙ p.rest);
      }

-- ---- a block of tries

-- from one best to another, in whatever search they are
pub record Going (base until spare : ℕ) (table : List ℕ) (o b : Best) : Type 0 where
  pub on : o.made ≤ b.made
  pub inside : b.made ≤ until
  pub counts : (ws : List ℕ) (all asked tries : ℕ) → until ≤ tries → until ≤ all → ((k : ℕ) → o.made ≤ k → k < until → base + get_or table (k % 256) 0 ≡ worth_of_set ws k)
      → Counting ws all asked tries spare o → Counting ws all asked tries spare b

-- the same best, by its numbers
counting_same : {ws : List ℕ} {all asked tries spare : ℕ} {b r : Best} → r.left ≡ b.left → r.out ≡ b.out → r.made ≡ b.made → Counting ws all asked tries spare b
    → Counting ws all asked tries spare r
unfolding choice_of
counting_same e f g p =
    record {
      all_is = p.all_is;
      spare_is = p.spare_is;
      within = omega (arith, p.within);
      few = omega (arith, p.few);
      below = omega (arith, p.below);
      low = omega (arith, p.low);
      rest = rw (e, f, g) p.rest;
    }

module _ {base until spare : ℕ} {table : List ℕ} {o : Best} where
  pub going_first : Block base until table o.made → Going base until spare table o o
  going_first q = record { on = omega arith; inside = q.inside; counts = λ ws all asked tries h k e p. p }

  going_more : {b r : Best} → Going base until spare table o b → b.made < until → (b.out ≡ spare → ⊥) → Tried spare (base + get_or table (b.made % 256) 0) b r → Going base until spare table o r
  going_more {b} g l z t =
      record {
        on = omega (arith, g.on, t.made_more);
        inside = omega (arith, t.made_more);
        counts = λ ws all asked tries h k e p. counting_more (g.counts ws all asked tries h k e p) (omega arith) (omega arith) z (e b.made g.on l) t;
      }

  -- tries of sets that are not taken
  going_past : {b : Best} → Going base until spare table o b → (b.out ≡ spare → ⊥) → (d k : ℕ) → k ≡ b.made + d → k ≤ until
      → ((j : ℕ) → b.made ≤ j → j < k → smaller spare (base + get_or table (j % 256) 0) b.out ≡ false) → Going base until spare table o (record { left = b.left; out = b.out; made = k })
  going_past {b} g z zero k e l none =
      record {
        on = omega (arith, g.on);
        inside = l;
        counts = λ ws all asked tries h i f p. counting_same refl refl (omega arith) (g.counts ws all asked tries h i f p);
      }
  going_past {b} g z (suc d) k e l none =
      let n = none (b.made + d) (omega arith) (omega arith) in
      going_more (going_past g z d (b.made + d) refl (omega arith) (λ j h i. none j h (omega arith))) (omega arith) z
      (record { made_more = omega arith; left_is = rw n; out_is = rw n })

  module _ {b : Best} (g : Going base until spare table o b) (z : b.out ≡ spare → ⊥) {k : ℕ} (f : FirstBetter b.out base until spare table b.made k) where
    -- up to the first that is better
    pub going_skip : Going base until spare table o (record { left = b.left; out = b.out; made = k })
    going_skip = going_past g z (k - b.made) k (omega (arith, f.on)) f.inside f.none_before

    -- which is taken
    pub going_take : k < until → {r : Best} → r.left ≡ k → r.out ≡ base + get_or table (k % 256) 0 → r.made ≡ k + 1 → Going base until spare table o r
    going_take n {r} e h m =
        let y = better_at f.better in
        going_more going_skip n z (record { made_more = m; left_is = e ∙ sym (rw y refl); out_is = h ∙ sym (rw y refl) })
      where
        better_at : (k ≡ until) ⊎ (smaller spare (base + get_or table (k % 256) 0) b.out ≡ true) → smaller spare (base + get_or table (k % 256) 0) b.out ≡ true
        better_at (inl a) = absurd (omega (arith, n, a))
        better_at (inr a) = a

  pub going_end : {b : Best} → Going base until spare table o b → (b.out ≡ spare) ⊎ (b.made ≡ until) → Passed base until spare table o b
  going_end g e = record { ended = e; counts = g.counts }

-- ---- the first that is better

-- what a search through the numbers finds
pub first_sought : (best base until spare : ℕ) (table : List ℕ) (from : ℕ) → from ≤ until → (r : Option ℕ)
    → MatchOption r ((k : ℕ) → from ≤ k → k < until → smaller spare (base + get_or table (k % 256) 0) best ≡ false)
    (λ i. (from ≤ i) × (i < until) × (smaller spare (base + get_or table (i % 256) 0) best ≡ true) × ((k : ℕ) → from ≤ k → k < i → smaller spare (base + get_or table (k % 256) 0) best ≡ false))
    → MatchOption r (FirstBetter best base until spare table from until) (λ k. FirstBetter best base until spare table from k × (k < until))
first_sought best base until spare table from h None none = record { on = h; inside = omega arith; none_before = none; better = inl refl }
first_sought best base until spare table from h (Some k) f = (record { on = f.0; inside = omega (arith, f.1); none_before = f.3; better = inr f.2 }, f.1)

-- ---- the loop

-- before the first turn: what all trades are worth above the target, the number of sets, the tries at most made, and the two tables
pub record Prepared (ws : List ℕ) (all asked tries spare sets limit : ℕ) (low high : List ℕ) : Type 0 where
  pub all_is : all ≡ 2 ^ length ws
  pub spare_is : asked + spare ≡ sum (λ w. w) ws
  pub sets_is : sets ≡ min all 65536
  pub limit_is : limit ≡ min tries sets
  pub short : tries < 65536
  pub low_is : Table (worth_of_set ws) 1 (min limit 256) low
  pub high_is : Table (worth_of_set ws) 256 ((limit + 255) / 256) high

module _ {ws : List ℕ} {all asked tries spare sets limit : ℕ} {low high : List ℕ} (q : Prepared ws all asked tries spare sets limit low high) where
  -- what the tables give for a set that is left out
  pub left_out : (k : ℕ) → k < limit → get_or high (k / 256) 0 + get_or low (k % 256) 0 ≡ worth_of_set ws k
  left_out k h =
      let one : k % 256 * 1 ≡ k % 256 = omega arith in
      let whole : k / 256 * 256 + k % 256 ≡ k = omega arith in
      omega (
        arith,
        q.low_is.at (k % 256) (omega arith),
        q.high_is.at (k / 256) (omega arith),
        ap (worth_of_set ws) one,
        ap (worth_of_set ws) whole,
        worth_split ws (k / 256) (k % 256) (omega arith) (omega (arith, q.all_is, q.sets_is, q.limit_is)),
      )

  -- all trades are tried
  pub counting_first : 0 < tries → Counting ws all asked tries spare (record { left = 0; out = 0; made = 1 })
  unfolding whole_search choice_of
  counting_first h =
      let set : 2 ^ length ws - 1 - 0 ≡ 2 ^ length ws - 1 = omega arith in
      let excess : spare - 0 ≡ worth_of_set ws (2 ^ length ws - 1) - asked = omega (arith, q.spare_is, worth_all ws) in
      record {
        all_is = q.all_is;
        spare_is = q.spare_is;
        within = h;
        few = omega (arith, q.all_is, pow-one (length ws));
        below = omega arith;
        low = omega arith;
        rest = rw (q.all_is, set, excess);
      }

  -- ---- where it ends

  -- the best so far, as the answer tells it
  told_is : (b : Best) (r : Found) → Told spare sets b r → (complete : Bool) → (eqb b.out spare || eqb b.made sets) ≡ complete
      → search_of all r ≡ record { choice = choice_of all spare b; tries = b.made; complete = complete }
  unfolding search_of choice_of
  told_is b r t complete e = rw (t.left_is, t.excess_is, t.tries_is, t.complete_is, e)

  answered : (b : Best) (r : Found) → Counting ws all asked tries spare b → Told spare sets b r → search_of all r ≡ whole_search ws asked tries → Answered all asked tries ws r
  answered b r p t e =
      record {
        search_is = e;
        left_few = omega (arith, t.left_is, p.below, p.few);
      }

  -- "until .. an excess of 0 is met"
  pub answered_met : {b : Best} {r : Found} → Counting ws all asked tries spare b → b.out ≡ spare → Told spare sets b r → Answered all asked tries ws r
  unfolding choice_of
  answered_met {b} {r} p z t =
      answered b r p t
      (told_is b r t true (rw (eq-eqb b.out spare z)) ∙ sym (searched_met (worth_of_set ws) asked (tries - b.made) (all - b.made) b.made (choice_of all spare b) (omega arith)) ∙ p.rest)

  -- "until the tries are spent .. or none is left"
  pub answered_spent : {b : Best} {r : Found} → Counting ws all asked tries spare b → limit ≤ b.made → Told spare sets b r → Answered all asked tries ws r
  unfolding choice_of
  answered_spent {b} {r} p h t =
      let short = q.short in
      let sets_is = q.sets_is in
      let limit_is = q.limit_is in
      let left = tries - b.made in
      let m = all - b.made in
      answered b r p t
      (by_order b.made all
      (λ l.
      told_is b r t (eqb (spare - b.out) 0) (rw (ne_eqb b.made sets (λ z. omega (arith, p.within))) (or-false (eqb b.out spare) ∙ met_same b.out spare p.low))
      ∙ sym (searched_spent (worth_of_set ws) asked left m b.made (choice_of all spare b) (omega (arith, p.within)) (omega arith)) ∙ p.rest)
      (λ l.
      told_is b r t true (rw (eq-eqb b.made sets (omega (arith, p.within, p.few))) (or-true (eqb b.out spare)))
      ∙ sym (searched_none (worth_of_set ws) asked left m b.made (choice_of all spare b) (omega (arith, p.within))) ∙ p.rest))
