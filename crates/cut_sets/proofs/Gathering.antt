-- The worths of the eligible trades, gathered from the first trade on: each worth is stored where the next one goes, which moves on where the trade is eligible. Assumes nothing.
use Rattle.base.specs.Basics.{◌≡◌, refl, sym, ap, subst, ◌∙◌, Bool, true, false, cond, List, [], ◌∷◌, ◌++◌, append-nil, ℕ, ◌+◌, ◌≤◌, ◌<◌}
use Rattle.base.specs.Basics.{add-one, arith, length, take, get_or, set, replicate, length-set, length-replicate, get_or-set_same, get_or-set_other}
use Rattle.base.specs.Basics.{take_all, take-set-le, take-suc, take-suc-set, length-take-le}
use Rattle.base.proofs.Fronts.{none_past}
use Rattle.base.proofs.Linear.{by_order}
use Rattle.cut_sets.specs.Found.{Given}
use Rattle.cut_sets.specs.Places.{count_of, worths_of}
use Rattle.cut_sets.proofs.Places.{worths_count}

module _ {A : Type 0} (eligible : A → Bool) (worth : A → ℕ) where
  -- one trade more
  worths_more : (ts : List A) (t : A) → worths_of eligible worth (ts ++ (t ∷ [])) ≡ worths_of eligible worth ts ++ cond (eligible t) (worth t ∷ []) []
  unfolding worths_of
  worths_more [] t = go (eligible t)
    where
      go : (e : Bool) → cond e (worth t ∷ []) [] ≡ [] ++ cond e (worth t ∷ []) []
      go true = refl
      go false = refl
  worths_more (x ∷ ts) t = go (eligible x) (worths_more ts t)
    where
      go : (e : Bool) → worths_of eligible worth (ts ++ (t ∷ [])) ≡ worths_of eligible worth ts ++ cond (eligible t) (worth t ∷ []) []
          → cond e (worth x ∷ worths_of eligible worth (ts ++ (t ∷ []))) (worths_of eligible worth (ts ++ (t ∷ [])))
          ≡ cond e (worth x ∷ worths_of eligible worth ts) (worths_of eligible worth ts) ++ cond (eligible t) (worth t ∷ []) []
      go true h = ap (λ (ws : List ℕ). worth x ∷ ws) h
      go false h = h

  -- the first k of the worths are those of the eligible trades among the first i
  pub record Gathering (ts : List A) (worths : List ℕ) (k i : ℕ) : Type 0 where
    pub inside : i ≤ length ts
    pub few : k ≤ i
    pub room : length worths ≡ 256
    pub each : (j : ℕ) → get_or worths j 0 ≤ 10000000000
    pub gathered : take k worths ≡ worths_of eligible worth (take i ts)

  module _ (ts : List A) (short : length ts ≤ 256) where
    pub gathering_first : Gathering ts (replicate 256 0) 0 0
    unfolding worths_of
    gathering_first =
        record { inside = omega arith; few = omega arith; room = length-replicate {A = ℕ} 256 0; each = λ j. omega (arith, none_past {A = ℕ} 256 j 0); gathered = refl }

    pub gathering_more : {worths : List ℕ} {k i : ℕ} (d : A) → Gathering ts worths k i → i < length ts → {e : Bool} {w next : ℕ} → w ≤ 10000000000 → w ≡ worth (get_or ts i d)
        → e ≡ eligible (get_or ts i d) → next ≡ cond e (k + 1) k → Gathering ts (set worths k w) next (i + 1)
    gathering_more {worths} {k} {i} d p h {e} {w} {next} most w-is e-is next_is =
        record {
          inside = omega arith;
          few = rw next_is (few_after e);
          room = length-set worths k w ∙ p.room;
          each = λ j. each_after j;
          gathered = rw next_is (taken e e-is) ∙ sym (ap (worths_of eligible worth) (ap (λ (j : ℕ). take j ts) (add-one i) ∙ take-suc ts i d h) ∙ worths_more (take i ts) (get_or ts i d));
        }
      where
        few_after : (b : Bool) → cond b (k + 1) k ≤ i + 1
        few_after true = omega (arith, p.few)
        few_after false = omega (arith, p.few)

        inside_worths : k < length worths
        inside_worths = omega (arith, p.few, p.room)

        each_after : (j : ℕ) → get_or (set worths k w) j 0 ≤ 10000000000
        each_after j =
            by_order j k (λ l. rw (get_or-set_other worths k j w 0 (λ z. omega arith)) (p.each j))
            (λ l. by_order k j (λ m. rw (get_or-set_other worths k j w 0 (λ z. omega arith)) (p.each j))
            (λ m. let z : k ≡ j = omega arith in subst (λ (q : ℕ). get_or (set worths k w) q 0 ≤ 10000000000) z (rw (get_or-set_same worths k w 0 inside_worths) most)))

        taken : (b : Bool) → b ≡ eligible (get_or ts i d) → take (cond b (k + 1) k) (set worths k w) ≡ worths_of eligible worth (take i ts) ++ cond (eligible (get_or ts i d)) (worth (get_or ts i d) ∷ []) []
        taken true z = rw (← z, add-one, take-suc-set worths k w inside_worths, p.gathered, w-is)
        taken false z = rw (← z, append-nil) (take-set-le k worths k w (omega arith) ∙ p.gathered)

    module _ {worths : List ℕ} {k i : ℕ} (p : Gathering ts worths k i) where
      -- what a search is given
      pub gathering_given : Given k worths
      gathering_given = record { few = omega (arith, p.few, p.inside); room = p.room; each = p.each }

      -- none is left: the worths of all eligible trades, as many as there are
      pub gathering_all : length ts ≤ i → take k worths ≡ worths_of eligible worth ts
      gathering_all h = p.gathered ∙ ap (worths_of eligible worth) (take_all i ts h)

      pub gathering_count : length ts ≤ i → k ≡ count_of eligible ts
      gathering_count h = sym (length-take-le k worths (omega (arith, p.few, p.inside, p.room))) ∙ ap length (gathering_all h) ∙ worths_count eligible worth ts
