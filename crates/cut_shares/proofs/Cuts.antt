-- The cuts of a tier by cases, and what callers need of them: as many as trades, each at most what stands. Assumes nothing.
use Rattle.base.specs.Basics.{◌≡◌, refl, sym, ap, ap₂, ◌∙◌, true, false, ◌||◌, List, [], ◌∷◌, map, ℕ, ◌≤◌, ◌<◌, arith, eqb, length, get_or, le-leb}
use Rattle.base.specs.Basics.{lt-leb}
use Rattle.rules.specs.Shares.{tier_worth, Share, share_of, shares_by_turns, in_proportion, cuts_of_tier}
use Rattle.laws.proofs.Shares.{within_at, tier_within, tier_length}
use Rattle.laws_sales.specs.Lots.{lots_of}
use Rattle.laws_sales.proofs.Lots.{lots_length, lots_standing}

-- no cut of any trade, whatever the trades are
none_same : {A B : Type 0} (xs : List A) (ys : List B) → length xs ≡ length ys → map {B = ℕ} (λ x. 0) xs ≡ map (λ y. 0) ys
none_same [] [] e = refl
none_same [] (y ∷ ys) e = absurd (omega arith)
none_same (x ∷ xs) [] e = absurd (omega arith)
none_same (x ∷ xs) (y ∷ ys) e = ap (λ (ns : List ℕ). 0 ∷ ns) (none_same xs ys (omega arith))

-- a tier worth v that is asked for some amount
module _ (standing tariffs : List ℕ) (e : length tariffs ≡ length standing) (asked v : ℕ) (w : v ≡ tier_worth (lots_of standing tariffs)) where
  -- nothing is asked, or nothing is there
  pub cuts_none : (eqb asked 0 || eqb v 0) ≡ true → (ns : List ℕ) → length ns ≡ length standing → map (λ n. 0) ns ≡ cuts_of_tier asked (lots_of standing tariffs)
  unfolding cuts_of_tier
  cuts_none t ns l =
      rw (← w, t) (none_same ns (lots_of standing tariffs) (l ∙ sym (lots_length standing tariffs e)))

  -- as much is asked as there is, or more
  pub cuts_whole : (eqb asked 0 || eqb v 0) ≡ false → v ≤ asked → standing ≡ cuts_of_tier asked (lots_of standing tariffs)
  unfolding cuts_of_tier
  cuts_whole f l = rw (← w, f, le-leb v asked l) (sym (lots_standing standing tariffs e))

  -- less is asked
  pub cuts_part : (eqb asked 0 || eqb v 0) ≡ false → asked < v → (ss : List Share) → ss ≡ map (share_of asked v) (lots_of standing tariffs)
      → {cs : List ℕ} → cs ≡ map (λ s. s.cut) (shares_by_turns (length tariffs) asked ss) → cs ≡ cuts_of_tier asked (lots_of standing tariffs)
  unfolding cuts_of_tier in_proportion
  cuts_part f l ss q h =
      h
      ∙ rw (← w, f, lt-leb v asked l)
      (ap₂ (λ (n : ℕ) (ns : List Share). map (λ s. s.cut) (shares_by_turns n asked ns)) (e ∙ sym (lots_length standing tariffs e)) q)

-- nothing is asked, whatever the tier is worth
pub asked_nothing : (standing tariffs : List ℕ) → length tariffs ≡ length standing → (asked : ℕ) → asked ≡ 0
    → (ns : List ℕ) → length ns ≡ length standing → map (λ n. 0) ns ≡ cuts_of_tier asked (lots_of standing tariffs)
asked_nothing standing tariffs e asked z = cuts_none standing tariffs e asked (tier_worth (lots_of standing tariffs)) refl (rw z)

module _ (asked : ℕ) (standing tariffs : List ℕ) (e : length tariffs ≡ length standing) where
  -- each cut is at most what stands, and 0 past the end
  pub cut_le_standing : (i : ℕ) → get_or (cuts_of_tier asked (lots_of standing tariffs)) i 0 ≤ get_or standing i 0
  cut_le_standing i =
      rw (lots_standing standing tariffs e) at (within_at (cuts_of_tier asked (lots_of standing tariffs)) (map (λ x. x.standing) (lots_of standing tariffs)) (tier_within asked (lots_of standing tariffs)) i)

  -- there are as many cuts as trades
  pub cuts_length : length (cuts_of_tier asked (lots_of standing tariffs)) ≡ length standing
  cuts_length = tier_length asked (lots_of standing tariffs) ∙ lots_length standing tariffs e
