-- A part of a list, by where it starts and where it ends: its length, its elements, its first element and the rest, stores in it, what lies around it, and the
-- parts that a change of another leaves. Assumes nothing.
use Rattle.base.specs.Basics.{◌≡◌, refl, sym, ap, ap₂, ◌∙◌, List, [], ◌∷◌, ◌++◌, ℕ, suc, ◌+◌, ◌-◌, ◌≤◌, ◌<◌, add-one, arith, length, take, drop, get_or}
use Rattle.base.specs.Basics.{set, length-take, length-drop, length-set, get_or-eq_default, length-take-le, drop-cons, drop-drop, get_or-take}
use Rattle.base.specs.Basics.{get_or-drop, take-take, take-set-le, take-set-lt, drop-set-lt, drop-set-add, sets, sets-eq, length-sets}
use Rattle.fields.proofs.Sets.{sets_part, part_of_sets, take_of_drop, take-sets, drop-sets}
use Rattle.base.proofs.Linear.{by_order}
use Rattle.laws_sales.specs.Parts.{part}

module _ {A : Type 0} (xs : List A) (from to : ℕ) where
  -- as many as there are places
  pub part_length : to ≤ length xs → length (part from to xs) ≡ to - from
  part_length h = length-take-le (to - from) (drop from xs) (omega (arith, length-drop from xs))

  -- the element at a place
  pub part_at : (k : ℕ) (d : A) → from + k < to → get_or (part from to xs) k d ≡ get_or xs (from + k) d
  part_at k d h = get_or-take (to - from) (drop from xs) k d (omega arith) ∙ get_or-drop from xs k d

  -- by its place in the list
  pub part_here : (i : ℕ) (d : A) → from ≤ i → i < to → get_or (part from to xs) (i - from) d ≡ get_or xs i d
  part_here i d h k =
      let e : from + (i - from) ≡ i = omega arith in
      part_at (i - from) d (omega arith) ∙ ap (λ (n : ℕ). get_or xs n d) e

  -- nothing, where it ends before it starts
  pub part_none : to ≤ from → part from to xs ≡ []
  part_none h = ap (λ (n : ℕ). take n (drop from xs)) (let e : to - from ≡ 0 = omega arith in e)

  -- the first one and the rest
  pub part_first : (d : A) → from < to → to ≤ length xs → part from to xs ≡ get_or xs from d ∷ part (from + 1) to xs
  part_first d h k =
      let e : to - from ≡ suc (to - (from + 1)) = omega arith in
      let f : drop from xs ≡ get_or xs from d ∷ drop (from + 1) xs = rw add-one (drop-cons xs from d (omega arith)) in
      rw (e, f)

  -- a store in the part
  pub part-set : (i : ℕ) (v : A) → from ≤ i → i < to → part from to (set xs i v) ≡ set (part from to xs) (i - from) v
  part-set i v h k =
      let e : i ≡ from + (i - from) = omega arith in
      let f : drop from (set xs i v) ≡ set (drop from xs) (i - from) v
      = ap (λ (n : ℕ). drop from (set xs n v)) e ∙ drop-set-add from xs (i - from) v in
      ap (take (to - from)) f ∙ take-set-lt (to - from) (drop from xs) (i - from) v (omega arith)

  -- a list stored there is the part
  pub part_stored : (vs : List A) → length vs ≡ to - from → from ≤ to → to ≤ length xs → part from to (sets xs from vs) ≡ vs
  part_stored vs e h k = part_of_sets xs vs from (to - from) e (omega arith)

  -- the part stored where it stands changes nothing
  pub stored_part : from ≤ to → to ≤ length xs → sets xs from (part from to xs) ≡ xs
  stored_part h k = sets_part xs from (to - from) (omega arith)

-- the second of two stores at one place counts, where they are as long
pub stored_over : {A : Type 0} (xs vs ws : List A) (i : ℕ) → length ws ≡ length vs → i + length vs ≤ length xs → sets (sets xs i vs) i ws ≡ sets xs i ws
stored_over {A} xs vs ws i e h =
    sets-eq ws (sets xs i vs) i (omega (arith, length-sets xs i vs))
    ∙ ap₂ (λ (a b : List A). a ++ ws ++ b) (take-sets vs xs i i (omega arith)) (drop-sets vs xs i (i + length ws) (omega arith))
    ∙ sym (sets-eq ws xs i (omega arith))

-- at most what its elements are
pub part-most : (ns : List ℕ) (from to most : ℕ) → ((i : ℕ) → from ≤ i → i < to → get_or ns i 0 ≤ most) → (k : ℕ) → get_or (part from to ns) k 0 ≤ most
part-most ns from to most h k =
    by_order k (to - from)
    (λ l. omega (arith, part_at ns from to k 0 (omega arith), h (from + k) (omega arith) (omega arith)))
    (λ l. omega (arith, get_or-eq_default (part from to ns) 0 {n = k} (omega (arith, length-take (to - from) (drop from ns)))))

-- ---- what lies around a part

-- two lists are the same but for the part
pub record Around {A : Type 0} (from to : ℕ) (xs ys : List A) : Type 0 where
  pub long : length ys ≡ length xs
  pub before : take from ys ≡ take from xs
  pub behind : drop to ys ≡ drop to xs

module _ {A : Type 0} {from to : ℕ} where
  pub around_same : (xs : List A) → Around from to xs xs
  around_same xs = record { long = refl; before = refl; behind = refl }

  -- a store in the part leaves what lies around it
  pub around_set : {xs ys : List A} (i : ℕ) (v : A) → from ≤ i → i < to → Around from to xs ys → Around from to xs (set ys i v)
  around_set {xs} {ys} i v h k a = record {
    long = length-set ys i v ∙ a.long;
    before = take-set-le from ys i v h ∙ a.before;
    behind = drop-set-lt to ys i v k ∙ a.behind;
  }

  -- so the list is the other with the part stored
  pub around_stored : (xs ys : List A) → from ≤ to → to ≤ length xs → Around from to xs ys → ys ≡ sets xs from (part from to ys)
  around_stored xs ys h k a =
      let n : length (part from to ys) ≡ to - from = part_length ys from to (omega (arith, a.long)) in
      let whole : from + (to - from) ≡ to = omega arith in
      let e : sets xs from (part from to ys) ≡ take from xs ++ part from to ys ++ drop to xs
      = sets-eq (part from to ys) xs from (omega arith) ∙ ap (λ (j : ℕ). take from xs ++ part from to ys ++ drop j xs) (ap (λ (m : ℕ). from + m) n ∙ whole) in
      sym (stored_part ys from to h (omega (arith, a.long)))
      ∙ sets-eq (part from to ys) ys from (omega (arith, a.long))
      ∙ ap₂ (λ (l r : List A). l ++ part from to ys ++ r) a.before (ap (λ (j : ℕ). drop j ys) (ap (λ (m : ℕ). from + m) n ∙ whole) ∙ a.behind)
      ∙ sym e

  -- a list stored there leaves what lies around it
  pub around_sets : (xs vs : List A) → length vs ≡ to - from → from ≤ to → Around from to xs (sets xs from vs)
  around_sets xs vs e h = record {
    long = length-sets xs from vs;
    before = take-sets vs xs from from (omega arith);
    behind = drop-sets vs xs from to (omega (arith, e));
  }

  -- a part that ends before the change, and one that starts behind it
  pub part_before : {xs ys : List A} → Around from to xs ys → (a t : ℕ) → a ≤ t → t ≤ from → part a t ys ≡ part a t xs
  part_before {xs} {ys} h a t k m = short ys ∙ ap (λ (zs : List A). drop a (take t zs)) h.before ∙ sym (short xs)
    where
      short : (zs : List A) → part a t zs ≡ drop a (take t (take from zs))
      short zs =
          let n : a + (t - a) ≡ t = omega arith in
          take_of_drop a (t - a) zs ∙ ap (λ (j : ℕ). drop a (take j zs)) n ∙ ap (drop a) (sym (take-take t from zs m))

  pub part_behind : {xs ys : List A} → Around from to xs ys → (a t : ℕ) → to ≤ a → part a t ys ≡ part a t xs
  part_behind {xs} {ys} h a t l = ap (take (t - a)) (past ys ∙ ap (drop (a - to)) h.behind ∙ sym (past xs))
    where
      past : (zs : List A) → drop a zs ≡ drop (a - to) (drop to zs)
      past zs = let e : a ≡ to + (a - to) = omega arith in ap (λ (n : ℕ). drop n zs) e ∙ sym (drop-drop (a - to) to zs)
