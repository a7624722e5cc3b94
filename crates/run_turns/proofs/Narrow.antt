-- Cuts that lie in a narrower part: what the sales lose, the positions that move, the tally and the buyers that are asked anew are those of the whole part. Assumes nothing.
use Rattle.base.specs.Basics.{◌≡◌, refl, sym, ap, ap₂, ◌∙◌, inl, inr, Bool, false, cond, ◌&&◌, ◌||◌, List, [], ◌∷◌, map, ℕ, zero, suc, ◌+◌, ◌*◌, ◌-◌}
use Rattle.base.specs.Basics.{◌≤◌, ◌<◌, zero-mul, arith, eqb, ltb, length, drop, get_or, length-map, set, take, ext_get_or, length-sets, set-get_or, sets}
use Rattle.base.specs.Basics.{take_all}
use Rattle.base.proofs.Fronts.{front_take}
use Rattle.base.proofs.Linear.{by_order}
use Rattle.base.proofs.Tests.{and-false}
use Rattle.fields.proofs.Sets.{get_or_apart}
use Rattle.laws_sales.proofs.Numbers.{less_at, less-length}
use Rattle.laws_sales.proofs.Parts.{part_at, part_first, part_here, part_length, part_none, part_stored}
use Rattle.laws_sales.specs.Parts.{part}
use Rattle.laws_sales.specs.Sales.{less}
use Rattle.rules.specs.Areas.{Prices, tariff}
use Rattle.rules.specs.Book.{Trade, no_trade}
use Rattle.rules.specs.Reduction.{Tally, tallied, tally_all}
use Rattle.run_state.specs.Asked.{LookedAgain, moved_all, moved_one, touched}

-- ---- what goes through a part of the sales one by one, and passes over those that lose nothing

module _ {A X : Type 0} (over : ℕ → ℕ → A → X) (before : ℕ → A → A) (after : ℕ → X → X) (base : A → X) (from to : ℕ)
    (step : (i j : ℕ) (a : A) → from ≤ i → i < j → j ≤ to → over i j a ≡ after i (over (i + 1) j (before i a)))
    (empty : (i j : ℕ) (a : A) → j ≤ i → over i j a ≡ base a) where
  -- none of them loses anything
  passed : (n i j : ℕ) (a : A) → j ≤ n + i → from ≤ i → j ≤ to
      → ((k : ℕ) → i ≤ k → k < j → ((x : X) → after k x ≡ x) × ((b : A) → before k b ≡ b)) → over i j a ≡ base a
  passed zero i j a m h l idle = empty i j a (omega arith)
  passed (suc n) i j a m h l idle =
      by_order i j
      (λ o.
      step i j a h o l ∙ (idle i (omega arith) o).0 (over (i + 1) j (before i a)) ∙ ap (over (i + 1) j) ((idle i (omega arith) o).1 a)
      ∙ passed n (i + 1) j a (omega arith) (omega arith) l (λ k p q. idle k (omega arith) q))
      (λ o. empty i j a o)

  module _ (first end : ℕ) (starts : from ≤ first) (rises : first ≤ end) (ends : end ≤ to)
      (idle-before : (k : ℕ) → from ≤ k → k < first → ((x : X) → after k x ≡ x) × ((b : A) → before k b ≡ b))
      (idle-behind : (k : ℕ) → end ≤ k → k < to → ((x : X) → after k x ≡ x) × ((b : A) → before k b ≡ b)) where
    -- those behind
    end_behind : (i : ℕ) (a : A) → i ≡ end → over i to a ≡ over i end a
    end_behind i a e = rw e (passed to end to a (omega arith) (omega arith) (omega arith) idle-behind ∙ sym (empty end end a (omega arith)))

    behind : (n i : ℕ) (a : A) → end ≤ n + i → from ≤ i → i ≤ end → over i to a ≡ over i end a
    behind zero i a m h l = end_behind i a (omega arith)
    behind (suc n) i a m h l =
        by_order i end
        (λ o.
        step i to a h (omega arith) (omega arith) ∙ ap (after i) (behind n (i + 1) (before i a) (omega arith) (omega arith) (omega arith))
        ∙ sym (step i end a h o ends))
        (λ o. end_behind i a (omega arith))

    -- those before
    ahead : (n i : ℕ) (a : A) → first ≤ n + i → from ≤ i → i ≤ first → over i to a ≡ over first to a
    ahead zero i a m h l = ap (λ (k : ℕ). over k to a) (let e : i ≡ first = omega arith in e)
    ahead (suc n) i a m h l =
        by_order i first
        (λ o.
        step i to a h (omega arith) (omega arith) ∙ (idle-before i h o).0 (over (i + 1) to (before i a)) ∙ ap (over (i + 1) to) ((idle-before i h o).1 a)
        ∙ ahead n (i + 1) a (omega arith) (omega arith) (omega arith))
        (λ o. ap (λ (k : ℕ). over k to a) (let e : i ≡ first = omega arith in e))

    pub narrowed : (a : A) → over from to a ≡ over first end a
    narrowed a = ahead first from a (omega arith) (omega arith) starts ∙ behind end first a (omega arith) starts rises

-- ---- parts

-- what is read off a part
map-drop : {A : Type 0} (g : A → ℕ) (i : ℕ) (xs : List A) → map g (drop i xs) ≡ drop i (map g xs)
map-drop g zero xs = refl
map-drop g (suc i) [] = refl
map-drop g (suc i) (x ∷ xs) = map-drop g i xs

map-part : {A : Type 0} (g : A → ℕ) (xs : List A) (i j : ℕ) → map g (part i j xs) ≡ part i j (map g xs)
map-part g xs i j = front_take g (j - i) (drop i xs) ∙ ap (take (j - i)) (map-drop g i xs)

-- a part of a part
part_again : (ns : List ℕ) (from first end to : ℕ) → from ≤ first → first ≤ end → end ≤ to → to ≤ length ns → part (first - from) (end - from) (part from to ns) ≡ part first end ns
part_again ns from first end to h l m few =
    let outer : length (part from to ns) ≡ to - from = part_length ns from to few in
    let some : length (part (first - from) (end - from) (part from to ns)) ≡ end - from - (first - from) = part_length (part from to ns) (first - from) (end - from) (omega arith) in
    let count : length (part first end ns) ≡ end - first = part_length ns first end (omega arith) in
    ext_get_or 0 (part (first - from) (end - from) (part from to ns)) (part first end ns) (omega arith)
    (λ k o.
    let there : from + (first - from + k) ≡ first + k = omega arith in
    part_at (part from to ns) (first - from) (end - from) k 0 (omega arith)
    ∙ part_at ns from to (first - from + k) 0 (omega arith)
    ∙ ap (λ (j : ℕ). get_or ns j 0) there
    ∙ sym (part_at ns first end k 0 (omega arith)))

-- ---- cuts

-- a part of the cuts of the sales from..to outside of which there are none
pub record Narrow (from first end to : ℕ) (cs : List ℕ) : Type 0 where
  pub starts : from ≤ first
  pub rises : first ≤ end
  pub ends : end ≤ to
  pub few : to ≤ 256
  pub room : length cs ≡ 256
  pub before : (k : ℕ) → k < first → get_or cs k 0 ≡ 0
  pub behind : (k : ℕ) → end ≤ k → get_or cs k 0 ≡ 0

module _ {from first end to : ℕ} {cs : List ℕ} (n : Narrow from first end to cs) where
  -- what stands after them
  module _ (ns : List ℕ) (room : length ns ≡ 256) where
    stored_at : (i j k : ℕ) → i ≤ k → k < j → j ≤ 256 → get_or (sets ns i (less (part i j cs) (part i j ns))) k 0 ≡ get_or ns k 0 - get_or cs k 0
    stored_at i j k h l few =
        let xs = less (part i j cs) (part i j ns) in
        let many : length xs ≡ j - i = less-length (part i j cs) (part i j ns) ∙ part_length ns i j (omega arith) in
        sym (part_here (sets ns i xs) i j k 0 h l)
        ∙ ap (λ (ys : List ℕ). get_or ys (k - i) 0) (part_stored ns i j xs many (omega arith) (omega arith))
        ∙ less_at (part i j cs) (part i j ns) (k - i)
        ∙ ap₂ (λ (x y : ℕ). x - y) (part_here ns i j k 0 h l) (part_here cs i j k 0 h l)

    stored_apart : (i j k : ℕ) → i ≤ j → j ≤ 256 → (k < i → get_or (sets ns i (less (part i j cs) (part i j ns))) k 0 ≡ get_or ns k 0)
        × (j ≤ k → get_or (sets ns i (less (part i j cs) (part i j ns))) k 0 ≡ get_or ns k 0)
    stored_apart i j k h few =
        let xs = less (part i j cs) (part i j ns) in
        let many : length xs ≡ j - i = less-length (part i j cs) (part i j ns) ∙ part_length ns i j (omega arith) in
        (λ l. get_or_apart xs ns i k 0 (inl l), λ l. get_or_apart xs ns i k 0 (inr (omega (arith, many))))

    pub narrow_left : sets ns first (less (part first end cs) (part first end ns)) ≡ sets ns from (less (part from to cs) (part from to ns))
    narrow_left =
        let few = n.few in
        let ends = n.ends in
        let starts = n.starts in
        let rises = n.rises in
        let inner = sets ns first (less (part first end cs) (part first end ns)) in
        let outer = sets ns from (less (part from to cs) (part from to ns)) in
        let same : (k : ℕ) → get_or cs k 0 ≡ 0 → get_or outer k 0 ≡ get_or ns k 0
        = λ k z.
        by_order k from (λ l. (stored_apart from to k (omega arith) few).0 l)
        (λ l. by_order k to (λ m. omega (arith, stored_at from to k l m few, z)) (λ m. (stored_apart from to k (omega arith) few).1 m)) in
        ext_get_or 0 inner outer (length-sets ns first (less (part first end cs) (part first end ns)) ∙ sym (length-sets ns from (less (part from to cs) (part from to ns))))
        (λ k h.
        by_order k first
        (λ l. (stored_apart first end k rises (omega arith)).0 l ∙ sym (same k (n.before k l)))
        (λ l.
        by_order k end
        (λ m. stored_at first end k l m (omega arith) ∙ sym (stored_at from to k (omega arith) (omega arith) few))
        (λ m. (stored_apart first end k rises (omega arith)).1 m ∙ sym (same k (n.behind k m)))))

  -- the positions that move
  moved_none : (place buyer area : ℕ) {c : ℕ} → c ≡ 0 → (ps : List ℕ) → moved_one place buyer area c ps ≡ ps
  unfolding moved_one
  moved_none place buyer area {c} z ps =
      let up = 3 * place + area in
      let down = 3 * buyer + area in
      let risen : set ps up (get_or ps up 0 + c) ≡ ps = ap (set ps up) (let e : get_or ps up 0 + c ≡ get_or ps up 0 = omega arith in e) ∙ set-get_or ps up 0 in
      ap (λ (xs : List ℕ). set xs down (get_or xs down 0 - c)) risen
      ∙ ap (set ps down) (let e : get_or ps down 0 - c ≡ get_or ps down 0 = omega arith in e) ∙ set-get_or ps down 0

  pub narrow_moved : (place : ℕ) (bs areas : List ℕ) → length bs ≡ 256 → length areas ≡ 256 → (ps : List ℕ)
      → moved_all place (part from to bs) (part from to areas) (part from to cs) ps ≡ moved_all place (part first end bs) (part first end areas) (part first end cs) ps
  unfolding moved_all
  narrow_moved place bs areas p q ps =
      let few = n.few in
      narrowed (λ i j xs. moved_all place (part i j bs) (part i j areas) (part i j cs) xs) (λ i xs. moved_one place (get_or bs i 0) (get_or areas i 0) (get_or cs i 0) xs) (λ i xs. xs) (λ xs. xs) from to
      (λ i j xs h l m.
      rw (part_first bs i j 0 l (omega arith), part_first areas i j 0 l (omega arith), part_first cs i j 0 l (omega (arith, n.room))) refl)
      (λ i j xs h. rw (part_none bs i j h) refl)
      first end n.starts n.rises n.ends
      (λ k h l. (λ xs. refl, moved_none place (get_or bs k 0) (get_or areas k 0) (n.before k l)))
      (λ k h l. (λ xs. refl, moved_none place (get_or bs k 0) (get_or areas k 0) (n.behind k h)))
      ps

  -- the buyers that are asked anew
  touched_none : (x : Bool) {c : ℕ} → c ≡ 0 → (y : Bool) → ((x && ltb 0 c) || y) ≡ y
  touched_none x z y = rw (z, and-false x) refl

  narrow_touched : (j : ℕ) (bs : List ℕ) → length bs ≡ 256 → touched j (part from to bs) (part from to cs) ≡ touched j (part first end bs) (part first end cs)
  unfolding touched
  narrow_touched j bs p =
      let few = n.few in
      narrowed {A = ℕ} (λ i e a. touched j (part i e bs) (part i e cs)) (λ i a. a) (λ i y. (eqb (get_or bs i 0) j && ltb 0 (get_or cs i 0)) || y) (λ a. false) from to
      (λ i e a h l m. rw (part_first bs i e 0 l (omega arith), part_first cs i e 0 l (omega (arith, n.room))) refl)
      (λ i e a h. rw (part_none bs i e h) refl)
      first end n.starts n.rises n.ends
      (λ k h l. (touched_none (eqb (get_or bs k 0) j) (n.before k l), λ a. refl))
      (λ k h l. (touched_none (eqb (get_or bs k 0) j) (n.behind k h), λ a. refl))
      0

  pub narrow_looked : {now : ℕ → ℕ} {es : List Bool} (bs : List ℕ) {ts₀ ts : List ℕ} {least : ℕ} → length bs ≡ 256 → LookedAgain now es (part first end bs) (part first end cs) ts₀ ts least
      → LookedAgain now es (part from to bs) (part from to cs) ts₀ ts least
  narrow_looked {now} {es} bs {ts₀} p l =
      record {
        room = l.room;
        each = λ j h. l.each j h ∙ ap (λ (t : Bool). cond (t && get_or es j false) (now j) (get_or ts₀ j 0)) (sym (narrow_touched j bs p));
        before = l.before;
      }

  -- the tally
  tallied_none : (f : Prices) (t : Trade) {c : ℕ} → c ≡ 0 → (tally : Tally) → tallied f c t tally ≡ tally
  unfolding tallied
  tallied_none f t {c} z tally =
      let m : tally.mwh + c ≡ tally.mwh = omega arith in
      let w : tally.worth + c * tariff f t.terms.area ≡ tally.worth = omega (arith, ap (λ (x : ℕ). x * tariff f t.terms.area) z, zero-mul (tariff f t.terms.area)) in
      ap₂ (λ (x y : ℕ). record { mwh = x; worth = y }) m w

  module _ (f : Prices) (areas : List ℕ) (room : length areas ≡ 256) (xs : List Trade) (own : map (λ t. t.terms.area) xs ≡ part from to areas) where
    many : length xs ≡ to - from
    many = sym (length-map xs (λ t. t.terms.area)) ∙ ap length own ∙ part_length areas from to (omega (arith, n.few))

    pub narrow_sales : map (λ t. t.terms.area) (part (first - from) (end - from) xs) ≡ part first end areas
    narrow_sales =
        map-part (λ t. t.terms.area) xs (first - from) (end - from) ∙ ap (part (first - from) (end - from)) own
        ∙ part_again areas from first end to n.starts n.rises n.ends (omega (arith, n.few))

    pub narrow_tally : (tally : Tally) → tally_all f (part from to cs) xs tally ≡ tally_all f (part first end cs) (part (first - from) (end - from) xs) tally
    unfolding tally_all
    narrow_tally tally =
        let few = n.few in
        let all : part (from - from) (to - from) xs ≡ xs
        = let e : from - from ≡ 0 = omega arith in ap (λ (k : ℕ). part k (to - from) xs) e ∙ take_all (to - from - 0) xs (omega (arith, many)) in
        ap (λ (ys : List Trade). tally_all f (part from to cs) ys tally) (sym all)
        ∙ narrowed (λ i j a. tally_all f (part i j cs) (part (i - from) (j - from) xs) a) (λ i a. tallied f (get_or cs i 0) (get_or xs (i - from) no_trade) a) (λ i a. a) (λ a. a) from to
        (λ i j a h l m.
        let e : i + 1 - from ≡ i - from + 1 = omega arith in
        rw (e, part_first cs i j 0 l (omega (arith, n.room)), part_first xs (i - from) (j - from) no_trade (omega arith) (omega (arith, many))) refl)
        (λ i j a h. rw (part_none cs i j h) refl)
        first end n.starts n.rises n.ends
        (λ k h l. (λ a. refl, tallied_none f (get_or xs (k - from) no_trade) (n.before k l)))
        (λ k h l. (λ a. refl, tallied_none f (get_or xs (k - from) no_trade) (n.behind k h)))
        tally
