-- A loop that stores a list in a part of another, place by place: what is left to store, stored, gives the whole. Assumes nothing.
use Rattle.base.specs.Basics.{List, ◌++◌, append-nil, ◌≡◌, refl, ap, ◌∙◌, ℕ, ◌+◌, ◌-◌, ◌≤◌, ◌<◌, add-one, arith, length, drop, get_or, set, length-set}
use Rattle.base.specs.Basics.{drop_of_length-le, drop-cons, get_or-set_other, sets, sets-eq}

-- the list vs is stored from a start up to i; what comes after is as it was
pub record Storing {A : Type 0} (vs : List A) (from : ℕ) (before now : List A) (i : ℕ) : Type 0 where
  pub long : length now ≡ length before
  pub left : sets now i (drop (i - from) vs) ≡ sets before from vs
  pub after : (j : ℕ) (d : A) → i ≤ j → get_or now j d ≡ get_or before j d

pub storing_start : {A : Type 0} (vs : List A) (from : ℕ) (ns : List A) → Storing vs from ns ns from
storing_start vs from ns =
    let e : from - from ≡ 0 = omega arith in
    record { long = refl; left = ap (λ (k : ℕ). sets ns from (drop k vs)) e; after = λ j d h. refl }

module _ {A : Type 0} {vs : List A} {from : ℕ} {before now : List A} {i : ℕ} (s : Storing vs from before now i) where
  -- one more
  pub storing_more : (n d : A) → from ≤ i → i < from + length vs → n ≡ get_or vs (i - from) d → Storing vs from before (set now i n) (i + 1)
  storing_more n d h k e =
      let next : i + 1 - from ≡ (i - from) + 1 = omega arith in
      let more : sets now i (drop (i - from) vs) ≡ sets (set now i n) (i + 1) (drop (i + 1 - from) vs)
      = rw (next, add-one i, add-one (i - from), drop-cons vs (i - from) d (omega arith), e) in
      record {
        long = length-set now i n ∙ s.long;
        left = rw more at s.left;
        after = λ j x l. get_or-set_other now i j n x (λ z. omega arith) ∙ s.after j x (omega arith);
      }

  -- after the last
  pub storing_end : from + length vs ≤ i → now ≡ sets before from vs
  storing_end h = rw (drop_of_length-le vs {i = i - from} (omega arith)) at s.left

-- the same of a list that is as long as the other
module _ {A : Type 0} {vs before now : List A} {i : ℕ} (s : Storing vs 0 before now i) where
  pub storing_next : (n d : A) → i < length vs → n ≡ get_or vs i d → Storing vs 0 before (set now i n) (i + 1)
  storing_next n d h e =
      let same : i ≡ i - 0 = omega arith in
      storing_more s n d (omega arith) (omega arith) (e ∙ ap (λ (k : ℕ). get_or vs k d) same)

  pub storing_all : length before ≡ length vs → length vs ≤ i → now ≡ vs
  storing_all e h =
      storing_end s (omega arith) ∙ sets-eq vs before 0 (omega arith) ∙ ap (λ (r : List A). vs ++ r) (drop_of_length-le before {i = 0 + length vs} (omega arith)) ∙ append-nil vs
