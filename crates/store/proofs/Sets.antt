-- Laws of the two loops over a store's sets: those that are left have the whole answer to whether they are valid, and none that is passed from the last one down
-- is in force. Assumes nothing.
use Rattle.base.proofs.Tests.{and-false}
use Rattle.base.specs.Basics.{◌≡◌, refl, sym, ap, ap₂, ◌∙◌, Bool, true, false, cond, ◌&&◌, Option, none, some, List, [], ◌∷◌, ℕ, zero, suc, ◌+◌, ◌-◌}
use Rattle.base.specs.Basics.{◌*◌, ◌<◌, ◌≤◌, add-one, arith, leb, ltb, length, take, drop, drop_of_length-le, drop-cons, drop-drop, le-ltb, lt-ltb}
use Rattle.base.specs.Basics.{le-leb, lt-leb}
use Rattle.base.specs.Lists.{all}
use Rattle.fields.proofs.Records.{length-records_of, get_or-records_of}
use Rattle.store.specs.Store.{ParameterSet, set_of, sets_from, firsts_rise, set_is_valid, sets_are_valid, or_else, begun, set_in_force}

-- ---- the sets from a place on

-- the set that was read at a place, and those behind it
next_set : (s : List ℕ) (n i : ℕ) {a : ℕ} {p : ParameterSet} → a ≡ 6 + 24 * i → i < n → p ≡ set_of (take (a + 24 - a) (drop a s))
    → drop i (sets_from n s) ≡ p ∷ drop (i + 1) (sets_from n s)
unfolding sets_from
next_set s n i {a} place h e =
    let k : i < length (sets_from n s) = rw length-records_of h in
    let l : a + 24 - a ≡ 24 = omega arith in
    let at_place = rw drop-drop at (get_or-records_of 24 set_of n i (drop 6 s) (set_of []) h) in
    rw ((rw (l, place) at e) ∙ sym at_place, add-one) (drop-cons (sets_from n s) i (set_of []) k)

-- behind the last there is none
no_set : (s : List ℕ) (n i : ℕ) → n ≤ i → drop i (sets_from n s) ≡ []
unfolding sets_from
no_set s n i h = drop_of_length-le (sets_from n s) {i = i} (rw length-records_of h)

-- ---- are they valid

-- where i of n sets were valid, the last of which began on `last`: those left have the whole answer
pub record SetsLeft (s : List ℕ) (n last i : ℕ) : Type 0 where
  pub within : i ≤ n
  pub answer : sets_are_valid 0 (sets_from n s) ≡ sets_are_valid last (drop i (sets_from n s))

-- the next set, by the two tests of it
valid_next : (last : ℕ) {zs : List ParameterSet} {p : ParameterSet} {rest : List ParameterSet} {a b : Bool} → zs ≡ p ∷ rest → ltb last p.first ≡ a → set_is_valid p ≡ b
    → sets_are_valid last zs ≡ (a && firsts_rise p.first rest) && (b && all set_is_valid rest)
unfolding sets_are_valid firsts_rise all
valid_next last {p = p} {rest = rest} e h k =
    ap (sets_are_valid last) e ∙ ap₂ (λ (a b : Bool). (a && firsts_rise p.first rest) && (b && all set_is_valid rest)) h k

module _ {s : List ℕ} {n : ℕ} where
  module _ {last i a : ℕ} (before : SetsLeft s n last i) (h : i < n) (place : a ≡ 6 + 24 * i) {p : ParameterSet} (e : p ≡ set_of (take (a + 24 - a) (drop a s))) where
    next : drop i (sets_from n s) ≡ p ∷ drop (i + 1) (sets_from n s)
    next = next_set s n i place h e

    -- its first date is not after the last
    pub sets_date_no : p.first ≤ last → false ≡ sets_are_valid 0 (sets_from n s)
    sets_date_no k = sym (before.answer ∙ valid_next last next (le-ltb last p.first k) refl)

    -- it is not valid
    pub sets_no : set_is_valid p ≡ false → false ≡ sets_are_valid 0 (sets_from n s)
    sets_no k =
        sym
        (before.answer
        ∙ valid_next last next refl k
        ∙ and-false (ltb last p.first && firsts_rise p.first (drop (i + 1) (sets_from n s))))

    -- its first date is, and it is
    pub sets_turn : last < p.first → set_is_valid p ≡ true → SetsLeft s n p.first (i + 1)
    unfolding sets_are_valid
    sets_turn k v =
        record {
          within = omega arith;
          answer = before.answer ∙ valid_next last next (lt-ltb last p.first k) v;
        }

  -- none is left
  pub sets_end : {last i : ℕ} → SetsLeft s n last i → n ≤ i → true ≡ sets_are_valid 0 (sets_from n s)
  unfolding sets_are_valid firsts_rise all
  sets_end {last} {i} before h = sym (before.answer ∙ ap (sets_are_valid last) (no_set s n i h))

-- ---- which of them is in force

-- none of the sets from i on has begun
pub record NoneLater (s : List ℕ) (n date i : ℕ) : Type 0 where
  pub within : i ≤ n
  pub later : set_in_force date (drop i (sets_from n s)) ≡ none

-- what is in force among the last of the sets is in force among all
in_force_drop : (date i : ℕ) (ps : List ParameterSet) {p : ParameterSet} → set_in_force date (drop i ps) ≡ some p → set_in_force date ps ≡ some p
unfolding set_in_force or_else
in_force_drop date zero ps e = e
in_force_drop date (suc i) [] e = e
in_force_drop date (suc i) (q ∷ ps) {p = p} e = ap (λ (o : Option ParameterSet). or_else o (begun date q)) (in_force_drop date i ps e)

-- the last of the sets so far, where none behind it is in force
force_next : (date : ℕ) {zs : List ParameterSet} {p : ParameterSet} {rest : List ParameterSet} {b : Bool} → zs ≡ p ∷ rest → set_in_force date rest ≡ none → leb p.first date ≡ b
    → set_in_force date zs ≡ cond b (some p) none
unfolding set_in_force or_else begun
force_next date {p = p} {rest = rest} {b = b} e h k =
    ap (set_in_force date) e
    ∙ ap (λ (o : Option ParameterSet). or_else o (begun date p)) h
    ∙ ap (λ (t : Bool). cond {A = Option ParameterSet} t (some p) none) k

module _ {s : List ℕ} {n date : ℕ} where
  -- behind the last
  pub later_start : NoneLater s n date n
  unfolding set_in_force
  later_start = record { within = omega arith; later = ap (set_in_force date) (no_set s n n (omega arith)) }

  module _ {i a : ℕ} (before : NoneLater s n date i) (h : 0 < i) (place : a ≡ 6 + 24 * (i - 1)) {p : ParameterSet} (e : p ≡ set_of (take (a + 24 - a) (drop a s))) where
    next_down : drop (i - 1) (sets_from n s) ≡ p ∷ drop i (sets_from n s)
    next_down =
        let k : i - 1 + 1 ≡ i = omega arith in
        rw k at (next_set s n (i - 1) place (omega (arith, before.within)) e)

    -- the next one down has begun
    pub later_yes : p.first ≤ date → set_in_force date (sets_from n s) ≡ some p
    later_yes k = in_force_drop date (i - 1) (sets_from n s) (force_next date next_down before.later (le-leb p.first date k))

    -- it has not
    pub later_no : date < p.first → NoneLater s n date (i - 1)
    later_no k =
        record { within = omega (arith, before.within); later = force_next date next_down before.later (lt-leb p.first date k) }

  -- none is left
  pub later_end : {i : ℕ} → NoneLater s n date i → i ≤ 0 → set_in_force date (sets_from n s) ≡ none
  later_end {i} before h =
      let e : i ≡ 0 = omega arith in
      rw e at before.later
