-- Twelve sums for each user, trade by trade: a trade that is counted at the places of its parties gives what stands to one sum of each. Assumes nothing.
use Rattle.base.specs.Basics.{◌≡◌, refl, sym, ap, ap₂, ◌∙◌, Bool, List, map, ℕ, zero, suc, ◌+◌, ◌*◌, ◌≤◌, ◌<◌, add-one, arith, T, ltb→lt, pos, ◌+ℤ◌}
use Rattle.base.specs.Basics.{◌-ℤ◌, length, take, get_or, set, replicate, length-map, length-set, length-replicate, get_or-map, get_or-set_same}
use Rattle.base.specs.Basics.{get_or-set_other, take_all}
use Rattle.base.specs.Lists.{all}
use Rattle.book_records.specs.User.{alone}
use Rattle.rules.specs.Book.{Terms, Trade, User, nobody, at, defined_position}
use Rattle.rules.specs.Questions.{eqb_ℤ, position_valid, positions_are_valid}
use Rattle.base.proofs.Fronts.{get_or_inside}
use Rattle.book_parties.specs.Ids.{ids_of, place_in, Rising}
use Rattle.book_sums.specs.Positions.{position_as, position_from, positions_from}
use Rattle.book_sums.specs.Sums.{given, given_by, parties_among, places_of}
use Rattle.book_sums.specs.Twelve.{slot, added, Addable, Twelve, TwelveOf}
use Rattle.book_sums.proofs.Sums.{in_order, given_own, given_other, given_apart, given_next, given_more, seller-among, buyer-among, in_area, place_low, given_sold, given_bought}

-- ---- one trade more

module _ (p : ℕ) (t : Trade) (sums : List ℕ) (day_low : t.terms.day < 2) (area_low : t.terms.area < 3) where
  -- a sum of the same side
  added_own : (side : ℕ) → slot p side t.terms.day t.terms.area < length sums → (i area day : ℕ) → area < 3 → day < 2
      → get_or (added side p t sums) (slot i side day area) 0 ≡ get_or sums (slot i side day area) 0 + given day p t i area
  unfolding added
  added_own side room i area day h k =
      in_order i p
      (λ l. apart (λ e. omega arith) (given_other day p t i area (λ e. omega arith)))
      (λ l. in_order day t.terms.day
      (λ m. apart (λ e. omega arith) (given_next day p t i area (λ e. omega arith)))
      (λ m. in_order area t.terms.area
      (λ n. apart (λ e. omega arith) (given_apart day p t i area (λ e. omega arith)))
      (λ n. own l m n)
      (λ n. apart (λ e. omega arith) (given_apart day p t i area (λ e. omega arith))))
      (λ m. apart (λ e. omega arith) (given_next day p t i area (λ e. omega arith))))
      (λ l. apart (λ e. omega arith) (given_other day p t i area (λ e. omega arith)))
    where
      at_slot : ℕ
      at_slot = slot p side t.terms.day t.terms.area

      apart : (slot i side day area ≡ at_slot → ⊥) → given day p t i area ≡ 0
          → get_or (set sums at_slot (get_or sums at_slot 0 + t.standing)) (slot i side day area) 0 ≡ get_or sums (slot i side day area) 0 + given day p t i area
      apart e g = omega (arith, g, get_or-set_other sums at_slot (slot i side day area) (get_or sums at_slot 0 + t.standing) 0 e)

      own : i ≡ p → day ≡ t.terms.day → area ≡ t.terms.area
          → get_or (set sums at_slot (get_or sums at_slot 0 + t.standing)) (slot i side day area) 0 ≡ get_or sums (slot i side day area) 0 + given day p t i area
      own e f g =
          rw (e, f, g)
          (omega (arith, given_own t.terms.day p t p t.terms.area refl refl refl, get_or-set_same sums at_slot (get_or sums at_slot 0 + t.standing) 0 room))

  -- a sum of the other side
  added-other : (side other : ℕ) → side + other ≡ 1 → (i area day : ℕ) → area < 3 → day < 2
      → get_or (added side p t sums) (slot i other day area) 0 ≡ get_or sums (slot i other day area) 0
  unfolding added
  added-other side other e i area day h k =
      let at_slot = slot p side t.terms.day t.terms.area in
      get_or-set_other sums at_slot (slot i other day area) (get_or sums at_slot 0 + t.standing) 0 (λ f. omega arith)

-- two sums that are raised by as much
both_low : (xs : List ℕ) (k l v : ℕ) → (l ≡ k → ⊥) → k < length xs → l < length xs → (j : ℕ)
    → get_or (set (set xs k (get_or xs k 0 + v)) l (get_or (set xs k (get_or xs k 0 + v)) l 0 + v)) j 0 ≤ get_or xs j 0 + v
both_low xs k l v differ h i j =
    let ys = set xs k (get_or xs k 0 + v) in
    in_order j l
    (λ m. other (λ e. omega arith))
    (λ m. rw m (omega (arith, get_or-set_same ys l (get_or ys l 0 + v) 0 (omega (arith, length-set xs k (get_or xs k 0 + v))), get_or-set_other xs k l (get_or xs k 0 + v) 0 differ)))
    (λ m. other (λ e. omega arith))
  where
    first : get_or (set xs k (get_or xs k 0 + v)) j 0 ≤ get_or xs j 0 + v
    first =
        in_order j k
        (λ m. omega (arith, get_or-set_other xs k j (get_or xs k 0 + v) 0 (λ e. omega arith)))
        (λ m. rw m (omega (arith, get_or-set_same xs k (get_or xs k 0 + v) 0 h)))
        (λ m. omega (arith, get_or-set_other xs k j (get_or xs k 0 + v) 0 (λ e. omega arith)))

    other : (j ≡ l → ⊥) → get_or (set (set xs k (get_or xs k 0 + v)) l (get_or (set xs k (get_or xs k 0 + v)) l 0 + v)) j 0 ≤ get_or xs j 0 + v
    other e = omega (arith, first, get_or-set_other (set xs k (get_or xs k 0 + v)) l j (get_or (set xs k (get_or xs k 0 + v)) l 0 + v) 0 e)

-- ---- the trades so far

pub twelve_none : (ps qs : List ℕ) (ts : List Trade) → Twelve (take 0 ps) (take 0 qs) (take 0 ts) 0 (replicate 768 0)
unfolding given_by
twelve_none ps qs ts =
    record {
      of_sold = record { each = λ i area day h k. zeros 768 (slot i 0 day area) };
      of_bought = record { each = λ i area day h k. zeros 768 (slot i 1 day area) };
      low = λ k. omega (arith, zeros 768 k);
      room = length-replicate {A = ℕ} 768 0;
    }
  where
    zeros : (n k : ℕ) → get_or {A = ℕ} (replicate n 0) k 0 ≡ 0
    zeros zero k = refl
    zeros (suc n) zero = refl
    zeros (suc n) (suc k) = zeros n k

module _ (ids : List ℕ) (ts : List Trade) (few : length ids ≤ 64) where
  -- the place of a party of the trade at hand
  place_at : (side : Terms → ℕ) (d : Trade) {k p : ℕ} {t : Trade} → k < length ts → t ≡ get_or ts k d → p ≡ place_in ids (side t.terms) → p ≡ get_or (places_of ids side ts) k 0
  place_at side d {k} h e place =
      let f : Trade → ℕ = λ u. place_in ids (side u.terms) in
      place ∙ ap f e ∙ sym (get_or_inside (map f ts) k 0 (f d) (rw (length-map ts f) h) ∙ get_or-map f ts k d)

  -- one trade more gives to a side
  given_next_among : (side : Terms → ℕ) (d : Trade) {k p : ℕ} {t : Trade} → k < length ts → t ≡ get_or ts k d → p ≡ place_in ids (side t.terms) → (i area day : ℕ)
      → given_by day (take (k + 1) (places_of ids side ts)) (take (k + 1) ts) i area
      ≡ given_by day (take k (places_of ids side ts)) (take k ts) i area + given day p t i area
  given_next_among side d {k} {p} {t} h e place i area day =
      rw add-one
      (given_more day (places_of ids side ts) ts k d i area (rw (length-map ts (λ (u : Trade). place_in ids (side u.terms))) h) h
      ∙ ap₂ (λ (q : ℕ) (u : Trade). given_by day (take k (places_of ids side ts)) (take k ts) i area + given day q u i area) (sym (place_at side d h e place)) (sym e))

  module _ {k p q : ℕ} {sums : List ℕ} {t : Trade} (d : Trade) (h : k < length ts) (e : t ≡ get_or ts k d) (parties : T (parties_among ids t))
      (day : t.terms.day < 2) (small : t.standing ≤ 100000) (f : p ≡ place_in ids t.terms.seller) (g : q ≡ place_in ids t.terms.buyer)
      (so_far : Twelve (take k (places_of ids (λ r. r.seller) ts)) (take k (places_of ids (λ r. r.buyer) ts)) (take k ts) (k * 100000) sums) where
    area : t.terms.area < 3
    area = ltb→lt t.terms.area 3 (in_area ids t parties)

    seller_low : p < 64
    seller_low = rw f (place_low ids (λ r. r.seller) (seller-among ids) t parties few)

    buyer_low : q < 64
    buyer_low = rw g (place_low ids (λ r. r.buyer) (buyer-among ids) t parties few)

    -- the next trade can be counted for its seller
    pub addable_sold : k ≤ 256 → Addable 0 p t sums
    addable_sold few = record { place = seller_low; of_side = omega arith; day = day; area = area; low = λ j. omega (arith, so_far.low j) }

    -- and then for its buyer
    pub addable_bought : k ≤ 256 → Addable 1 q t (added 0 p t sums)
    unfolding added
    addable_bought few =
        record {
          place = buyer_low;
          of_side = omega arith;
          day = day;
          area = area;
          low = λ j. one_low j;
        }
      where
        s : ℕ
        s = slot p 0 t.terms.day t.terms.area

        one_low : (j : ℕ) → get_or (set sums s (get_or sums s 0 + t.standing)) j 0 + t.standing ≤ 4294967295
        one_low j =
            in_order j s
            (λ m. omega (arith, so_far.low j, get_or-set_other sums s j (get_or sums s 0 + t.standing) 0 (λ e. omega arith)))
            (λ m. rw m (omega (arith, so_far.low s, so_far.room, seller_low, area, get_or-set_same sums s (get_or sums s 0 + t.standing) 0 (omega (arith, so_far.room, seller_low, area)))))
            (λ m. omega (arith, so_far.low j, get_or-set_other sums s j (get_or sums s 0 + t.standing) 0 (λ e. omega arith)))

    -- one trade more, counted for both
    pub twelve_next : Twelve (take (k + 1) (places_of ids (λ r. r.seller) ts)) (take (k + 1) (places_of ids (λ r. r.buyer) ts)) (take (k + 1) ts) ((k + 1) * 100000) (added 1 q t (added 0 p t sums))
    unfolding added
    twelve_next =
        let s = slot p 0 t.terms.day t.terms.area in
        let b = slot q 1 t.terms.day t.terms.area in
        let once = added 0 p t sums in
        let s_in : s < length sums = omega (arith, so_far.room, seller_low, area) in
        let b_in : b < length sums = omega (arith, so_far.room, buyer_low, area) in
        let b-once : b < length once = omega (arith, b_in, length-set sums s (get_or sums s 0 + t.standing)) in
        record {
          of_sold = record {
            each = λ i a c l m.
                added-other q t once day area 1 0 (omega arith) i a c l m
                ∙ added_own p t sums day area 0 s_in i a c l m
                ∙ ap (λ (n : ℕ). n + given c p t i a) (so_far.of_sold.each i a c l m)
                ∙ sym (given_next_among (λ r. r.seller) d h e f i a c);
          };
          of_bought = record {
            each = λ i a c l m.
                added_own q t once day area 1 b-once i a c l m
                ∙ ap (λ (n : ℕ). n + given c q t i a) (added-other p t sums day area 0 1 (omega arith) i a c l m ∙ so_far.of_bought.each i a c l m)
                ∙ sym (given_next_among (λ r. r.buyer) d h e g i a c);
          };
          low = λ j. omega (arith, so_far.low j, small, both_low sums s b t.standing (λ x. omega (arith, area, day)) s_in b_in j);
          room = length-set once b (get_or once b 0 + t.standing) ∙ length-set sums s (get_or sums s 0 + t.standing) ∙ so_far.room;
        }

-- all of them
pub twelve_all : (ids : List ℕ) (ts : List Trade) {k : ℕ} {sums : List ℕ} → k ≡ length ts → length ts ≤ 256
    → Twelve (take k (places_of ids (λ r. r.seller) ts)) (take k (places_of ids (λ r. r.buyer) ts)) (take k ts) (k * 100000) sums
    → Twelve (places_of ids (λ r. r.seller) ts) (places_of ids (λ r. r.buyer) ts) ts 25600000 sums
twelve_all ids ts {k} {sums} e many so_far =
    record {
      of_sold = record { each = λ i a c l m. so_far.of_sold.each i a c l m ∙ whole (λ r. r.seller) i a c };
      of_bought = record { each = λ i a c l m. so_far.of_bought.each i a c l m ∙ whole (λ r. r.buyer) i a c };
      low = λ j. omega (arith, so_far.low j);
      room = so_far.room;
    }
  where
    whole : (side : Terms → ℕ) (i a c : ℕ) → given_by c (take k (places_of ids side ts)) (take k ts) i a ≡ given_by c (places_of ids side ts) ts i a
    whole side i a c =
        let f : Trade → ℕ = λ t. place_in ids (side t.terms) in
        ap₂ (λ (ps : List ℕ) (us : List Trade). given_by c ps us i a) (take_all k (map f ts) (omega (arith, length-map ts f))) (take_all k ts (omega arith))

-- ---- what users sold and bought, by the sums

module _ (us : List User) (ts : List Trade) (rising : Rising (ids_of us)) (parties : T (all (parties_among (ids_of us)) ts)) where
  -- the sums of all trades are 01's
  pub twelve_of : {most : ℕ} {sums : List ℕ} → Twelve (places_of (ids_of us) (λ r. r.seller) ts) (places_of (ids_of us) (λ r. r.buyer) ts) ts most sums → TwelveOf us ts sums
  twelve_of {sums = sums} w =
      record {
        sold_at = λ i area day h k l.
            let same : 12 * i + 3 * day + area ≡ slot i 0 day area = omega arith in
            ap (λ (n : ℕ). get_or sums n 0) same ∙ w.of_sold.each i area day k l ∙ given_sold us ts rising parties day i area nobody h;
        bought_at = λ i area day h k l.
            let same : 12 * i + 6 + 3 * day + area ≡ slot i 1 day area = omega arith in
            ap (λ (n : ℕ). get_or sums n 0) same ∙ w.of_bought.each i area day k l ∙ given_bought us ts rising parties day i area nobody h;
      }

-- ---- positions by the sums

module _ {us : List User} {ts : List Trade} {sums : List ℕ} (w : TwelveOf us ts sums) (i : ℕ) (h : i < length us) where
  position_is : (area : ℕ) → area < 3 → position_from (get_or us i nobody) sums i area ≡ position_valid ts (get_or us i nobody) area
  unfolding position_from position_as position_valid defined_position
  position_is area k =
      let u = get_or us i nobody in
      let of_sold : 12 * i + area ≡ 12 * i + 3 * 0 + area = omega arith in
      let of_bought : 12 * i + 6 + area ≡ 12 * i + 6 + 3 * 0 + area = omega arith in
      ap₂ (λ (x y : ℕ). eqb_ℤ (at u.position area) (at u.physical area +ℤ pos x -ℤ pos y))
      (ap (λ (n : ℕ). get_or sums n 0) of_bought ∙ w.bought_at i area 0 h k (omega arith)) (ap (λ (n : ℕ). get_or sums n 0) of_sold ∙ w.sold_at i area 0 h k (omega arith))

  positions_are : positions_from (get_or us i nobody) sums i ≡ positions_are_valid ts (get_or us i nobody)
  unfolding positions_from positions_are_valid
  positions_are = rw (position_is 0 (omega arith), position_is 1 (omega arith), position_is 2 (omega arith))

  -- the test of the positions, by what was found of the sums
  pub as_asked : {u : User} {found answer : Bool} → u ≡ alone (get_or us i nobody) → found ≡ positions_from u sums i → found ≡ answer → positions_are_valid ts (get_or us i nobody) ≡ answer
  unfolding alone positions_from position_from
  as_asked is f a = sym positions_are ∙ ap (λ (v : User). positions_from v sums i) (sym is) ∙ sym f ∙ a
