-- Sums trade by trade: a trade that is counted at the place of its party gives its part to that user's sum alone. Assumes nothing.
use Rattle.base.specs.Basics.{◌≡◌, refl, sym, ap, ap₂, ◌∙◌, Bool, true, false, cond, ◌&&◌, List, [], ◌∷◌, map, ℕ, zero, suc, ◌+◌, ◌≤◌, ◌<◌}
use Rattle.base.specs.Basics.{not-suc-le-zero, le_of_suc-le-suc, arith, T, eqb, ltb, ltb→lt, length, take, get_or, length-map, get_or-map, eq-eqb}
use Rattle.base.specs.Basics.{ne_eqb, ltb-true, ltb-false}
use Rattle.base.specs.Sums.{sum}
use Rattle.base.specs.Lists.{all}
use Rattle.rules.specs.Book.{Terms, Trade, User, dealt, sold, bought}
use Rattle.base.proofs.Tests.{and_l, and_r}
use Rattle.base.proofs.Fronts.{get_or_inside}
use Rattle.book_parties.specs.Ids.{ids_of, among, place_in, Rising}
use Rattle.book_parties.proofs.Known.{place_in_among}
use Rattle.book_parties.proofs.Rising.{length_ids, place_in_holds}
use Rattle.book_sums.specs.Sums.{given, given_by, parties_among, places_of}
use Rattle.book_sums.proofs.Positions.{same_eqb}

-- two numbers are in one of three orders
pub in_order : {P : Type 0} (i j : ℕ) → (i < j → P) → (i ≡ j → P) → (j < i → P) → P
in_order {P} i j f g h = go (ltb i j) refl (ltb j i) refl
  where
    go : (a : Bool) → ltb i j ≡ a → (b : Bool) → ltb j i ≡ b → P
    go true e b k = f (ltb-true i j e)
    go false e true k = h (ltb-true j i k)
    go false e false k = g (omega (arith, ltb-false i j e, ltb-false j i k))

-- ---- one trade more

module _ (day party : ℕ) (t : Trade) (i area : ℕ) where
  -- the whole, to the sum of its party in its area for its day
  pub given_own : party ≡ i → t.terms.area ≡ area → t.terms.day ≡ day → given day party t i area ≡ t.standing
  unfolding given
  given_own e f g = rw (eq-eqb party i e, eq-eqb t.terms.area area f, eq-eqb t.terms.day day g)

  -- nothing at another place
  pub given_other : (party ≡ i → ⊥) → given day party t i area ≡ 0
  unfolding given
  given_other e = rw (ne_eqb party i e)

  -- nothing to another area
  pub given_apart : (t.terms.area ≡ area → ⊥) → given day party t i area ≡ 0
  unfolding given
  given_apart e = rw (ne_eqb t.terms.area area e) (go (eqb party i))
    where
      go : (b : Bool) → cond {A = ℕ} b 0 0 ≡ 0
      go true = refl
      go false = refl

  -- nothing for another day
  pub given_next : (t.terms.day ≡ day → ⊥) → given day party t i area ≡ 0
  unfolding given
  given_next e = rw (ne_eqb t.terms.day day e) (go (eqb party i) (eqb t.terms.area area))
    where
      go : (b c : Bool) → cond {A = ℕ} b (cond (c && false) t.standing 0) 0 ≡ 0
      go true true = refl
      go true false = refl
      go false c = refl

-- ---- the trades so far

-- what one trade more gives
pub given_more : (day : ℕ) (ps : List ℕ) (ts : List Trade) (k : ℕ) (d : Trade) (i area : ℕ) → k < length ps → k < length ts
    → given_by day (take (suc k) ps) (take (suc k) ts) i area ≡ given_by day (take k ps) (take k ts) i area + given day (get_or ps k 0) (get_or ts k d) i area
unfolding given_by
given_more day [] ts k d i area h l = absurd (not-suc-le-zero h)
given_more day (p ∷ ps) [] k d i area h l = absurd (not-suc-le-zero l)
given_more day (p ∷ ps) (t ∷ ts) zero d i area h l = omega arith
given_more day (p ∷ ps) (t ∷ ts) (suc k) d i area h l =
    omega (arith, given_more day ps ts k d i area (le_of_suc-le-suc h) (le_of_suc-le-suc l))

-- ---- the places of the parties

module _ (ids : List ℕ) (rising : Rising ids) where
  -- a party has the place i where its id stands there
  same_place : (party i : ℕ) → T (among ids party) → i < length ids → eqb (place_in ids party) i ≡ eqb party (get_or ids i 0)
  same_place party i known h =
      let p = place_in ids party in
      let below : p < length ids = ltb→lt p (length ids) (rw (place_in_among ids party) known) in
      let own : get_or ids p 0 ≡ party = place_in_holds ids party below in
      same_eqb p i party (get_or ids i 0)
      (λ e. sym own ∙ ap (λ (j : ℕ). get_or ids j 0) e)
      (λ e. in_order p i (λ l. absurd (omega (arith, own, rising.rise p i l h))) (λ l. l) (λ l. absurd (omega (arith, own, rising.rise i p l below))))

  module _ (side : Terms → ℕ) (has : (t : Trade) → T (parties_among ids t) → T (among ids (side t.terms))) where
    -- what trades give at the place of an id is what the party of that id dealt for the day
    given_dealt : (day : ℕ) (ts : List Trade) → T (all (parties_among ids) ts) → (i area : ℕ) → i < length ids
        → given_by day (map (λ t. place_in ids (side t.terms)) ts) ts i area ≡ dealt side (λ party. eqb party (get_or ids i 0)) ts area day
    unfolding given_by given dealt sum all
    given_dealt day [] h i area k = refl
    given_dealt day (t ∷ ts) h i area k =
        let own = same_place (side t.terms) i (has t (and_l (parties_among ids t) (all (parties_among ids) ts) h)) k in
        let rest = given_dealt day ts (and_r (parties_among ids t) (all (parties_among ids) ts) h) i area k in
        ap₂ (λ (b : Bool) (n : ℕ). cond b (cond (eqb t.terms.area area && eqb t.terms.day day) t.standing 0) 0 + n) own rest

module _ (ids : List ℕ) (side : Terms → ℕ) (has : (t : Trade) → T (parties_among ids t) → T (among ids (side t.terms))) where
  -- the place of a party is that of one of 64 users
  pub place_low : (t : Trade) → T (parties_among ids t) → length ids ≤ 64 → place_in ids (side t.terms) < 64
  place_low t k few =
      let p = place_in ids (side t.terms) in
      let below : p < length ids = ltb→lt p (length ids) (rw (place_in_among ids (side t.terms)) (has t k)) in
      omega (arith, below, few)

module _ (ids : List ℕ) (t : Trade) (h : T (parties_among ids t)) where
  -- both parties are among the ids, and the area is one of the three
  pub seller-among : T (among ids t.terms.seller)
  unfolding parties_among
  seller-among =
      let a = among ids t.terms.seller in
      let b = among ids t.terms.buyer in
      and_l a b (and_l (a && b) (ltb t.terms.area 3) h)

  pub buyer-among : T (among ids t.terms.buyer)
  unfolding parties_among
  buyer-among =
      let a = among ids t.terms.seller in
      let b = among ids t.terms.buyer in
      and_r a b (and_l (a && b) (ltb t.terms.area 3) h)

  pub in_area : T (ltb t.terms.area 3)
  unfolding parties_among
  in_area = and_r (among ids t.terms.seller && among ids t.terms.buyer) (ltb t.terms.area 3) h

-- ---- what users sold and bought, by the sums

-- the id at a place is that of the user there
id_at : (us : List User) (i : ℕ) (d : User) → i < length us → get_or (ids_of us) i 0 ≡ (get_or us i d).party.id
unfolding ids_of
id_at us i d h =
    let f : User → ℕ = λ u. u.party.id in
    get_or_inside (map f us) i 0 (f d) (rw (length-map us f) h) ∙ get_or-map f us i d

module _ (us : List User) (ts : List Trade) (rising : Rising (ids_of us)) (parties : T (all (parties_among (ids_of us)) ts)) where
  module _ (day i area : ℕ) (d : User) (h : i < length us) where
    -- what the trades give at the place of a user is what it sold, or bought
    pub given_sold : given_by day (places_of (ids_of us) (λ r. r.seller) ts) ts i area ≡ sold ts (get_or us i d).party.id area day
    unfolding sold
    given_sold =
        given_dealt (ids_of us) rising (λ r. r.seller) (seller-among (ids_of us)) day ts parties i area (rw (length_ids us) h)
        ∙ ap (λ (id : ℕ). dealt (λ r. r.seller) (λ party. eqb party id) ts area day) (id_at us i d h)

    pub given_bought : given_by day (places_of (ids_of us) (λ r. r.buyer) ts) ts i area ≡ bought ts (get_or us i d).party.id area day
    unfolding bought
    given_bought =
        given_dealt (ids_of us) rising (λ r. r.buyer) (buyer-among (ids_of us)) day ts parties i area (rw (length_ids us) h)
        ∙ ap (λ (id : ℕ). dealt (λ r. r.buyer) (λ party. eqb party id) ts area day) (id_at us i d h)
