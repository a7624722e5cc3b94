-- The trades that a party may see, counted and looked for by ordinal, one trade after the other. Assumes nothing.
use Rattle.base.specs.Basics.{◌≡◌, ◌∙◌, ap, ap₂, refl, sym, subst, Bool, true, false, cond, ◌&&◌, ◌||◌, List, [], ◌∷◌, map, ℕ, suc, zero, ◌+◌, ◌*◌}
use Rattle.base.specs.Basics.{◌-◌, ◌<◌, ◌≤◌, add-one, not-suc-le-zero, le_of_suc-le-suc, arith, T, eqb, ltb, ltb→lt, get_or-eq_default}
use Rattle.base.specs.Basics.{get_or-map, drop, get_or, length, length-map, take, drop-drop, get_or-take, le-ltb, lt-ltb}
use Rattle.fields.proofs.Records.{get_or-records_of, length-records_of}
use Rattle.base.proofs.Fronts.{all_at, get_or_inside}
use Rattle.laws.proofs.Positions.{buyer_known, seller_known}
use Rattle.laws.proofs.Users.{known-id}
use Rattle.book_format.proofs.Held.{accepted_trades}
use Rattle.book_format.proofs.OneUser.{find_place, place_known}
use Rattle.book_format.proofs.Passed.{length-trades_of, length-users_of}
use Rattle.book_format.specs.Book.{book_of, count_of_trades, trades_at, trades_of, users_of}
use Rattle.book_format.specs.Questions.{parts_of}
use Rattle.book_records.specs.Trade.{trade_of}
use Rattle.book_format.specs.Held.{Accepted}
use Rattle.book_format.specs.Places.{UserIn}
use Rattle.book_format.specs.Steps.{place_of}
use Rattle.book_parties.proofs.Known.{place_in_place_of}
use Rattle.book_parties.specs.Ids.{BookIn, PlacedOn, ids_of, place_in}
use Rattle.rules.specs.Book.{Terms, Trade, User, find, no_trade, nobody}
use Rattle.rules.specs.Levels.{Limits}
use Rattle.base.proofs.Tests.{and_l, and_r}
use Rattle.rules.specs.Questions.{after, amounts_valid, codes_valid, first_of, known, parties_valid, refusal, trade_is_valid}
use Rattle.rights.proofs.Parts.{records_parts}
use Rattle.rights.specs.Seen.{trades_shown}
use Rattle.rights.specs.Trades.{Told, about_user, id_of, tells, told_after, told_number, trade_shown_at, trade_start}
use Rattle.rights.specs.Trades as asking
use Rattle.views.proofs.Kept.{get_d_kept, place_map}
use Rattle.rules.specs.Bearers.{as_borne, bearer}
use Rattle.laws_sales.specs.Kept.{kept}
use Rattle.views.specs.Kept.{place_kept}
use Rattle.views.specs.Views.{sees_trade}
use Rattle.call_told.proofs.Asked.{told_found, told_refused}
use Rattle.call_told.specs.Seen.{sees_at, stands_for}
use Rattle.call_told.specs.Told.{TradeAfter}

-- ---- the parties of a trade by their places

module _ (side : Terms → ℕ) (side_known : (us : List User) (t : Trade) → T (trade_is_valid us t) → T (known us (side t.terms))) (s ps : List ℕ)
    (b : Accepted s) (placed : PlacedOn side (users_of s) (trades_of s) ps) (i : ℕ) (l : i < count_of_trades s) where
  party_known : T (known (users_of s) (side (get_or (trades_of s) i no_trade).terms))
  party_known =
      side_known (users_of s) (get_or (trades_of s) i no_trade)
      (all_at (trade_is_valid (users_of s)) (trades_of s) (accepted_trades b) i no_trade (omega (arith, length-trades_of s)))

  party_place : get_or ps i 0 ≡ place_of (users_of s) (side (get_or (trades_of s) i no_trade).terms)
  party_place =
      let us = users_of s in
      let ts = trades_of s in
      let one : Trade → ℕ = λ t. place_in (ids_of us) (side t.terms) in
      let k : i < length ts = omega (arith, length-trades_of s) in
      sym (get_or-take (length ts) ps i 0 k)
      ∙ ap (λ (xs : List ℕ). get_or xs i 0) placed
      ∙ get_or_inside (map one ts) i 0 (one no_trade) (omega (arith, length-map ts one))
      ∙ get_or-map one ts i no_trade
      ∙ place_in_place_of us (side (get_or ts i no_trade).terms)

  -- it is one of the users,
  pub party_in : {party : ℕ} → party ≡ get_or ps i 0 → UserIn s party
  party_in e =
      let p = side (get_or (trades_of s) i no_trade).terms in
      record {
        form = b.held.form;
        inside = omega (arith, e, party_place, length-users_of s, ltb→lt (place_of (users_of s) p) (length (users_of s)) (subst T (sym (place_known (users_of s) p)) party_known));
      }

  -- and the one of the trade's id there
  party_user : {party : ℕ} → party ≡ get_or ps i 0 → get_or (users_of s) party nobody ≡ find (users_of s) (side (get_or (trades_of s) i no_trade).terms)
  party_user e = ap (λ (p : ℕ). get_or (users_of s) p nobody) (e ∙ party_place) ∙ sym (find_place (users_of s) (side (get_or (trades_of s) i no_trade).terms))

  party-id : (find (users_of s) (side (get_or (trades_of s) i no_trade).terms)).party.id ≡ side (get_or (trades_of s) i no_trade).terms
  party-id = known-id (users_of s) (side (get_or (trades_of s) i no_trade).terms) party_known

four : (a x b y : Bool) → ((a || x) || (b || y)) ≡ ((a || b) || (x || y))
four true x b y = refl
four false true true y = refl
four false true false y = refl
four false false b y = refl

module _ (s sellers buyers : List ℕ) (b : BookIn s sellers buyers) (party : ℕ) where
  -- the test of the code is the rules'
  pub sees_is : {seller buyer : ℕ} (i : ℕ) → i < count_of_trades s → seller ≡ get_or sellers i 0 → buyer ≡ get_or buyers i 0
      → sees_at (users_of s) party seller buyer (get_or (trades_of s) i no_trade) ≡ sees_trade (users_of s) party (get_or (trades_of s) i no_trade)
  unfolding sees_at stands_for sees_trade as_borne
  sees_is i l e f =
      let t = get_or (trades_of s) i no_trade in
      let us = users_of s in
      let v = party_user (λ r. r.seller) seller_known s sellers b.accepted b.placed.of_sellers i l e in
      let w = party_user (λ r. r.buyer) buyer_known s buyers b.accepted b.placed.of_buyers i l f in
      let vi = party-id (λ r. r.seller) seller_known s sellers b.accepted b.placed.of_sellers i l in
      let wi = party-id (λ r. r.buyer) buyer_known s buyers b.accepted b.placed.of_buyers i l in
      ap₂ (λ (x y : User). (eqb x.party.id party || eqb (bearer x t.terms.area) party) || (eqb y.party.id party || eqb (bearer y t.terms.area) party)) v w
      ∙ four (eqb (find us t.terms.seller).party.id party) (eqb (bearer (find us t.terms.seller) t.terms.area) party) (eqb (find us t.terms.buyer).party.id party) (eqb (bearer (find us t.terms.buyer) t.terms.area) party)
      ∙ ap₂ (λ (x y : ℕ). (eqb x party || eqb y party) || (eqb (bearer (find us t.terms.seller) t.terms.area) party || eqb (bearer (find us t.terms.buyer) t.terms.area) party)) vi wi

-- ---- one trade after the other

module _ {A : Type 0} (p : A → Bool) (d : A) where
  -- the next element counts 1 where it passes
  next_counted : (xs : List A) (i : ℕ) → i < length xs → length (kept p (drop i xs)) ≡ cond (p (get_or xs i d)) 1 0 + length (kept p (drop (suc i) xs))
  unfolding kept
  next_counted [] i h = absurd (not-suc-le-zero h)
  next_counted (x ∷ xs) zero h = go (p x)
    where
      go : (c : Bool) → length (cond c (x ∷ kept p xs) (kept p xs)) ≡ cond c 1 0 + length (kept p xs)
      go true = omega arith
      go false = omega arith
  next_counted (x ∷ xs) (suc i) h = next_counted xs i (le_of_suc-le-suc h)

  -- and is the one looked for where no other is to be passed first
  next_found : (xs : List A) (i left : ℕ) → i < length xs → left < cond (p (get_or xs i d)) 1 0 → place_kept p (drop i xs) left ≡ 0
  unfolding place_kept
  next_found [] i left h l = absurd (not-suc-le-zero h)
  next_found (x ∷ xs) zero left h l = go (p x) left l refl
    where
      go : (c : Bool) (n : ℕ) → n < cond c 1 0 → p x ≡ c → place_kept p (x ∷ xs) n ≡ 0
      go true zero k e = rw e
      go true (suc n) k e = absurd (omega (arith, k))
      go false n k e = absurd (omega (arith, k))
  next_found (x ∷ xs) (suc i) left h l = next_found xs i left (le_of_suc-le-suc h) l

  next_passed : (xs : List A) (i left : ℕ) → i < length xs → cond (p (get_or xs i d)) 1 0 ≤ left
      → place_kept p (drop i xs) left ≡ suc (place_kept p (drop (suc i) xs) (left - cond (p (get_or xs i d)) 1 0))
  unfolding place_kept
  next_passed [] i left h l = absurd (not-suc-le-zero h)
  next_passed (x ∷ xs) zero left h l = go (p x) left l refl
    where
      go : (c : Bool) (n : ℕ) → cond c 1 0 ≤ n → p x ≡ c → place_kept p (x ∷ xs) n ≡ suc (place_kept p xs (n - cond c 1 0))
      go true zero k e = absurd (omega (arith, k))
      go true (suc n) k e = rw e (ap (λ (m : ℕ). suc (place_kept p xs m)) (omega arith))
      go false zero k e = rw e (ap (λ (m : ℕ). suc (place_kept p xs m)) (omega arith))
      go false (suc n) k e = rw e (ap (λ (m : ℕ). suc (place_kept p xs m)) (omega arith))
  next_passed (x ∷ xs) (suc i) left h l = next_passed xs i left (le_of_suc-le-suc h) l

  -- past the last there is none
  pub none_left : (xs : List A) (i left : ℕ) → length xs ≤ i → (length (kept p (drop i xs)) ≡ 0) × (place_kept p (drop i xs) left ≡ 0)
  unfolding kept place_kept
  none_left [] zero left h = (refl, refl)
  none_left [] (suc i) left h = (refl, refl)
  none_left (x ∷ xs) zero left h = absurd (not-suc-le-zero h)
  none_left (x ∷ xs) (suc i) left h = none_left xs i left (le_of_suc-le-suc h)

-- the area of a trade of the book
pub area_in : {s : List ℕ} → Accepted s → {i : ℕ} → i < count_of_trades s → (get_or (trades_of s) i no_trade).terms.area < 3
unfolding trade_is_valid codes_valid
area_in {s} b {i} l =
    let t = get_or (trades_of s) i no_trade in
    let valid = all_at (trade_is_valid (users_of s)) (trades_of s) (accepted_trades b) i no_trade (omega (arith, length-trades_of s)) in
    let codes = and_l (codes_valid t) (amounts_valid t) (and_r (parties_valid (users_of s) t) (codes_valid t && amounts_valid t) valid) in
    ltb→lt t.terms.area 3 (and_l (ltb t.terms.area 3) (ltb t.terms.kind 3 && ltb t.terms.day 2) codes)

-- counted so far, the first i looked at
pub record Counted (s : List ℕ) (party i count : ℕ) : Type 0 where
  pub few : count ≤ i
  pub whole : count + length (kept (sees_trade (users_of s) party) (drop i (trades_of s))) ≡ length (kept (sees_trade (users_of s) party) (trades_of s))

-- looked for, the first i looked at
pub record Looked (s : List ℕ) (party ordinal i left : ℕ) : Type 0 where
  pub most : i ≤ count_of_trades s
  pub place : i + place_kept (sees_trade (users_of s) party) (drop i (trades_of s)) left ≡ place_kept (sees_trade (users_of s) party) (trades_of s) ordinal

module _ {s sellers buyers : List ℕ} (b : BookIn s sellers buyers) (party : ℕ) {i seller buyer : ℕ} (l : i < count_of_trades s) (e : seller ≡ get_or sellers i 0) (f : buyer ≡ get_or buyers i 0)
    {seen : Bool} (told : seen ≡ sees_at (users_of s) party seller buyer (get_or (trades_of s) i no_trade)) where
  -- what the next trade counts
  one_is : (one : ℕ) {c : Bool} → seen ≡ c → one ≡ cond c 1 0 → one ≡ cond (sees_trade (users_of s) party (get_or (trades_of s) i no_trade)) 1 0
  one_is one h k = k ∙ ap (λ (x : Bool). cond x 1 0) (sym h ∙ told ∙ sees_is s sellers buyers b party i l e f)

  counted : (one : ℕ) → one ≤ 1 → one ≡ cond (sees_trade (users_of s) party (get_or (trades_of s) i no_trade)) 1 0 → {count : ℕ} → Counted s party i count → Counted s party (i + 1) (count + one)
  counted one most is {count} c =
      let p = sees_trade (users_of s) party in
      let n = next_counted p no_trade (trades_of s) i (omega (arith, length-trades_of s)) in
      record {
        few = omega (arith, c.few);
        whole = subst (λ (j : ℕ). count + one + length (kept p (drop j (trades_of s))) ≡ length (kept p (trades_of s))) (sym (add-one i)) (omega (arith, n, is, c.whole));
      }

  pub counted_next : {count : ℕ} → Counted s party i count → seen ≡ true → Counted s party (i + 1) (count + 1)
  counted_next c h = counted 1 (omega arith) (one_is 1 h refl) c

  pub uncounted_next : {count : ℕ} → Counted s party i count → seen ≡ false → Counted s party (i + 1) count
  uncounted_next c h = let r = counted 0 (omega arith) (one_is 0 h refl) c in record { few = omega (arith, r.few); whole = omega (arith, r.whole) }

  module _ {ordinal left : ℕ} (k : Looked s party ordinal i left) where
    pub looked_found : seen ≡ true → left ≡ 0 → i ≡ place_kept (sees_trade (users_of s) party) (trades_of s) ordinal
    looked_found h z =
        let n = next_found (sees_trade (users_of s) party) no_trade (trades_of s) i left (omega (arith, length-trades_of s)) (subst (λ (m : ℕ). left < m) (one_is 1 h refl) (omega (arith, z))) in
        omega (arith, n, k.place)

    passed : (one : ℕ) → one ≡ cond (sees_trade (users_of s) party (get_or (trades_of s) i no_trade)) 1 0 → one ≤ left → Looked s party ordinal (i + 1) (left - one)
    passed one is h =
        let p = sees_trade (users_of s) party in
        let n = next_passed p no_trade (trades_of s) i left (omega (arith, length-trades_of s)) (subst (λ (m : ℕ). m ≤ left) is h) in
        let m : place_kept p (drop i (trades_of s)) left ≡ suc (place_kept p (drop (suc i) (trades_of s)) (left - one))
        = n ∙ ap (λ (j : ℕ). suc (place_kept p (drop (suc i) (trades_of s)) (left - j))) (sym is) in
        record { most = omega (arith, l); place = subst (λ (j : ℕ). j + place_kept p (drop j (trades_of s)) (left - one) ≡ place_kept p (trades_of s) ordinal) (sym (add-one i)) (omega (arith, m, k.place)) }

    pub looked_next : seen ≡ true → (left ≡ 0 → ⊥) → Looked s party ordinal (i + 1) (left - 1)
    looked_next h z = passed 1 (one_is 1 h refl) (omega (arith, z))

    pub looked_past : seen ≡ false → Looked s party ordinal (i + 1) left
    looked_past h =
        let e : left - 0 ≡ left = omega arith in
        subst (λ (n : ℕ). Looked s party ordinal (i + 1) n) e (passed 0 (one_is 0 h refl) (omega arith))

-- ---- the bytes of the trade looked for

module _ (s : List ℕ) (party ordinal place : ℕ) (e : place ≡ place_kept (sees_trade (users_of s) party) (trades_of s) ordinal) where
  shown_at : get_or (trades_shown party s) ordinal [] ≡ get_or (parts_of 20 (count_of_trades s) (drop (trades_at s) s)) place []
  unfolding trades_shown trades_of
  shown_at =
      let parts = parts_of 20 (count_of_trades s) (drop (trades_at s) s) in
      let p = sees_trade (users_of s) party in
      get_d_kept (λ c. p (trade_of c)) [] parts ordinal
      ∙ ap (λ (k : ℕ). get_or parts k [])
      (place_map p trade_of parts ordinal ∙ ap (λ (ts : List Trade). place_kept p ts ordinal) (sym (records_parts 20 trade_of (count_of_trades s) (drop (trades_at s) s))) ∙ sym e)

  -- a trade of the book
  pub shown_trade : place < count_of_trades s → take 20 (drop (trades_at s + 20 * place) s) ≡ get_or (trades_shown party s) ordinal []
  unfolding parts_of
  shown_trade h =
      sym (shown_at ∙ get_or-records_of 20 (λ c. c) (count_of_trades s) place (drop (trades_at s) s) [] h ∙ ap (take 20) (drop-drop (20 * place) (trades_at s) s))

  -- past the last there is none
  pub shown_none : count_of_trades s ≤ place → [] ≡ get_or (trades_shown party s) ordinal []
  unfolding parts_of
  shown_none h =
      sym (shown_at ∙ get_or-eq_default (parts_of 20 (count_of_trades s) (drop (trades_at s) s)) [] (omega (arith, length-records_of 20 (λ c. c) (count_of_trades s) (drop (trades_at s) s), h)))

  -- where it begins
  pub starts_at : place < count_of_trades s → trade_start s (place_kept (sees_trade (users_of s) party) (trades_of s) ordinal) ≡ trades_at s + 20 * place
  unfolding trade_start
  starts_at h = rw (← e, lt-ltb place (count_of_trades s) h)

  pub starts_none : count_of_trades s ≤ place → trade_start s (place_kept (sees_trade (users_of s) party) (trades_of s) ordinal) ≡ 0
  unfolding trade_start
  starts_none h = rw (← e, le-ltb place (count_of_trades s) h)

-- ---- the part that is handed back

module _ (opened : ℕ) (s : List ℕ) (party ordinal : ℕ) {number : ℕ} (asked : number ≡ first_of opened (refusal (about_user (book_of s) party))) where
  -- refused
  pub part_refused : {book : ℕ × ℕ} → (number ≡ 0 → ⊥) → TradeAfter opened s party ordinal number [] book book
  unfolding told_number id_of trade_shown_at after
  part_refused h =
      record {
        asked = λ limits. ap (λ (r : Told). r.number) (told_refused opened s (asking.trade_of party ordinal) asked limits h);
        shows = λ limits. ap (λ (r : Told). r.part) (told_refused opened s (asking.trade_of party ordinal) asked limits h);
        block = refl;
        offset = let z = go number h in omega (arith, z);
      }
    where
      go : (n : ℕ) → (n ≡ 0 → ⊥) → 0 ≡ after n (λ m. 0) (trade_start s (place_kept (sees_trade (users_of s) party) (trades_of s) ordinal))
      go zero k = absurd (k refl)
      go (suc n) k = refl

  -- of the trade found, or past the last
  module _ (z : number ≡ 0) (limits : Limits) where
    pub found_number : number ≡ (told_after opened limits s (asking.trade_of party ordinal)).number
    unfolding tells id_of
    found_number = z ∙ ap (λ (r : Told). r.number) (told_found opened s (asking.trade_of party ordinal) asked limits z)

    pub found_part : get_or (trades_shown party s) ordinal [] ≡ (told_after opened limits s (asking.trade_of party ordinal)).part
    unfolding tells id_of
    found_part = ap (λ (r : Told). r.part) (told_found opened s (asking.trade_of party ordinal) asked limits z)

  pub found_start : number ≡ 0 → trade_start s (place_kept (sees_trade (users_of s) party) (trades_of s) ordinal) ≡ trade_shown_at number s party ordinal
  unfolding trade_shown_at after
  found_start z = ap (λ (n : ℕ). after n (λ m. 0) (trade_start s (place_kept (sees_trade (users_of s) party) (trades_of s) ordinal))) (sym z)
