-- The trades of a book, one after the other: the places of those who bear the risk of their parties are listed, and what stands is counted at each. Assumes nothing.
use Rattle.base.specs.Basics.{◌≡◌, refl, sym, ap, subst, ◌∙◌, Bool, ◌&&◌, List, [], ◌∷◌, ℕ, suc, ◌+◌, ◌*◌, ◌≤◌, ◌<◌, arith, T, ltb, ltb→lt}
use Rattle.base.specs.Basics.{length, take, get_or, set, replicate, length-map, lt-ltb}
use Rattle.base.specs.Lists.{all}
use Rattle.base.proofs.Fronts.{all_at}
use Rattle.base.proofs.Tests.{all_by, and_i, and_l, and_r}
use Rattle.book_format.proofs.Held.{accepted_ids, accepted_trades}
use Rattle.book_format.proofs.Passed.{length-trades_of, length-users_of}
use Rattle.book_format.specs.Book.{count_of_trades, trades_of, count_of_users, users_of}
use Rattle.book_parties.proofs.Known.{place_in_among}
use Rattle.book_parties.proofs.Rising.{rising_ids}
use Rattle.book_parties.specs.Ids.{BookIn, among, ids_of, place_in}
use Rattle.book_questions.proofs.Loops.{Listed, listed_end, listed_start, listed_turn}
use Rattle.book_sums.proofs.Twelve.{addable_bought, addable_sold, twelve_all, twelve_next, twelve_none, twelve_of}
use Rattle.book_sums.specs.Sums.{parties_among, places_of}
use Rattle.book_sums.specs.Twelve.{Addable, Low, Twelve, added}
use Rattle.risk_bearers.proofs.Places.{party_within, placed_at}
use Rattle.laws.proofs.Bounds.{standing_le}
use Rattle.laws.proofs.Positions.{buyer_known, seller_known}
use Rattle.laws.proofs.Settle.{area-lt}
use Rattle.rules.specs.Book.{Trade, User, no_trade}
use Rattle.rules.specs.Questions.{codes_valid, known, trade_is_valid}
use Rattle.risk_bearers.specs.Bearers.{AllBorne, BearersIn, BorneAs, SummedAt, bearer_in}

-- what holds at each place holds of all
all_from : {A : Type 0} (p : A → Bool) (xs : List A) (d : A) → ((i : ℕ) → i < length xs → T (p (get_or xs i d))) → T (all p xs)
unfolding all
all_from p [] d h = tt
all_from p (x ∷ xs) d h = and_i (p x) (all p xs) (h 0 (omega arith)) (all_from p xs d (λ i l. h (suc i) (omega arith)))

-- the day of a valid trade is one of the two
valid_day : (us : List User) (t : Trade) → T (trade_is_valid us t) → t.terms.day < 2
unfolding trade_is_valid codes_valid
valid_day us t h = ltb→lt t.terms.day 2 (search (and_l, and_r))

-- ---- a trade counts by its area, its day and what stands alone

module _ {ids table : List ℕ} {t r : Trade} (like : BorneAs ids table t r) where
  added_same : (side p : ℕ) (sums : List ℕ) → added side p t sums ≡ added side p r sums
  unfolding added
  added_same side p sums = rw (like.area, like.day, like.standing)

  addable_same : {side p : ℕ} {sums : List ℕ} → Addable side p r sums → Addable side p t sums
  addable_same a =
      record {
        place = a.place;
        of_side = a.of_side;
        day = omega (arith, a.day, like.day);
        area = omega (arith, a.area, like.area);
        low = λ k. omega (arith, a.low k, like.standing);
      }

-- ---- trade by trade

-- i of some trades are passed: the places of their parties are listed, and what stands is counted at each
pub record PassedTo (ids : List ℕ) (rs : List Trade) (sellers buyers sums : List ℕ) (i : ℕ) : Type 0 where
  pub of_sellers : Listed (λ t. place_in ids t.terms.seller) rs 256 sellers i
  pub of_buyers : Listed (λ t. place_in ids t.terms.buyer) rs 256 buyers i
  pub twelve : Twelve (take i (places_of ids (λ r. r.seller) rs)) (take i (places_of ids (λ r. r.buyer) rs)) (take i rs) (i * 100000) sums

-- of all trades as they are borne
pub record BorneTo (s table sellers buyers sums : List ℕ) (i : ℕ) : Type 0 where
  pub passed : (rs : List Trade) → AllBorne (ids_of (users_of s)) table (trades_of s) rs → PassedTo (ids_of (users_of s)) rs sellers buyers sums i

module _ (s table : List ℕ) where
  pub borne_start : {sellers buyers sums : List ℕ} → length sellers ≡ 256 → length buyers ≡ 256 → sums ≡ replicate 768 0 → BorneTo s table sellers buyers sums 0
  borne_start h k e =
      record {
        passed = λ rs b. record {
          of_sellers = listed_start h;
          of_buyers = listed_start k;
          twelve = let ids = ids_of (users_of s) in rw e (twelve_none (places_of ids (λ r. r.seller) rs) (places_of ids (λ r. r.buyer) rs) rs);
        };
      }

  module _ (sellers buyers : List ℕ) (b : BookIn s sellers buyers) (inside : BearersIn (count_of_users s) table) {i : ℕ} (l : i < count_of_trades s) where
    abbrev ids : List ℕ
    ids = ids_of (users_of s)

    abbrev t : Trade
    t = get_or (trades_of s) i no_trade

    ids_count : length ids ≡ count_of_users s
    unfolding ids_of
    ids_count = length-map (users_of s) (λ u. u.party.id) ∙ length-users_of s

    few : length ids ≤ 64
    few = omega (arith, ids_count, b.accepted.held.form.users)

    valid : T (trade_is_valid (users_of s) t)
    valid = all_at (trade_is_valid (users_of s)) (trades_of s) (accepted_trades b.accepted) i no_trade (omega (arith, length-trades_of s))

    -- the trade's area is one, and its parties are users
    pub trade_area : (get_or (trades_of s) i no_trade).terms.area < 3
    trade_area = area-lt (users_of s) t valid

    pub seller_low : get_or sellers i 0 < count_of_users s
    seller_low =
        omega (
          arith,
          length-users_of s,
          party_within (λ r. r.seller) (users_of s) (trades_of s) sellers (accepted_ids b.accepted) (all_by (trade_is_valid (users_of s)) (λ x. known (users_of s) x.terms.seller) (seller_known (users_of s)) (trades_of s) (accepted_trades b.accepted))
              b.placed.of_sellers {i = i} (omega (arith, length-trades_of s)) refl,
        )

    pub buyer_low : get_or buyers i 0 < count_of_users s
    buyer_low =
        omega (
          arith,
          length-users_of s,
          party_within (λ r. r.buyer) (users_of s) (trades_of s) buyers (accepted_ids b.accepted) (all_by (trade_is_valid (users_of s)) (λ x. known (users_of s) x.terms.buyer) (buyer_known (users_of s)) (trades_of s) (accepted_trades b.accepted))
              b.placed.of_buyers {i = i} (omega (arith, length-trades_of s)) refl,
        )

    -- the trade as it is borne
    module _ {rs : List Trade} (borne : AllBorne (ids_of (users_of s)) table (trades_of s) rs) {p q : ℕ}
        (f : p ≡ bearer_in table (get_or sellers i 0) (get_or (trades_of s) i no_trade).terms.area) (g : q ≡ bearer_in table (get_or buyers i 0) (get_or (trades_of s) i no_trade).terms.area) where
      abbrev r : Trade
      r = get_or rs i no_trade

      abbrev like : BorneAs ids table t (get_or rs i no_trade)
      like = borne.each i (omega (arith, length-trades_of s))

      passed_inside : i < length rs
      passed_inside = omega (arith, borne.same, length-trades_of s)

      seller_is : p ≡ place_in ids (get_or rs i no_trade).terms.seller
      seller_is =
          f
          ∙ ap (λ (k : ℕ). bearer_in table k t.terms.area) (placed_at (λ r. r.seller) (users_of s) (trades_of s) sellers b.placed.of_sellers i no_trade (omega (arith, length-trades_of s)))
          ∙ sym like.seller

      buyer_is : q ≡ place_in ids (get_or rs i no_trade).terms.buyer
      buyer_is =
          g
          ∙ ap (λ (k : ℕ). bearer_in table k t.terms.area) (placed_at (λ r. r.buyer) (users_of s) (trades_of s) buyers b.placed.of_buyers i no_trade (omega (arith, length-trades_of s)))
          ∙ sym like.buyer

      known_at : {k : ℕ} (id : ℕ) → k ≡ place_in ids id → k < count_of_users s → T (among ids id)
      known_at id e h = subst T (sym (lt-ltb (place_in ids id) (length ids) (omega (arith, ids_count))) ∙ place_in_among ids id) tt

      parties : T (parties_among ids (get_or rs i no_trade))
      unfolding parties_among
      parties =
          let low-p = inside.inside (get_or sellers i 0) t.terms.area seller_low trade_area in
          let low-q = inside.inside (get_or buyers i 0) t.terms.area buyer_low trade_area in
          and_i (among ids r.terms.seller && among ids r.terms.buyer) (ltb r.terms.area 3)
          (and_i (among ids r.terms.seller) (among ids r.terms.buyer) (known_at r.terms.seller seller_is (omega (arith, f, low-p))) (known_at r.terms.buyer buyer_is (omega (arith, g, low-q))))
          (subst T (sym (lt-ltb r.terms.area 3 (omega (arith, like.area, trade_area)))) tt)

      day_low : (get_or rs i no_trade).terms.day < 2
      day_low = omega (arith, like.day, valid_day (users_of s) t valid)

      small : (get_or rs i no_trade).standing ≤ 100000
      small = omega (arith, like.standing, standing_le (users_of s) t valid)

      few_trades : i ≤ 256
      few_trades = omega (arith, b.accepted.held.form.trades)

      module _ {sellers' buyers' sums : List ℕ} (walk : PassedTo (ids_of (users_of s)) rs sellers' buyers' sums i) {u : Trade} (read : u ≡ get_or (trades_of s) i no_trade) where
        -- it can be counted on both sides
        pub borne_sold : Addable 0 p u sums
        borne_sold = rw read (addable_same like (addable_sold ids rs few no_trade passed_inside refl parties day_low small seller_is buyer_is walk.twelve few_trades))

        once_is : {xs : List ℕ} → xs ≡ added 0 p u sums → xs ≡ added 0 p (get_or rs i no_trade) sums
        once_is x = x ∙ ap (λ (y : Trade). added 0 p y sums) read ∙ added_same like 0 p sums

        pub borne_bought : {xs : List ℕ} → xs ≡ added 0 p u sums → Addable 1 q u xs
        borne_bought x =
            rw read
            (addable_same like
            (rw (once_is x)
            (addable_bought ids rs few no_trade passed_inside refl parties day_low small seller_is buyer_is walk.twelve few_trades)))

        pub passed_turn : {xs ys : List ℕ} → xs ≡ added 0 p u sums → ys ≡ added 1 q u xs
            → PassedTo (ids_of (users_of s)) rs (set sellers' i p) (set buyers' i q) ys (i + 1)
        passed_turn {xs} x y =
            record {
              of_sellers = listed_turn no_trade walk.of_sellers passed_inside (omega (arith, b.accepted.held.form.trades)) seller_is;
              of_buyers = listed_turn no_trade walk.of_buyers passed_inside (omega (arith, b.accepted.held.form.trades)) buyer_is;
              twelve =
                  rw (y ∙ ap (λ (z : Trade). added 1 q z xs) read ∙ added_same like 1 q xs, once_is x)
                  (twelve_next ids rs few no_trade passed_inside refl parties day_low small seller_is buyer_is walk.twelve);
            }

-- ---- all of them

module _ (s table sellers buyers : List ℕ) (b : BookIn s sellers buyers) (inside : BearersIn (count_of_users s) table) where
  -- the places that are counted are those that are listed
  pub borne_turn : {i p q m n : ℕ} {sellers' buyers' sums xs ys : List ℕ} {u : Trade} → i < count_of_trades s → BorneTo s table sellers' buyers' sums i → u ≡ get_or (trades_of s) i no_trade
      → p ≡ bearer_in table (get_or sellers i 0) (get_or (trades_of s) i no_trade).terms.area → q ≡ bearer_in table (get_or buyers i 0) (get_or (trades_of s) i no_trade).terms.area
      → m ≡ p → n ≡ q → xs ≡ added 0 m u sums → ys ≡ added 1 n u xs → BorneTo s table (set sellers' i p) (set buyers' i q) ys (i + 1)
  borne_turn {sums = sums} {xs = xs} {u = u} l walk read f g h k x y =
      record {
        passed = λ rs borne.
            passed_turn s table sellers buyers b inside l borne f g (walk.passed rs borne) read (x ∙ ap (λ (j : ℕ). added 0 j u sums) h) (y ∙ ap (λ (j : ℕ). added 1 j u xs) k);
      }

  module _ {sellers' buyers' sums : List ℕ} {i : ℕ} (last : i ≡ count_of_trades s) (walk : BorneTo s table sellers' buyers' sums i)
      {rs : List Trade} (borne : AllBorne (ids_of (users_of s)) table (trades_of s) rs) where
    over : i ≡ length rs
    over = omega (arith, borne.same, length-trades_of s)

    all_passed : Twelve (places_of (ids_of (users_of s)) (λ r. r.seller) rs) (places_of (ids_of (users_of s)) (λ r. r.buyer) rs) rs 25600000 sums
    all_passed = twelve_all (ids_of (users_of s)) rs over (omega (arith, borne.same, length-trades_of s, b.accepted.held.form.trades)) (walk.passed rs borne).twelve

    pub borne_low : Low sums
    borne_low = record { low = all_passed.low }

    all_parties : T (all (parties_among (ids_of (users_of s))) rs)
    all_parties = all_from (parties_among (ids_of (users_of s))) rs no_trade each
      where
        each : (k : ℕ) → k < length rs → T (parties_among (ids_of (users_of s)) (get_or rs k no_trade))
        each k h = parties s table sellers buyers b inside (omega (arith, borne.same, length-trades_of s)) borne refl refl

    pub borne_end : SummedAt (users_of s) rs sellers' buyers' sums
    borne_end =
        let past : length rs ≤ i = omega (arith, over) in
        let w = walk.passed rs borne in
        record {
          placed = record { of_sellers = rw (← over) (listed_end w.of_sellers past); of_buyers = rw (← over) (listed_end w.of_buyers past) };
          twelve = twelve_of (users_of s) rs (rising_ids (users_of s) (accepted_ids b.accepted)) all_parties all_passed;
        }
