-- Users and trades in bytes that are asked one by one: where a walk over them stands, its start, a turn and its ends. Assumes nothing.
use Rattle.base.specs.Basics.{◌≡◌, refl, sym, ap, subst, ◌∙◌, Bool, true, false, ◌&&◌, List, [], ℕ, ◌+◌, ◌-◌, ◌*◌, ◌<◌, ◌≤◌, arith, T, eqb, ltb}
use Rattle.base.specs.Basics.{ltb→lt, length, take, drop, get_or, set, replicate, length-replicate, eq-eqb, ltb-false, ne_eqb}
use mathlib.Core.Bool.{and-true}
use Rattle.rules.specs.Book.{User, Trade}
use Rattle.base.specs.Lists.{all}
use Rattle.rules.specs.Questions.{guarantees_valid, user_is_valid, users_are_valid}
use Rattle.base.proofs.Tests.{and-false, and_l, and_r, by_case, holds}
use Rattle.fields.specs.Field.{field}
use Rattle.fields.proofs.Field.{field_part}
use Rattle.fields.proofs.Records.{length-records_of}
use Rattle.book_records.specs.User.{alone, user_of}
use Rattle.book_records.specs.Trade.{trade_of}
use Rattle.book_parties.specs.Ids.{users_from, trades_from, ids_of, place_in}
use Rattle.book_questions.specs.Zeros.{trade_zeros_in, user_zeros_in}
use Rattle.book_questions.specs.Asked.{UsersAsked, TradesAsked, leading, trade_among}
use Rattle.book_sums.specs.Sums.{places_of}
use Rattle.book_sums.specs.Twelve.{added, Addable, Twelve}
use Rattle.book_sums.proofs.Twelve.{twelve_none, addable_sold, addable_bought, twelve_next, twelve_all}
use Rattle.book_sums.proofs.Walk.{record_at, user_at_lem, Passed, passed_start, passed_no, passed_turn, passed_end}
use Rattle.fields.proofs.Sets.{rest_set}
use Rattle.book_questions.proofs.Loops.{UsersLeft, users_start, users_id_no, users_no, users_turn, users_end, Listed, listed_start, listed_turn, listed_end, Led, led_start, led_no, led_turn, led_end}
use Rattle.book_questions.proofs.Zeros.{ZerosLeft, role_no, role_yes, zeros_end, zeros_start, zeros_turn}
use Rattle.book_questions.proofs.Known.{valid_rising, trade_among_parties, trade_among_day, trade_among_small}

-- ---- users

-- where i of n users were valid: those left have the whole answer, and the ids of those passed are listed
pub record UsersWalk (s : List ℕ) (size at n : ℕ) (ids : List ℕ) (last i : ℕ) : Type 0 where
  pub within : i ≤ n
  pub left : UsersLeft (users_from size at n s) last i
  pub listed : Listed (λ u. u.party.id) (users_from size at n s) 64 ids i
  pub rest : drop i ids ≡ replicate (64 - i) 4294967295
  pub zeros : ZerosLeft 3 5 size s at n i true

-- a test that is answered by no, beside another
no_first : {a : Bool} (b : Bool) → false ≡ a → false ≡ (a && b)
no_first b e = ap (λ (x : Bool). x && b) e

second_true : (a b : Bool) → (a && b) ≡ true → b ≡ true
second_true true b e = e
second_true false b e = absurd (subst (λ (x : Bool). T x → ⊥) e (λ t. t) tt)

no_second : (a : Bool) {b : Bool} → false ≡ b → false ≡ (a && b)
no_second a e = sym (and-false a) ∙ ap (λ (x : Bool). a && x) e

-- there are n users
users_length : (s : List ℕ) (size at n : ℕ) → length (users_from size at n s) ≡ n
users_length s size at n = length-records_of size user_of n (drop at s)

module _ {s : List ℕ} {size at n : ℕ} where
  -- before the first
  pub users_walk_start : {ids : List ℕ} → ids ≡ replicate 64 4294967295 → UsersWalk s size at n ids 0 0
  users_walk_start e =
      record {
        within = omega arith;
        left = users_start (users_from size at n s);
        listed = listed_start (ap length e ∙ length-replicate {A = ℕ} 64 4294967295);
        rest = e;
        zeros = zeros_start;
      }

  module _ {ids : List ℕ} {last i a : ℕ} (wide : 56 ≤ size) (walk : UsersWalk s size at n ids last i) (h : i < n) (place : a ≡ at + size * i) {u : User} (e : u ≡ user_of (take (a + 56 - a) (drop a s))) where
    -- the next user is the one that was read
    user_inside : i < length (users_from size at n s)
    user_inside = rw (users_length s size at n) h

    user_read : u ≡ alone (get_or (users_from size at n s) i (user_of []))
    user_read = user_at_lem size s at n i (user_of []) wide place h e

    -- whose id and fields are read
    abbrev next : User
    next = get_or (users_from size at n s) i (user_of [])

    same_id : u.party.id ≡ next.party.id
    unfolding alone
    same_id = ap (λ (x : User). x.party.id) user_read

    same_valid : user_is_valid u ≡ user_is_valid next
    unfolding alone user_is_valid guarantees_valid
    same_valid = ap user_is_valid user_read

    -- its role is read
    same_role : u.party.role ≡ field 1 (a + 4) s
    unfolding user_of
    same_role = ap (λ (x : User). x.party.role) e ∙ field_part 1 4 a (a + 56 - a) s (omega arith)

    valid_role : user_is_valid u ≡ true → field 1 (a + 4) s < 2
    unfolding user_is_valid
    valid_role v =
        let h : T (user_is_valid u) = holds v in
        omega (arith, same_role, ltb→lt u.party.role 2 (search (and_l, and_r)))

    abbrev AskedAs : Bool → Type 0
    AskedAs answer = UsersAsked (users_from size at n s) (user_zeros_in size at n s && users_are_valid (users_from size at n s)) n answer ids

    answer_no : false ≡ (user_zeros_in size at n s && users_are_valid (users_from size at n s)) → AskedAs false
    answer_no k = record { answer = k; padded = λ t. absurd t; listed = λ t. absurd t }

    -- its id is not above the last
    pub users_walk_id_no : u.party.id ≤ last → AskedAs false
    users_walk_id_no k =
        answer_no (no_second (user_zeros_in size at n s) (users_id_no (users_from size at n s) (user_of []) walk.left user_inside refl (omega (arith, k, same_id))))

    -- a field of it is not valid
    field_no : user_is_valid u ≡ false → AskedAs false
    field_no k = answer_no (no_second (user_zeros_in size at n s) (users_no (users_from size at n s) (user_of []) walk.left user_inside refl (sym same_valid ∙ k)))

    module _ {role : ℕ} (is : role ≡ field 4 (a + 4) s) where
      -- its zero bytes are not 0, or a field of it is not valid
      pub users_walk_no : (ltb role 2 && user_is_valid u) ≡ false → AskedAs false
      users_walk_no k =
          by_case (user_is_valid u)
          (λ v. answer_no
          (no_first (users_are_valid (users_from size at n s))
          (sym (zeros_turn walk.zeros place h (omega arith) (role_no a s is (ltb-false role 2 (sym (and-true (ltb role 2)) ∙ ap (λ (x : Bool). ltb role 2 && x) (sym v) ∙ k)) (valid_role v))).answer)))
          field_no

      -- its id is, and its fields are: its id is stored
      pub users_walk_turn : n ≤ 64 → last < u.party.id → (ltb role 2 && user_is_valid u) ≡ true → UsersWalk s size at n (set ids i u.party.id) u.party.id (i + 1)
      users_walk_turn few k both =
          let small = ltb→lt role 2 (and_l (ltb role 2) (user_is_valid u) (holds both)) in
          let valid = second_true (ltb role 2) (user_is_valid u) both in
          record {
            within = omega arith;
            left =
                subst (λ (id : ℕ). UsersLeft (users_from size at n s) id (i + 1)) (sym same_id)
                (users_turn (users_from size at n s) (user_of []) walk.left user_inside refl (omega (arith, k, same_id)) (sym same_valid ∙ valid));
            listed = listed_turn (user_of []) walk.listed user_inside (omega arith) same_id;
            rest = rest_set 64 i 4294967295 u.party.id ids walk.rest;
            zeros = zeros_turn walk.zeros place h (omega arith) (role_yes a s is small);
          }

  -- none is left
  pub users_walk_end : {ids : List ℕ} {last i : ℕ} → UsersWalk s size at n ids last i → n ≤ i → n ≤ 64 → UsersAsked (users_from size at n s) (user_zeros_in size at n s && users_are_valid (users_from size at n s)) n true ids
  unfolding ids_of
  users_walk_end {ids} {last} {i} walk h few =
      let over : i ≡ n = omega (arith, walk.within) in
      let past : length (users_from size at n s) ≤ i = rw (users_length s size at n) h in
      let valid = users_end (users_from size at n s) walk.left past in
      let ids_are : take n ids ≡ ids_of (users_from size at n s) = rw over at (listed_end walk.listed past) in
      record {
        answer = valid ∙ ap (λ (x : Bool). x && users_are_valid (users_from size at n s)) (zeros_end walk.zeros h);
        padded = λ t. record {
          full = walk.listed.full;
          few = few;
          rising = rw ids_are (valid_rising (users_from size at n s) (rw (← valid) tt));
          rest = rw over at walk.rest;
        };
        listed = λ t. ids_are;
      }

-- ---- trades

-- where i of m trades were valid between users of these ids: those left have the whole answer and the rest of the number, and of those
-- passed the places of the parties are listed, what stands is summed at each, and their zero bytes are 0
pub record TradesWalk (ids s : List ℕ) (at m : ℕ) (sellers buyers sums : List ℕ) (i : ℕ) : Type 0 where
  pub within : i ≤ m
  pub left : Passed (trade_among ids) (trades_from at m s) i
  pub counted : Led (trade_among ids) (trades_from at m s) i
  pub of_sellers : Listed (λ t. place_in ids t.terms.seller) (trades_from at m s) 256 sellers i
  pub of_buyers : Listed (λ t. place_in ids t.terms.buyer) (trades_from at m s) 256 buyers i
  pub twelve : Twelve (take i (places_of ids (λ r. r.seller) (trades_from at m s))) (take i (places_of ids (λ r. r.buyer) (trades_from at m s))) (take i (trades_from at m s)) (i * 100000) sums
  pub zeros : ZerosLeft 1 11 20 s at m i true

-- there are m trades
trades-length : (s : List ℕ) (at m : ℕ) → length (trades_from at m s) ≡ m
trades-length s at m = length-records_of 20 trade_of m (drop at s)

module _ {ids s : List ℕ} {at m : ℕ} where
  -- before the first
  pub trades_walk_start : {sellers buyers sums : List ℕ} → length sellers ≡ 256 → length buyers ≡ 256 → sums ≡ replicate 768 0
      → TradesWalk ids s at m sellers buyers sums 0
  trades_walk_start h k e =
      let ts = trades_from at m s in
      record {
        within = omega arith;
        left = passed_start;
        counted = led_start;
        of_sellers = listed_start h;
        of_buyers = listed_start k;
        twelve = rw e (twelve_none (places_of ids (λ r. r.seller) ts) (places_of ids (λ r. r.buyer) ts) ts);
        zeros = zeros_start;
      }

  module _ {sellers buyers sums : List ℕ} {i a : ℕ} (walk : TradesWalk ids s at m sellers buyers sums i) (h : i < m) (place : a ≡ at + 20 * i) {t : Trade} (e : t ≡ trade_of (take (a + 20 - a) (drop a s))) where
    -- the next trade is the one that was read
    trade_inside : i < length (trades_from at m s)
    trade_inside = rw (trades-length s at m) h

    trade_read : t ≡ get_or (trades_from at m s) i (trade_of [])
    trade_read = record_at 20 trade_of s at m i (trade_of []) place h e

    -- it is not valid
    pub trades_walk_no : trade_among ids t ≡ false → TradesAsked ids (trades_from at m s) (trade_zeros_in at m s) false i sellers buyers sums
    trades_walk_no k =
        record {
          counted = led_no (trade_of []) walk.counted trade_inside (ap (trade_among ids) (sym trade_read) ∙ k);
          answer = no_second (trade_zeros_in at m s) (passed_no (trade_of []) walk.left trade_inside (ap (trade_among ids) (sym trade_read) ∙ k));
          placed = λ t. absurd t;
          twelve = λ t. absurd t;
          whole = λ t. absurd t;
        }

    -- its zero byte is not 0
    pub trades_walk_zero : {zero read : ℕ} → zero ≡ field 1 (a + 11) s → (zero ≡ 0 → ⊥) → read ≡ leading (trade_among ids) (trades_from at m s)
        → TradesAsked ids (trades_from at m s) (trade_zeros_in at m s) false read sellers buyers sums
    trades_walk_zero {zero} z k c =
        record {
          counted = c;
          answer =
              no_first (all (trade_among ids) (trades_from at m s))
              (sym (zeros_turn walk.zeros place h (omega arith) (ap (λ (x : ℕ). eqb x 0) (sym z) ∙ ne_eqb zero 0 k)).answer);
          placed = λ t. absurd t;
          twelve = λ t. absurd t;
          whole = λ t. absurd t;
        }

    module _ {p q : ℕ} (few : length ids ≤ 64) (many : m ≤ 256) (k : trade_among ids t ≡ true) (f : p ≡ place_in ids t.terms.seller) (g : q ≡ place_in ids t.terms.buyer) where
      valid : T (trade_among ids t)
      valid = rw k tt

      -- it is: it can be counted for its seller
      pub trades_walk_sold : Addable 0 p t sums
      trades_walk_sold =
          addable_sold ids (trades_from at m s) few (trade_of []) trade_inside trade_read (trade_among_parties ids t valid) (trade_among_day ids t valid) (trade_among_small ids t valid) f g walk.twelve (omega arith)

      -- and for its buyer
      pub trades_walk_bought : {xs : List ℕ} → xs ≡ added 0 p t sums → Addable 1 q t xs
      trades_walk_bought x =
          rw x
          (addable_bought ids (trades_from at m s) few (trade_of []) trade_inside trade_read (trade_among_parties ids t valid) (trade_among_day ids t valid) (trade_among_small ids t valid) f g walk.twelve (omega arith))

      -- the places of its parties are stored, and it is counted
      pub trades_walk_turn : {xs ys : List ℕ} {zero : ℕ} → xs ≡ added 0 p t sums → ys ≡ added 1 q t xs → zero ≡ field 1 (a + 11) s → zero ≡ 0
          → TradesWalk ids s at m (set sellers i p) (set buyers i q) ys (i + 1)
      trades_walk_turn {zero = zero} x y z o =
          record {
            within = omega arith;
            left = passed_turn (trade_of []) walk.left trade_inside (ap (trade_among ids) (sym trade_read) ∙ k);
            counted = led_turn (trade_of []) walk.counted trade_inside (ap (trade_among ids) (sym trade_read) ∙ k);
            of_sellers = listed_turn (trade_of []) walk.of_sellers trade_inside (omega arith) (f ∙ ap (λ (x : Trade). place_in ids x.terms.seller) trade_read);
            of_buyers = listed_turn (trade_of []) walk.of_buyers trade_inside (omega arith) (g ∙ ap (λ (x : Trade). place_in ids x.terms.buyer) trade_read);
            twelve =
                rw (y, x)
                (twelve_next ids (trades_from at m s) few (trade_of []) trade_inside trade_read (trade_among_parties ids t valid) (trade_among_day ids t valid) (trade_among_small ids t valid) f g walk.twelve);
            zeros = zeros_turn walk.zeros place h (omega arith) (ap (λ (k : ℕ). eqb k 0) (sym z) ∙ eq-eqb zero 0 o);
          }

  -- none is left
  pub trades_walk_end : {sellers buyers sums : List ℕ} {i : ℕ} → TradesWalk ids s at m sellers buyers sums i → m ≤ i → m ≤ 256
      → TradesAsked ids (trades_from at m s) (trade_zeros_in at m s) true m sellers buyers sums
  trades_walk_end {sellers} {buyers} {sums} {i = i} walk h many =
      let ts = trades_from at m s in
      let full = trades-length s at m in
      let last : i ≡ m = omega (arith, walk.within) in
      let past : length ts ≤ i = rw full h in
      let over : i ≡ length ts = rw full last in
      record {
        counted = sym last ∙ led_end walk.counted past;
        answer = passed_end walk.left past ∙ ap (λ (x : Bool). x && all (trade_among ids) ts) (zeros_end walk.zeros h);
        placed = λ t us e. record {
          of_sellers = rw (← over, e) (listed_end walk.of_sellers past);
          of_buyers = rw (← over, e) (listed_end walk.of_buyers past);
        };
        twelve = λ t. twelve_all ids ts over (rw full many) walk.twelve;
        whole = λ t. sym full;
      }

-- ---- trades that are only counted

module _ (ids s : List ℕ) (at m : ℕ) {i : ℕ} (led : Led (trade_among ids) (trades_from at m s) i) where
  module _ {a : ℕ} (h : i < m) (place : a ≡ at + 20 * i) {t : Trade} (e : t ≡ trade_of (take (a + 20 - a) (drop a s))) where
    next_is : {answer : Bool} → trade_among ids t ≡ answer → trade_among ids (get_or (trades_from at m s) i (trade_of [])) ≡ answer
    next_is k = ap (trade_among ids) (sym (record_at 20 trade_of s at m i (trade_of []) place h e)) ∙ k

    -- the next one is not valid
    pub count_no : trade_among ids t ≡ false → i ≡ leading (trade_among ids) (trades_from at m s)
    count_no k = led_no (trade_of []) led (rw (trades-length s at m) h) (next_is k)

    -- it is
    pub count_turn : trade_among ids t ≡ true → Led (trade_among ids) (trades_from at m s) (i + 1)
    count_turn k = led_turn (trade_of []) led (rw (trades-length s at m) h) (next_is k)

  -- none is left
  pub count_end : i ≡ m → m ≡ leading (trade_among ids) (trades_from at m s)
  count_end h = sym h ∙ led_end led (rw (trades-length s at m) (omega arith))
