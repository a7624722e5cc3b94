-- Users and trades by their ids: those of valid users rise, and a trade is valid between the ids where it is between the users. Assumes nothing.
use Rattle.base.specs.Basics.{◌≡◌, refl, sym, ap, ap₂, ◌∙◌, Bool, true, false, ◌&&◌, List, [], ◌∷◌, ℕ, ◌≤◌, ◌<◌, arith, T, ltb}
use Rattle.base.specs.Basics.{ltb→lt, leb→le, length, take}
use Rattle.base.specs.Lists.{all}
use Rattle.rules.specs.Book.{User, Trade}
use Rattle.rules.specs.Questions.{amounts_valid, codes_valid, ids_rise, trade_is_valid, user_is_valid, users_are_valid}
use Rattle.base.proofs.Tests.{all_by, and_i, and_l, and_r}
use Rattle.book_valid.specs.Given.{trade_is_valid_given}
use Rattle.book_valid.proofs.Known.{trade_is_valid_given-known}
use Rattle.book_parties.specs.Ids.{FoundIn, ids_of, among, Rising}
use Rattle.book_parties.proofs.Known.{among-known, place_among}
use Rattle.book_parties.proofs.Rising.{rising_ids}
use Rattle.book_sums.specs.Sums.{parties_among}
use Rattle.book_questions.specs.Asked.{trade_among}

-- an id is among the first n where it was found there
found_among : (xs : List ℕ) (n : ℕ) {id place : ℕ} {known : Bool} → n ≤ length xs → FoundIn (take n xs) n id place known → among (take n xs) id ≡ known
found_among xs n {id} h f = sym (place_among xs n id h) ∙ ap (λ (x : ℕ). ltb x n) (sym f.stands) ∙ sym f.told

-- a trade among them, by whether its parties were found
module _ (xs : List ℕ) (n : ℕ) (t : Trade) {p : ℕ} {seller_known : Bool} (h : n ≤ length xs) (seller : FoundIn (take n xs) n t.terms.seller p seller_known) where
  pub trade_no_seller : seller_known ≡ false → trade_among (take n xs) t ≡ false
  unfolding trade_among trade_is_valid_given
  trade_no_seller e = rw (found_among xs n h seller, e)

  module _ (e : seller_known ≡ true) {q : ℕ} {buyer_known : Bool} (buyer : FoundIn (take n xs) n t.terms.buyer q buyer_known) where
    pub trade_no_buyer : buyer_known ≡ false → trade_among (take n xs) t ≡ false
    unfolding trade_among trade_is_valid_given
    trade_no_buyer f = rw (found_among xs n h seller, e, found_among xs n h buyer, f)

    -- its test is then that of the other fields
    pub trade_found : {a b : Bool} → buyer_known ≡ true → a ≡ trade_is_valid_given true true t → a ≡ b → trade_among (take n xs) t ≡ b
    unfolding trade_among
    trade_found f g k = rw (found_among xs n h seller, e, found_among xs n h buyer, f) (sym g ∙ k)

  -- its test, given whether both were
  pub trade_given : {q : ℕ} {buyer_known a b : Bool} → FoundIn (take n xs) n t.terms.buyer q buyer_known → a ≡ trade_is_valid_given seller_known buyer_known t → a ≡ b → trade_among (take n xs) t ≡ b
  unfolding trade_among
  trade_given buyer g k = rw (found_among xs n h seller, found_among xs n h buyer) (sym g ∙ k)

pub trade_among_valid : (us : List User) (t : Trade) → trade_among (ids_of us) t ≡ trade_is_valid us t
unfolding trade_among
trade_among_valid us t = rw (among-known us t.terms.seller, among-known us t.terms.buyer) (trade_is_valid_given-known us t)

-- tests that are equal at every element give one answer
pub all_same : {A : Type 0} (p q : A → Bool) → ((x : A) → p x ≡ q x) → (xs : List A) → all p xs ≡ all q xs
unfolding all
all_same p q h [] = refl
all_same p q h (x ∷ xs) = ap₂ (λ (a b : Bool). a && b) (h x) (all_same p q h xs)

pub all-trade_among : (us : List User) (ts : List Trade) → all (trade_among (ids_of us)) ts ≡ all (trade_is_valid us) ts
all-trade_among us ts = all_same (trade_among (ids_of us)) (trade_is_valid us) (trade_among_valid us) ts

-- a valid trade can be counted for its parties
pub trade_among_parties : (ids : List ℕ) (t : Trade) → T (trade_among ids t) → T (parties_among ids t)
unfolding trade_among trade_is_valid_given parties_among codes_valid
trade_among_parties ids t h =
    and_i (among ids t.terms.seller && among ids t.terms.buyer) (ltb t.terms.area 3) (search (and_l, and_r)) (search (and_l, and_r))

-- its day is one of the two, and no more stands than 100,000 MWh
pub trade_among_day : (ids : List ℕ) (t : Trade) → T (trade_among ids t) → t.terms.day < 2
unfolding trade_among trade_is_valid_given codes_valid
trade_among_day ids t h = ltb→lt t.terms.day 2 (search (and_l, and_r))

pub trade_among_small : (ids : List ℕ) (t : Trade) → T (trade_among ids t) → t.standing ≤ 100000
unfolding trade_among trade_is_valid_given amounts_valid
trade_among_small ids t h =
    omega (arith, leb→le t.terms.notified 100000 (search (and_l, and_r)), leb→le t.standing t.terms.notified (search (and_l, and_r)))

pub all_parties : (ids : List ℕ) (ts : List Trade) → T (all (trade_among ids) ts) → T (all (parties_among ids) ts)
all_parties ids ts = all_by (trade_among ids) (parties_among ids) (trade_among_parties ids) ts

-- the ids of valid users rise
pub valid_rising : (us : List User) → T (users_are_valid us) → Rising (ids_of us)
unfolding users_are_valid
valid_rising us h = rising_ids us (and_l (ids_rise 0 us) (all user_is_valid us) h)
