-- The number that the answers to the questions 4 to 7 give, of users and trades and of bytes. Assumes nothing.
use Rattle.base.specs.Basics.{◌≡◌, refl, sym, ap, subst, ◌∙◌, Bool, false, true, cond, ◌&&◌, List, ℕ, ◌+◌, ◌-◌, ◌≤◌, arith, T, eqb, drop}
use Rattle.base.specs.Basics.{length, length-drop, take, drop-drop, take_all}
use Rattle.rules.specs.Areas.{Prices}
use Rattle.rules.specs.Book.{User, Trade}
use Rattle.base.specs.Lists.{all}
use Rattle.rules.specs.Levels.{Limits}
use Rattle.rules.specs.Questions.{after, first_of, groups_valid, header_is_valid, managers_are_valid, positions_are_valid, refusal, trade_is_valid, users_are_valid}
use Rattle.base.proofs.Tests.{and_l, and_r, or_r}
use Rattle.fields.specs.Field.{AllBytes, field}
use Rattle.fields.specs.Layout.{records_of}
use Rattle.book_records.specs.Trade.{trade_of, trade_zeros}
use Rattle.book_records.specs.User.{user_of, user_zeros}
use Rattle.book_format.proofs.Held.{accepted_of}
use Rattle.book_format.proofs.Offsets.{trades_there, user_range, users_end, users_there}
use Rattle.book_format.specs.Book.{book_of, size_of_header, prices_of, count_of_trades, trades_at, trades_of, count_of_users, size_of_user, users_of, version_of}
use Rattle.book_format.specs.Questions.{Formed, about_fields, about_form, book_number, form_number_of, marked, sized, trade_zeros_valid, user_zeros_valid, versioned}
use Rattle.book_parties.specs.Ids.{users_from, trades_from, ids_of}
use Rattle.book_sums.specs.Sums.{places_of}
use Rattle.book_sums.specs.Twelve.{SumsOf, Twelve, TwelveOf}
use Rattle.book_sums.proofs.Twelve.{twelve_of}
use Rattle.units.specs.Limits.{LimitsInRange}
use Rattle.book_questions.specs.Opened.{Opened, OpenedParties}
use Rattle.book_questions.specs.Zeros.{trade_zeros_in, user_zeros_in, zeros_in}
use Rattle.book_questions.specs.Asked.{all_valid, UsersAsked, TradesAsked, RecordsIn, RecordsAsked, FieldsPlaced, AskedOf, Summed, past_five, past_six, trades_read, leading, trade_among, records_number, fields_number_of}
use Rattle.book_questions.proofs.Known.{all-trade_among, all_parties, trade_among_valid, valid_rising}
use Rattle.book_questions.proofs.Loops.{leading_same}

-- ---- 5 to 7

-- a question before 6 that refuses: no trade is read, and nothing told of the sums
pub summed_none : {us : List User} {ts : List Trade} {count : ℕ} {sums : List ℕ} (number : ℕ) → (T (past_five number) → ⊥) → Summed us ts count number 0 sums
unfolding trades_read past_five
summed_none {us} {ts} number h =
    record {
      counted = go (past_five number) (leading (trade_is_valid us) ts) h;
      sums_are = λ p. absurd (h (or_r (eqb number 6) (past_six number) p));
      all_read = λ p. absurd (h (or_r (eqb number 6) (past_six number) p));
    }
  where
    go : (b : Bool) (n : ℕ) → (T b → ⊥) → 0 ≡ cond b n 0
    go true n f = absurd (f tt)
    go false n f = refl

-- where no question refuses, the sums are what each user sold and bought
pub sums_told : {us : List User} {ts : List Trade} {count number read : ℕ} {sums : List ℕ} → Summed us ts count number read sums → number ≡ 0
    → SumsOf us ts sums
unfolding past_six
sums_told {number = number} summed e = summed.sums_are (past_none e)
  where
    past_none : {k : ℕ} → k ≡ 0 → T (past_six k)
    past_none h = rw h tt

module _ (version : ℕ) (user_zeros : Bool) {us : List User} {ts : List Trade} {n : ℕ} {valid : Bool} {ids sellers buyers : List ℕ} (users : UsersAsked us (user_zeros && all_valid version us) n valid ids) where
  -- question 5 is answered by no
  pub records_5 : {trade_zeros : Bool} → valid ≡ false → RecordsAsked version user_zeros trade_zeros us ts 5 sellers buyers
  unfolding records_number refusal after
  records_5 h = record { asked = rw (sym users.answer ∙ h); placed = λ e. absurd (omega arith) }

  module _ {trade_zeros allowed : Bool} {read : ℕ} {sums : List ℕ} (trades : TradesAsked (take n ids) ts trade_zeros allowed read sellers buyers sums) (u : valid ≡ true) where
    -- the ids are those of users whose fields are valid
    listed : take n ids ≡ ids_of us
    listed = users.listed (rw u tt)

    users_are : T (users_are_valid us)
    users_are = and_l (users_are_valid us) (all (managers_are_valid version us) us) (and_r user_zeros (all_valid version us) (rw (← users.answer, u) tt))

    -- the answer to question 6 is that between the users
    trades_answer : allowed ≡ (trade_zeros && all (trade_is_valid us) ts)
    trades_answer = trades.answer ∙ ap (λ (b : Bool). trade_zeros && b) (ap (λ (xs : List ℕ). all (trade_among xs) ts) listed ∙ all-trade_among us ts)

    -- the sums are what the users sold and bought: question 7 can be asked
    pub records_sums : T allowed → TwelveOf us ts sums
    records_sums t =
        twelve_of us ts (valid_rising us users_are) (all_parties (ids_of us) ts (and_r trade_zeros (all (trade_among (ids_of us)) ts) (rw (← listed, ← trades.answer) t)))
        (subst (λ (xs : List ℕ). Twelve (places_of xs (λ r. r.seller) ts) (places_of xs (λ r. r.buyer) ts) ts 25600000 sums) listed (trades.twelve t))

    -- the number of trades that were read is that between the users
    pub records_read : (number : ℕ) → past_five number ≡ true → read ≡ trades_read us ts number
    unfolding trades_read
    records_read number e =
        trades.counted ∙ ap (λ (xs : List ℕ). leading (trade_among xs) ts) listed ∙ leading_same (trade_among (ids_of us)) (trade_is_valid us) (trade_among_valid us) ts ∙ rw e

    -- question 6 is answered by no
    pub records_6 : allowed ≡ false → RecordsAsked version user_zeros trade_zeros us ts 6 sellers buyers
    unfolding records_number refusal after
    records_6 h = record { asked = rw (sym users.answer ∙ u, sym trades_answer ∙ h); placed = λ e. absurd (omega arith) }

    -- nothing is then told of the sums
    pub summed_6 : {count : ℕ} → Summed us ts count 6 read sums
    unfolding past_six past_five
    summed_6 = record { counted = records_read 6 refl; sums_are = λ p. absurd p; all_read = λ p. absurd p }

    module _ (t : allowed ≡ true) where
      -- it is yes: they are told, whatever question 7 gives
      pub records_summed : {count : ℕ} (number : ℕ) → past_five number ≡ true → length ts ≡ count → Summed us ts count number read sums
      records_summed {count} number e all =
          record {
            counted = records_read number e;
            sums_are = λ p. record { twelve = records_sums (rw t tt); low = record { low = (trades.twelve (rw t tt)).low } };
            all_read = λ p. trades.whole (rw t tt) ∙ all;
          }

      module _ {right : Bool} (e : right ≡ all (positions_are_valid ts) us) where
        -- question 7 is answered by no
        pub records_7 : right ≡ false → RecordsAsked version user_zeros trade_zeros us ts 7 sellers buyers
        unfolding records_number refusal after
        records_7 h = record { asked = rw (sym users.answer ∙ u, sym trades_answer ∙ t, sym e ∙ h); placed = λ f. absurd (omega arith) }

        -- none is
        pub records_0 : right ≡ true → RecordsAsked version user_zeros trade_zeros us ts 0 sellers buyers
        unfolding records_number refusal after
        records_0 h = record { asked = rw (sym users.answer ∙ u, sym trades_answer ∙ t, sym e ∙ h); placed = λ f. trades.placed (rw t tt) us (sym listed) }

-- ---- the bytes from the users on

module _ (s : List ℕ) (at : ℕ) where
  -- a part up to the end is what is left
  part_all : take (length s - at) (drop at s) ≡ drop at s
  part_all = take_all (length s - at) (drop at s) (rw length-drop (omega arith))

  -- the users that it begins with
  same_users : (size n : ℕ) → users_from size 0 n (take (length s - at) (drop at s)) ≡ users_from size at n s
  same_users size n = ap (records_of size user_of n) part_all

  module _ (to : ℕ) (behind : at ≤ to) where
    -- and what stands behind them in it
    same_rest : drop (to - at) (take (length s - at) (drop at s)) ≡ drop to s
    same_rest =
        let k : at + (to - at) ≡ to = omega arith in
        ap (drop (to - at)) part_all ∙ drop-drop (to - at) at s ∙ ap (λ (i : ℕ). drop i s) k

    -- the trades
    same_trades : (m : ℕ) → trades_from (to - at) m (take (length s - at) (drop at s)) ≡ trades_from to m s
    same_trades m = ap (records_of 20 trade_of m) same_rest

    pub records_within : {size n m : ℕ} → RecordsIn size at n to m s → RecordsIn size 0 n (to - at) m (take (length s - at) (drop at s))
    records_within r =
        record {
          some = r.some;
          few = r.few;
          many = r.many;
          wide = r.wide;
          users = rw (part_all, length-drop) (omega (arith, r.users));
          trades = rw (part_all, length-drop) (omega (arith, r.trades));
        }

    -- so what is asked of it is asked of them
    pub records_from : (version size n m : ℕ) {r : ℕ} {sellers buyers : List ℕ}
        → let part = take (length s - at) (drop at s) in
        RecordsAsked version (user_zeros_in size 0 n part) (trade_zeros_in (to - at) m part) (users_from size 0 n part) (trades_from (to - at) m part) r sellers buyers
        → RecordsAsked version (user_zeros_in size at n s) (trade_zeros_in to m s) (users_from size at n s) (trades_from to m s) r sellers buyers
    records_from version size n m {r} {sellers} {buyers} h =
        subst (λ (xs : List ℕ). RecordsAsked version (zeros_in (λ c. field 3 5 c) size n (drop at s)) (zeros_in (λ c. field 1 11 c) 20 m xs) (records_of size user_of n (drop at s)) (records_of 20 trade_of m xs) r sellers buyers) same_rest
        (subst
        (λ (xs : List ℕ). RecordsAsked version (zeros_in (λ c. field 3 5 c) size n xs) (trade_zeros_in (to - at) m (take (length s - at) (drop at s))) (records_of size user_of n xs)
        (trades_from (to - at) m (take (length s - at) (drop at s))) r sellers buyers) part_all h)

    pub summed_from : (size n m : ℕ) {r read : ℕ} {sums : List ℕ}
        → Summed (users_from size 0 n (take (length s - at) (drop at s))) (trades_from (to - at) m (take (length s - at) (drop at s))) m r read sums
        → Summed (users_from size at n s) (trades_from to m s) m r read sums
    summed_from size n m h = rw (← same_users size n, ← same_trades m) h

-- ---- 4 to 7 of bytes

-- users and trades of bytes of the right form stand in them
pub formed_bytes : {s : List ℕ} {n m at to size : ℕ} → Formed s → n ≡ count_of_users s → m ≡ count_of_trades s → at ≡ size_of_header (version_of s) → size ≡ size_of_user (version_of s) → to ≡ trades_at s → RecordsIn size at n to m s
formed_bytes {s} form e f begin sized behind =
    record {
      some = omega (arith, form.some);
      few = omega (arith, form.users);
      many = omega (arith, form.trades);
      wide = omega (arith, sized, user_range (version_of s));
      users = omega (arith, form.whole, users_end s begin sized e);
      trades = omega (arith, form.whole, behind);
    }

module _ (s : List ℕ) {version date : ℕ} {prices : Prices} {valid : Bool} (v : version ≡ version_of s) (d : date ≡ field 4 8 s) (p : prices ≡ prices_of s) (e : valid ≡ header_is_valid (record { version = version; date = date; prices = prices })) where
  -- the answer to question 4
  header_answer : valid ≡ header_is_valid (book_of s).header
  unfolding book_of
  header_answer = rw (← v, ← d, ← p) e

  -- it is no
  pub fields_4 : {sellers buyers : List ℕ} → valid ≡ false → FieldsPlaced s 4 sellers buyers
  unfolding fields_number_of about_fields refusal after
  fields_4 h = record { asked = rw (sym header_answer ∙ h); placed = λ f. absurd (omega arith) }

  -- it is yes: the number is that of the users and trades
  pub fields_rest : {n m at to size r : ℕ} {sellers buyers : List ℕ} → valid ≡ true → n ≡ count_of_users s → m ≡ count_of_trades s → at ≡ size_of_header (version_of s) → size ≡ size_of_user (version_of s) → to ≡ trades_at s
      → RecordsAsked version (user_zeros_in size at n s) (trade_zeros_in to m s) (users_from size at n s) (trades_from to m s) r sellers buyers → FieldsPlaced s r sellers buyers
  unfolding fields_number_of about_fields refusal after records_number zeros_in user_zeros_valid trade_zeros_valid user_zeros trade_zeros users_of trades_of book_of groups_valid
  fields_rest h f g begin sized behind asked =
      record {
        asked = asked.asked ∙ rw (f, g, begin, sized, behind, v, sym header_answer ∙ h);
        placed = λ k. rw (← f, ← g, ← begin, ← sized, ← behind) (asked.placed k);
      }

-- so are the sums
pub fields_summed : (s : List ℕ) {n m at to size r read : ℕ} {sums : List ℕ} → n ≡ count_of_users s → m ≡ count_of_trades s → at ≡ size_of_header (version_of s) → size ≡ size_of_user (version_of s) → to ≡ trades_at s
    → Summed (users_from size at n s) (trades_from to m s) m r read sums → Summed (users_of s) (trades_of s) (count_of_trades s) r read sums
fields_summed s f g begin sized behind w = rw (← users_there s begin sized f, ← trades_there s behind g, ← g) w

-- the number of a form that is refused is below 4
pub form_before : (s : List ℕ) {k : ℕ} → k ≡ form_number_of s → (k ≡ 0 → ⊥) → T (past_five k) → ⊥
unfolding form_number_of about_form refusal after past_five past_six
form_before s e h = go (marked s) (versioned s) (sized s) e h
  where
    go : (a b c : Bool) {k : ℕ} → k ≡ first_of (cond a 0 1) (first_of (cond b 0 2) (first_of (cond c 0 3) 0)) → (k ≡ 0 → ⊥) → T (past_five k) → ⊥
    go true true true e h t = absurd (h e)
    go true true false e h t = rw e at t
    go true false c e h t = rw e at t
    go false b c e h t = rw e at t

-- ---- what a call is handed where no question refuses

module _ {s : List ℕ} {k : ℕ} {sellers buyers : List ℕ} (asked : AskedOf s k sellers buyers) (bytes : AllBytes s) (passes : book_number s ≡ 0) (long : length sellers ≡ 256) (wide : length buyers ≡ 256) where
  pub parties_opened : OpenedParties s sellers buyers
  parties_opened =
      record {
        passes = passes;
        book = record { accepted = accepted_of s bytes passes; placed = asked.placed (asked.number ∙ passes) };
        sellers_room = long;
        buyers_room = wide;
      }

  pub book_opened : {limits : Limits} {count read : ℕ} {sums : List ℕ} → Summed (users_of s) (trades_of s) count k read sums → LimitsInRange limits → Opened limits s sellers buyers sums
  book_opened told figures =
      record {
        summed = record {
          figures = record { passes = passes; accepted = accepted_of s bytes passes; limits_in = figures };
          sums_are = sums_told told (asked.number ∙ passes);
        };
        parties = parties_opened;
      }
