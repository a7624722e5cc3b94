-- The questions 5 to 7 as the code asks them, of users and trades; and what bytes are that were asked all questions. Assumes nothing.
use Rattle.std.specs.Prelude.{◌≡◌, ◌&&◌, ◌||◌, ◌∷◌, ◌+◌, ◌*◌, ◌≤◌}
use Rattle.base.specs.Basics.{Bool, cond, List, [], ℕ, T, eqb, length, take}
use Rattle.rules.specs.Book.{User, Trade, manager_in}
use Rattle.base.specs.Lists.{all}
use Rattle.rules.specs.Questions.{refusal, managers_are_valid, manages, users_are_valid, trade_is_valid, positions_are_valid}
use Rattle.book_valid.specs.Given.{trade_is_valid_given}
use Rattle.book_format.specs.Book.{size_of_user, users_of, trades_of}
use Rattle.book_format.specs.Questions.{about_fields, book_number}
use Rattle.book_parties.specs.Ids.{ids_of, among, users_from, Padded, Guesses, Placed}
use Rattle.book_sums.specs.Sums.{places_of}
use Rattle.book_sums.specs.Twelve.{SumsOf, Twelve}

-- ---- one question

-- question 5 of users, in a version: their fields, positions apart, and their managers
abbrev pub all_valid : ℕ → List User → Bool
all_valid version us = users_are_valid us && all (managers_are_valid version us) us

-- the id of a manager in an area, in a version that has managers
unfoldable pub manager_given : List User → ℕ → User → Bool
manager_given us area u = let manager = manager_in u.party.managers area in eqb manager 0 || manages us manager u area

-- of each area
unfoldable pub managers_given : List User → User → Bool
managers_given us u = manager_given us 0 u && (manager_given us 1 u && manager_given us 2 u)

-- users that were asked a question: the answer, and where it is yes, a list of their ids
pub record UsersAsked (us : List User) (test : Bool) (n : ℕ) (valid : Bool) (ids : List ℕ) : Type 0 where
  pub answer : valid ≡ test
  pub padded : T valid → Padded ids n
  pub listed : T valid → take n ids ≡ ids_of us

-- bytes begin with n users in records of 68 bytes, which have these ids; and there are guesses at their places
pub record GroupsIn (s : List ℕ) (n : ℕ) (ids guesses : List ℕ) : Type 0 where
  pub padded : Padded ids n
  pub guessed : Guesses guesses n
  pub users : 68 * n ≤ length s
  pub listed : take n ids ≡ ids_of (users_from 68 0 n s)

-- the same in the records of a version
pub record GroupsAsked (s : List ℕ) (version n : ℕ) (ids guesses : List ℕ) : Type 0 where
  pub padded : Padded ids n
  pub guessed : Guesses guesses n
  pub users : size_of_user version * n ≤ length s
  pub listed : take n ids ≡ ids_of (users_from (size_of_user version) 0 n s)

-- a trade is valid between users of these ids
unfoldable pub trade_among : List ℕ → Trade → Bool
trade_among ids t = trade_is_valid_given (among ids t.terms.seller) (among ids t.terms.buyer) t

-- how many trades stand before the first that fails a test: as many as there are where none fails
unfoldable pub leading : (Trade → Bool) → List Trade → ℕ
leading valid [] = 0
leading valid (t ∷ ts) = cond (valid t) (1 + leading valid ts) 0

-- trades that were asked question 6 between users of these ids, given whether their zero bytes are 0: how many of them stand before the first that is not valid; the answer,
-- and where it is yes, the places of their parties and the sums of what is sold and bought at each place, and all were read
pub record TradesAsked (ids : List ℕ) (ts : List Trade) (zeros valid : Bool) (read : ℕ) (sellers buyers sums : List ℕ) : Type 0 where
  pub counted : read ≡ leading (trade_among ids) ts
  pub answer : valid ≡ (zeros && all (trade_among ids) ts)
  pub placed : T valid → (us : List User) → ids_of us ≡ ids → Placed us ts sellers buyers
  pub twelve : T valid → Twelve (places_of ids (λ r. r.seller) ts) (places_of ids (λ r. r.buyer) ts) ts 25600000 sums
  pub whole : T valid → read ≡ length ts

-- no question before 7 refuses
unfoldable pub past_six : ℕ → Bool
past_six number = eqb number 0 || eqb number 7

-- question 6 is asked, and with it the trades are read: no question before it refuses
unfoldable pub past_five : ℕ → Bool
past_five number = eqb number 6 || past_six number

-- the number of trades that are read: none where a question before 6 refuses; else those before the first that is not valid between the users, all of them where each is
-- (a zero byte that is not 0 is question 6's too, and stops no reading)
unfoldable pub trades_read : List User → List Trade → ℕ → ℕ
trades_read us ts number = cond (past_five number) (leading (trade_is_valid us) ts) 0

-- users and trades that were asked the questions, and the first that refuses: how many trades were read, in every case; of those that pass the questions 1 to 6 each
-- user's twelve sums are 01's, and as many trades were read as there are
pub record Summed (us : List User) (ts : List Trade) (count number read : ℕ) (sums : List ℕ) : Type 0 where
  pub counted : read ≡ trades_read us ts number
  pub sums_are : T (past_six number) → SumsOf us ts sums
  pub all_read : T (past_six number) → read ≡ count

-- ---- 5 to 7

-- n users, in records of a size, and m trades, 1 to 64 and at most 256, stand in bytes from two offsets
pub record RecordsIn (size users-at n trades-at m : ℕ) (s : List ℕ) : Type 0 where
  pub some : 1 ≤ n
  pub few : n ≤ 64
  pub many : m ≤ 256
  pub wide : 56 ≤ size
  pub users : users-at + size * n ≤ length s
  pub trades : trades-at + 20 * m ≤ length s

-- in a version, the number of the first of the questions 5 to 7 that users and trades fail, 0 where they fail none, given whether their zero bytes are 0
unfoldable pub records_number : ℕ → Bool → Bool → List User → List Trade → ℕ
records_number version user_zeros trade_zeros us ts =
    refusal
    (record { number = 5; holds = user_zeros && all_valid version us }
    ∷ (record { number = 6; holds = trade_zeros && all (trade_is_valid us) ts }
    ∷ (record { number = 7; holds = all (positions_are_valid ts) us } ∷ [])))

-- users and trades that were asked the questions 5 to 7: the number, and the places of the parties where no question refuses
pub record RecordsAsked (version : ℕ) (user_zeros trade_zeros : Bool) (us : List User) (ts : List Trade) (number : ℕ) (sellers buyers : List ℕ) : Type 0 where
  pub asked : number ≡ records_number version user_zeros trade_zeros us ts
  pub placed : number ≡ 0 → Placed us ts sellers buyers

-- ---- 4 to 7

-- the number of the first of the questions 4 to 7 that is answered by no, 0 where there is none
unfoldable pub fields_number_of : List ℕ → ℕ
fields_number_of s = refusal (about_fields s)

-- bytes that were asked the questions 4 to 7: the number, and the places of the trades' parties where no question refuses
pub record FieldsPlaced (s : List ℕ) (number : ℕ) (sellers buyers : List ℕ) : Type 0 where
  pub asked : number ≡ fields_number_of s
  pub placed : number ≡ 0 → Placed (users_of s) (trades_of s) sellers buyers

-- ---- 1 to 7

-- bytes that were asked the questions 1 to 7: the number, and the places of the trades' parties where no question refuses
pub record AskedOf (s : List ℕ) (r : ℕ) (sellers buyers : List ℕ) : Type 0 where
  pub number : r ≡ book_number s
  pub placed : r ≡ 0 → Placed (users_of s) (trades_of s) sellers buyers
