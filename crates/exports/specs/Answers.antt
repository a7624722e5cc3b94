-- What each kind of function leaves: its number, the lent part and the book. Assumes nothing.
use Rattle.std.specs.Prelude.{◌≡◌}
use Rattle.base.specs.Basics.{Bool, not, Option, List, ℕ, eqb, ℤ, length}
use Rattle.rules.specs.Calls.{Answer}
use Rattle.rules.specs.Queries.{Query, Reply, shown_record}
use Rattle.rules.specs.Questions.{after, refusal}
use Rattle.book_format.specs.Book.{count_of_users, count_of_trades, bytes_of}
use Rattle.store.specs.Store.{given}
use Rattle.requests.specs.Carried.{part_shown}
use Rattle.requests.specs.Logged.{lent_log}
use Rattle.requests.specs.Request.{Request, Setting}
use Rattle.rights.specs.Acting.{cancellation_by, enquiry_by, entering_number, request_by}
use Rattle.rights.specs.Party.{Party, operators}
use Rattle.rights.specs.Trades.{Asking, Told, told_by, trade_of}
use Rattle.user_levels.specs.Levels.{all_levels_by}
use Rattle.call_read.specs.Image.{image_by}
use Rattle.book_value.specs.Written.{about_writing}
use Rattle.book_image.specs.Image.{image_size, padded}
use Rattle.book_image.specs.ImageBook.{image_book}
use Rattle.shrinkage.specs.Return.{returned}
use Rattle.shrinkage.specs.Days.{values_over_days}
use Rattle.exports_answers.specs.Numbers.{trade_numbers}
use Rattle.exports_shrinkage.specs.Numbers.{return_numbers}
use Rattle.exports_users.specs.Numbers.{users_numbers}
use Rattle.exports_cancellation.specs.Numbers.{cancellation_numbers, mark_numbers}
use Rattle.exports.specs.Lent.{by_length, Given, Stored, StoredBoth}

-- a flag as a number: 0 is no, any other yes
unfoldable pub is_yes : ℕ → Bool
is_yes n = not (eqb n 0)

-- the store that a flag and a part are: none where the flag is 0
abbrev pub store_by : ℕ → List ℕ → Option (List ℕ)
store_by flag part = given (is_yes flag) part

-- the log, in the same way
abbrev pub log_by : ℕ → List ℕ → Option (List ℕ)
log_by flag part = given (is_yes flag) part

-- a query with n numbers: its number and the lent part
abbrev pub Replied : (n : ℕ) → (Reply → List ℕ) → Party → Setting → List ℕ → Query → List ℕ → ℕ → List ℕ → Type 0
Replied n numbers actor g s q lent result after =
    let r = enquiry_by actor g s q in
    Stored n lent r.number (numbers r) result after

-- the flag and the count of trades, with n numbers
abbrev pub ToldInto : (n : ℕ) → (Told → List ℕ) → Party → Setting → List ℕ → Asking → List ℕ → ℕ → List ℕ → Type 0
ToldInto n numbers actor g s a lent result after =
    let r = told_by actor g s a in
    Stored n lent r.number (numbers r) result after

-- a trade by ordinal, with a part for its 20 bytes and one for the number of these: the trade's bytes, or 20 times 0 where the part that is handed out is empty
abbrev pub TradeInto : Party → Setting → List ℕ → ℕ → ℕ → List ℕ → List ℕ → ℕ → List ℕ → List ℕ → Type 0
TradeInto actor g s id ordinal trade answer result trade-after answer-after =
    let r = told_by actor g s (trade_of id ordinal) in
    StoredBoth 20 1 trade answer r.number (padded 20 r.part) (trade_numbers r) result trade-after answer-after

-- a call with n numbers: its number and the lent part, every byte of the book, and every byte of the lent log, given or not
pub record Answered (n : ℕ) (numbers : Answer → List ℕ) (actor : Party) (r : Request) (s : List ℕ) (lent : List ℕ) (result : ℕ) (after : List ℕ) (t l m : List ℕ) : Type 0 where
  pub answer : Stored n lent (request_by actor r s).answer.number (numbers (request_by actor r s).answer) result after
  pub book : t ≡ by_length n lent (request_by actor r s).book s
  pub log : m ≡ by_length n lent (lent_log (request_by actor r s).log l) l

-- the levels of all users, with 256 numbers
abbrev pub LevelsInto : Party → Setting → List ℕ → List ℕ → ℕ → List ℕ → Type 0
LevelsInto actor g s lent result after =
    let r = all_levels_by actor g s in
    Stored 256 lent r.number (users_numbers r) result after

-- a whole cancellation, with a part for 256 marks and one for 3 numbers
abbrev pub CancelledInto : Party → Setting → List ℕ → ℕ → ℕ → List ℕ → List ℕ → ℕ → List ℕ → List ℕ → Type 0
CancelledInto actor g s id tries marks answer result marks-after answer-after =
    let r = cancellation_by actor g s id tries in
    StoredBoth 256 3 marks answer r.number (mark_numbers r) (cancellation_numbers r) result marks-after answer-after

-- a shown record in a part of 68 bytes, those of version 3: the user's bytes with 0 behind them, or 68 times 0
abbrev pub Copied : Party → Setting → List ℕ → ℕ → List ℕ → ℕ → List ℕ → Type 0
Copied actor g s id lent result after =
    let number = (enquiry_by actor g s (shown_record id)).number in
    Stored 68 lent number (padded 68 (part_shown number s id)) result after

-- a book read into an image
abbrev pub ReadInto : Party → List ℕ → List ℕ → ℕ → List ℕ → Type 0
ReadInto actor s lent result after = Stored image_size lent (entering_number actor operators s) (image_by actor s) result after

-- an image written as a book to a part s
abbrev pub WrittenFrom : List ℕ → List ℕ → ℕ → List ℕ → Type 0
WrittenFrom image s result t =
    let r = refusal (about_writing (count_of_users image) (count_of_trades image) (image_book image) (length s)) in
    Given image_size image r (after r (λ n. s) (bytes_of (image_book image))) s result t

-- a return of shrinkage: its number, and H, the odd kWh, the rest, the shares and the remainders
abbrev pub ReturnedInto : List ℤ → List ℕ → ℕ → List ℕ → Type 0
ReturnedInto balances lent result after = Stored 131 lent (returned balances).number (return_numbers (returned balances)) result after

-- the days of a share, which no question refuses
abbrev pub SpreadInto : ℕ → List ℕ → ℕ → List ℕ → Type 0
SpreadInto share lent result after = Stored 30 lent 0 (values_over_days share) result after
