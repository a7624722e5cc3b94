-- Document 01, "The questions" that every call asks, of any bytes: those of the rules, and beside them the mark, the length and the zero bytes. Assumes nothing.
use Rattle.std.specs.Prelude.{◌≡◌, ◌&&◌, ◌∷◌, ◌++◌, ◌*◌, ◌+◌, ◌≤◌}
use Rattle.base.specs.Basics.{Bool, List, [], ℕ, T, leb, eqb, length, drop}
use Rattle.fields.specs.Layout.{records_of}
use Rattle.book_format.specs.Book.{size_of_header, size_of_user, trade_size, mark, mark_of, version_of, count_of_users, count_of_trades, trades_at, length_of, users_of, trades_of, book_of}
use Rattle.book_records.specs.Trade.{trade_zeros}
use Rattle.book_records.specs.User.{user_zeros}
use Rattle.base.specs.Lists.{all}
use Rattle.rules.specs.Questions.{Question, refusal, version_known, groups_valid, header_is_valid, users_are_valid, trade_is_valid, positions_are_valid}

-- 1: "At least 32 bytes, starting with the mark?"
unfoldable pub marked : List ℕ → Bool
marked s = leb 32 (length s) && eqb (mark_of s) mark

-- 2: "Version 1?", or version 2 or 3
unfoldable pub versioned : List ℕ → Bool
versioned s = version_known (version_of s)

-- 3: "Counts in range and length exactly 32 + 56 × users + 20 × trades?", with 40 for 32 from version 2 on, and 68 for 56 in version 3
unfoldable pub sized : List ℕ → Bool
sized s =
    (leb 1 (count_of_users s) && leb (count_of_users s) 64) && (leb (count_of_trades s) 256 && eqb (length s) (length_of s))

-- the records of a size, each as its bytes
unfoldable pub parts_of : ℕ → ℕ → List ℕ → List (List ℕ)
parts_of size n s = records_of size (λ c. c) n s

-- the zero bytes of every user are 0
unfoldable pub user_zeros_valid : List ℕ → Bool
user_zeros_valid s =
    all (λ c. eqb (user_zeros c) 0) (parts_of (size_of_user (version_of s)) (count_of_users s) (drop (size_of_header (version_of s)) s))

-- the zero bytes of every trade are 0
unfoldable pub trade_zeros_valid : List ℕ → Bool
trade_zeros_valid s =
    all (λ c. eqb (trade_zeros c) 0) (parts_of (trade_size (version_of s)) (count_of_trades s) (drop (trades_at s) s))

-- 1 to 3: once they are answered by yes, every field stands where it should
unfoldable pub about_form : List ℕ → List Question
about_form s =
    record { number = 1; holds = marked s }
    ∷ (record { number = 2; holds = versioned s } ∷ (record { number = 3; holds = sized s } ∷ []))

-- 4 to 7: "Date, prices and tolls in range?", "Every user field valid, positions apart?", "Every trade valid?", "Every position as defined?"
unfoldable pub about_fields : List ℕ → List Question
about_fields s =
    record { number = 4; holds = header_is_valid (book_of s).header }
    ∷ (record { number = 5; holds = user_zeros_valid s && (users_are_valid (users_of s) && groups_valid (book_of s)) }
    ∷ (record { number = 6; holds = trade_zeros_valid s && all (trade_is_valid (users_of s)) (trades_of s) }
    ∷ (record { number = 7; holds = all (positions_are_valid (trades_of s)) (users_of s) } ∷ [])))

-- the questions about a book in bytes, in their order
unfoldable pub about_bytes : List ℕ → List Question
about_bytes s = about_form s ++ about_fields s

-- the number of the first that is answered by no, 0 where there is none
unfoldable pub form_number_of : List ℕ → ℕ
form_number_of s = refusal (about_form s)

unfoldable pub book_number : List ℕ → ℕ
book_number s = refusal (about_bytes s)

-- bytes that pass 1 to 3, as facts
pub record Formed (s : List ℕ) : Type 0 where
  pub head : 32 ≤ length s
  pub mark : mark_of s ≡ mark
  pub version : T (version_known (version_of s))
  pub some : 1 ≤ count_of_users s
  pub users : count_of_users s ≤ 64
  pub trades : count_of_trades s ≤ 256
  pub whole : length s ≡ trades_at s + trade_size (version_of s) * count_of_trades s
