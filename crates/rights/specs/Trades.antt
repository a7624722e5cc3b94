-- Document 02, ask 9: the flag of a user, "the count of the trades it may see and, by ordinal from 0 in book order, that trade's 20 bytes (an empty part past the last); flag
-- and trades are new calls under questions 8 and 9". Asked by the operator of an id, they tell what that id may see. Assumes nothing.
use Rattle.std.specs.Prelude.{◌≡◌, ◌∷◌, ◌+◌, ◌*◌}
use Rattle.base.specs.Basics.{Bool, cond, false, List, [], ℕ, ltb, get_or, length}
use Rattle.rules.specs.Book.{Book, find}
use Rattle.rules.specs.Calls.{id_known, is_shipper}
use Rattle.rules.specs.Levels.{Limits, flagged}
use Rattle.rules.specs.Questions.{Question, after, refusal}
use Rattle.book_format.specs.Book.{book_of, count_of_trades, trade_size, trades_at, trades_of, users_of, version_of}
use Rattle.requests.specs.Request.{Setting, limits_on, opening}
use Rattle.views.specs.Kept.{place_kept}
use Rattle.views.specs.Views.{sees_trade, trades_seen}
use Rattle.rights.specs.Party.{Party, own}
use Rattle.rights.specs.Acting.{entering_number}
use Rattle.rights.specs.Seen.{trades_shown}

-- 8 and 9
unfoldable pub about_user : Book → ℕ → List Question
about_user b id = id_known b id ∷ (is_shipper (find b.users id) ∷ [])

-- the number and every field that one of these calls returns; a field that a call does not have, and after a refusal every field, is no, 0 or empty
pub record Told : Type 0 where
  pub number : ℕ
  pub flagged : Bool
  pub count : ℕ
  pub part : List ℕ

unfoldable pub told_number : ℕ → Told
told_number n = record { number = n; flagged = false; count = 0; part = [] }

-- each asks about the user of an id; the last one has an ordinal too
pub data Asking : Type 0 where
  flag_of : ℕ → Asking
  count_of : ℕ → Asking
  trade_of : ℕ → ℕ → Asking

unfoldable pub id_of : Asking → ℕ
id_of (flag_of id) = id
id_of (count_of id) = id
id_of (trade_of id ordinal) = id

-- what the rules give
unfoldable pub tells : Limits → List ℕ → Asking → Told
tells limits s (flag_of id) = let b = book_of s in record { number = 0; flagged = flagged limits b (find b.users id); count = 0; part = [] }
tells limits s (count_of id) = record { number = 0; flagged = false; count = length (trades_seen (book_of s) id); part = [] }
tells limits s (trade_of id ordinal) = record { number = 0; flagged = false; count = 0; part = get_or (trades_shown id s) ordinal [] }

-- after the opening questions, by their number
unfoldable pub told_after : ℕ → Limits → List ℕ → Asking → Told
told_after number limits s a = after number told_number (after (refusal (about_user (book_of s) (id_of a))) told_number (tells limits s a))

-- after the questions of the book and 26, whose number is n
unfoldable pub told_in : ℕ → Setting → List ℕ → Asking → Told
told_in n g s a = told_after (opening n g s) (limits_on g (book_of s)) s a

abbrev pub told_by : Party → Setting → List ℕ → Asking → Told
told_by actor g s a = told_in (entering_number actor (own (id_of a)) s) g s a

-- where a part begins in the book: at the trade of a place; an empty part at the book's own beginning
unfoldable pub trade_start : List ℕ → ℕ → ℕ
trade_start s place = cond (ltb place (count_of_trades s)) (trades_at s + trade_size (version_of s) * place) 0

-- by the number of the request
unfoldable pub trade_shown_at : ℕ → List ℕ → ℕ → ℕ → ℕ
trade_shown_at number s id ordinal = after number (λ n. 0) (trade_start s (place_kept (sees_trade (users_of s) id) (trades_of s) ordinal))

-- a trade by ordinal: the number, the part, and that it is that part of the book
pub record TradeHanded (actor : Party) (g : Setting) (s : List ℕ) (id ordinal number : ℕ) (part : List ℕ) (book place : ℕ × ℕ) : Type 0 where
  pub asked : number ≡ (told_by actor g s (trade_of id ordinal)).number
  pub shows : part ≡ (told_by actor g s (trade_of id ordinal)).part
  pub block : place.0 ≡ book.0
  pub offset : place.1 ≡ book.1 + trade_shown_at number s id ordinal
