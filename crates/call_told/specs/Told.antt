-- A trade by ordinal, after the opening questions, by their number. Assumes nothing.
use Rattle.std.specs.Prelude.{◌≡◌, ◌+◌, Option, None, Some, Result, Ok, Err}
use Rattle.std.specs.Borrow.{Bor}
use Rattle.base.specs.Basics.{List, [], ℕ}
use Rattle.refusals.specs.declared.Refusal.{Refusal}
use Rattle.rights.specs.Trades.{told_after, trade_of, trade_shown_at}
use Rattle.rules.specs.Levels.{Limits}

pub record TradeAfter (opened : ℕ) (s : List ℕ) (id ordinal number : ℕ) (part : List ℕ) (book place : ℕ × ℕ) : Type 0 where
  pub asked : (limits : Limits) → number ≡ (told_after opened limits s (trade_of id ordinal)).number
  pub shows : (limits : Limits) → part ≡ (told_after opened limits s (trade_of id ordinal)).part
  pub block : place.0 ≡ book.0
  pub offset : place.1 ≡ book.1 + trade_shown_at number s id ordinal

-- the part that a result hands out: no bytes, at the book's own beginning, past the last and where the call is refused

abbrev pub bytes_of : Result (Option (Bor (List ℕ))) Refusal → List ℕ
bytes_of (Ok (Some part)) = part.now
bytes_of (Ok None) = []
bytes_of (Err refusal) = []

abbrev pub place_in : ℕ × ℕ → Result (Option (Bor (List ℕ))) Refusal → ℕ × ℕ
place_in book (Ok (Some part)) = part.ref_ptr
place_in book (Ok None) = book
place_in book (Err refusal) = book
