-- The form of a book in bytes, and the place of a user in it. Assumes nothing.
use Rattle.std.specs.Prelude.{◌∷◌}
use Rattle.base.specs.Basics.{cond, List, [], ℕ, suc, eqb}
use Rattle.rules.specs.Book.{User}
use Rattle.rules.specs.Calls.{Form}
use Rattle.book_format.specs.Book.{book_of, bytes_of}

-- a book in bytes: a refusal keeps them, what a call leaves is written
abbrev pub in_bytes : Form (List ℕ)
in_bytes = record { book = book_of; put = bytes_of }

-- the place of the first user with an id; the number of users where there is none
unfoldable pub place_of : List User → ℕ → ℕ
place_of [] id = 0
place_of (u ∷ us) id = cond (eqb u.party.id id) 0 (suc (place_of us id))
