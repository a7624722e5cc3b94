-- Records in bytes from an offset; the ids of users, and the place of an id among them. Assumes nothing.
use Rattle.std.specs.Prelude.{◌≡◌, ◌∷◌, ◌-◌, ◌<◌, ◌≤◌}
use Rattle.base.specs.Basics.{Bool, cond, List, [], map, ℕ, suc, eqb, ltb, length, take, drop, get_or, replicate}
use Rattle.base.specs.Lists.{any}
use Rattle.rules.specs.Book.{User, Terms, Trade, nobody}
use Rattle.fields.specs.Layout.{records_of}
use Rattle.book_format.specs.Book.{trades_of, users_of}
use Rattle.book_format.specs.Held.{Accepted}
use Rattle.book_records.specs.User.{user_of}
use Rattle.book_records.specs.Trade.{trade_of}

-- the n users, in records of a size, that stand in bytes from an offset
abbrev pub users_from : ℕ → ℕ → ℕ → List ℕ → List User
users_from size at n s = records_of size user_of n (drop at s)

-- the m trades
abbrev pub trades_from : ℕ → ℕ → List ℕ → List Trade
trades_from at m s = records_of 20 trade_of m (drop at s)

-- the ids of users
unfoldable pub ids_of : List User → List ℕ
ids_of us = map (λ u. u.party.id) us

-- the id of the user at a place
abbrev pub id_at : List User → ℕ → ℕ
id_at us place = (get_or us place nobody).party.id

-- the first place of an id; the number of ids where there is none
unfoldable pub place_in : List ℕ → ℕ → ℕ
place_in [] id = 0
place_in (x ∷ xs) id = cond (eqb x id) 0 (suc (place_in xs id))

-- an id is among others
unfoldable pub among : List ℕ → ℕ → Bool
among ids id = any (λ x. eqb x id) ids

-- ids strictly rise
pub record Rising (xs : List ℕ) : Type 0 where
  pub rise : (i j : ℕ) → i < j → j < length xs → get_or xs i 0 < get_or xs j 0

-- the first n of 64 numbers are ids that rise; those past them are the highest of 32 bits
pub record Padded (ids : List ℕ) (n : ℕ) : Type 0 where
  pub full : length ids ≡ 64
  pub few : n ≤ 64
  pub rising : Rising (take n ids)
  pub rest : drop n ids ≡ replicate (64 - n) 4294967295

-- each of 1,024 guesses is a place below n
pub record Guesses (gs : List ℕ) (n : ℕ) : Type 0 where
  pub full : length gs ≡ 1024
  pub below : (k : ℕ) → k < 1024 → get_or gs k 0 < n

-- the place of an id among n others, n where there is none, and whether it has one
pub record FoundIn (ids : List ℕ) (n id place : ℕ) (known : Bool) : Type 0 where
  pub stands : place ≡ place_in ids id
  pub told : known ≡ ltb place n
  pub within : place ≤ n

-- the places among users of those that stand on one side of trades, a place for each trade
abbrev pub PlacedOn : (Terms → ℕ) → List User → List Trade → List ℕ → Type 0
PlacedOn side us ts ps = take (length ts) ps ≡ map (λ t. place_in (ids_of us) (side t.terms)) ts

-- the places of the sellers and of the buyers
pub record Placed (us : List User) (ts : List Trade) (sellers buyers : List ℕ) : Type 0 where
  pub of_sellers : PlacedOn (λ r. r.seller) us ts sellers
  pub of_buyers : PlacedOn (λ r. r.buyer) us ts buyers

-- bytes hold an accepted book; the places of the sellers and the buyers of its trades
pub record BookIn (s sellers buyers : List ℕ) : Type 0 where
  pub accepted : Accepted s
  pub placed : Placed (users_of s) (trades_of s) sellers buyers
