-- A user's position in an area is four bytes of the user's. Assumes nothing.
use Rattle.base.specs.Basics.{◌≡◌, refl, List, ℕ, zero, suc, ◌+◌, ◌*◌, ◌<◌, arith}
use Rattle.fields.specs.Field.{field}
use Rattle.book_records.specs.User.{amounts_at, user_of}
use Rattle.rules.specs.{Book.at, Signed.signed_of}

pub position_bytes : (c : List ℕ) (area : ℕ) → area < 3 → at (user_of c).position area ≡ signed_of 32 (field 4 (20 + 4 * area) c)
unfolding user_of amounts_at at
position_bytes c zero h = refl
position_bytes c (suc zero) h = refl
position_bytes c (suc (suc zero)) h = refl
position_bytes c (suc (suc (suc area))) h = absurd (omega arith)
