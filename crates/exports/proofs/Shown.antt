-- A shown part has at most 68 bytes; copied to a part of 68, with 0 behind it, it is the record or 68 times 0. Assumes nothing.
use Rattle.base.specs.Basics.{◌≡◌, ◌∙◌, ap, ap₂, refl, Bool, true, false, cond, List, [], ◌∷◌, ℕ, ◌≤◌, suc, zero, arith, length}
use Rattle.base.specs.Basics.{take, drop, get_or, length-take, set}
use Rattle.fields.specs.Layout.{records_of}
use Rattle.laws_sales.specs.Kept.{kept}
use Rattle.rules.specs.Questions.{after, refusal}
use Rattle.book_format.proofs.Offsets.{user_range}
use Rattle.book_format.specs.Book.{book_of, count_of_trades, trades_at, place_of_user, users_of, version_of, size_of_user}
use Rattle.book_format.specs.Questions.{parts_of}
use Rattle.book_records.specs.Trade as trade
use Rattle.book_format.specs.Steps.{place_of}
use Rattle.requests.specs.Carried.{part_shown}
use Rattle.requests.specs.Request.{Setting, limits_on}
use Rattle.rights.specs.Acting.{HandedBy, opening_number_by}
use Rattle.rights.specs.Party.{Party, own}
use Rattle.rights.specs.Seen.{trades_shown}
use Rattle.rights.specs.Trades.{about_user, id_of, tells, told_after, told_by, told_in, told_number, trade_of}
use Rattle.views.specs.Views.{sees_trade}
use Rattle.book_image.specs.Image.{padded}
use Rattle.exports.specs.Answers.{Copied}
use Rattle.exports.proofs.Lent.{stored}

pub shown_length : (number : ℕ) (s : List ℕ) (id : ℕ) → length (part_shown number s id) ≤ 68
unfolding part_shown after
shown_length number s id = either (size_of_user (version_of s)) (user_range (version_of s)).1 number (drop (place_of_user s (place_of (book_of s).users id)) s)
  where
    either : (size : ℕ) → size ≤ 68 → (n : ℕ) (l : List ℕ) → length (after {R = List ℕ} n (λ m. []) (take size l)) ≤ 68
    either size h zero l = rw length-take (omega (arith, h))
    either size h (suc n) l = omega arith

pub copied : (actor : Party) (g : Setting) (s : List ℕ) (id : ℕ) (lent : List ℕ) (number : ℕ) (part rest : List ℕ) {book place : ℕ × ℕ} → length lent ≡ 68 → HandedBy actor g s id number part book place → rest ≡ padded (length lent) part → Copied actor g s id lent number rest
copied actor g s id lent number part rest e handed filled =
    stored 68 lent _ _ lent number rest e handed.asked (filled ∙ ap₂ padded e (handed.shows ∙ ap (λ (n : ℕ). part_shown n s id) handed.asked))

-- ---- a trade by ordinal

-- a part of 20 bytes has at most 20, and so has one that is picked from several
part_length : (p : List ℕ → Bool) (n : ℕ) (s : List ℕ) (k : ℕ) → length (get_or (kept p (parts_of 20 n s)) k []) ≤ 20
unfolding parts_of records_of kept
part_length p zero s k = omega arith
part_length p (suc n) s k = go (p (take 20 s)) k (part_length p n (drop 20 s))
  where
    go : (c : Bool) (j : ℕ) → ((i : ℕ) → length (get_or (kept p (parts_of 20 n (drop 20 s))) i []) ≤ 20)
        → length (get_or (cond c (take 20 s ∷ kept p (parts_of 20 n (drop 20 s))) (kept p (parts_of 20 n (drop 20 s)))) j []) ≤ 20
    go true zero h = rw length-take (omega arith)
    go true (suc j) h = h j
    go false j h = h j

-- what is told of a trade
pub trade_length : (actor : Party) (g : Setting) (s : List ℕ) (id ordinal : ℕ) → length (told_by actor g s (trade_of id ordinal)).part ≤ 20
unfolding id_of told_in told_after tells trades_shown after told_number
trade_length actor g s id ordinal = go (opening_number_by actor (own id) g s) (refusal (about_user (book_of s) id))
  where
    go : (n m : ℕ) → length (after n told_number (after m told_number (tells (limits_on g (book_of s)) s (trade_of id ordinal)))).part ≤ 20
    go zero zero = part_length (λ c. sees_trade (users_of s) id (trade.trade_of c)) (count_of_trades s) (drop (trades_at s) s) ordinal
    go zero (suc m) = omega arith
    go (suc n) m = omega arith

-- a part of one place with its only number stored
pub one_stored : (xs : List ℕ) (v : ℕ) → length xs ≡ 1 → set xs 0 v ≡ v ∷ []
one_stored [] v e = absurd (omega (arith, e))
one_stored (x ∷ []) v e = refl
one_stored (x ∷ (y ∷ ys)) v e = absurd (omega (arith, e))
