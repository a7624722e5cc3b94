-- Positions filled in from the bytes of a book, user by user; and which of a user's are negative. Assumes nothing.
use Rattle.base.specs.Basics.{◌≡◌, sym, ap, ◌∙◌, Bool, false, List, [], ◌∷◌, ℕ, zero, suc, ◌+◌, ◌*◌, ◌≤◌, ◌<◌, ◌^◌, arith, ltb, length, get_or}
use Rattle.base.specs.Basics.{set, lt-ltb, le-ltb}
use Rattle.book_format.proofs.Passed.{length-users_of}
use Rattle.book_format.specs.Book.{count_of_users, users_of}
use Rattle.base.proofs.Linear.{by_order}
use Rattle.base.specs.Parts.{neg_part}
use Rattle.rules.specs.Book.{at, User, nobody}
use Rattle.run_positions.specs.Moving.{ShortIn}
use Rattle.risk_bearers.proofs.Table.{three_length, three_more}
use Rattle.risk_user.specs.UserAt.{PositionsOf, position_in}
use Rattle.units.proofs.Amounts.{neg_part-net}
use Rattle.units.specs.Amounts.{net}

-- ---- user by user

-- the first i users have their positions
pub record PlacedTo (us : List User) (i : ℕ) (ps : List ℕ) : Type 0 where
  pub room : length ps ≡ 192
  pub each : (j area : ℕ) → j < i → area < 3 → position_in ps j area ≡ at (get_or us j nobody).position area

module _ (us : List User) where
  pub placed_start : {ps : List ℕ} → length ps ≡ 192 → PlacedTo us 0 ps
  placed_start e = record { room = e; each = λ j area h k. absurd (omega arith) }

  pub placed_more : {i : ℕ} {ps : List ℕ} (x y z : ℕ) → i < 64 → PlacedTo us i ps
      → net (record { 0 = x }) ≡ at (get_or us i nobody).position 0 → net (record { 0 = y }) ≡ at (get_or us i nobody).position 1
      → net (record { 0 = z }) ≡ at (get_or us i nobody).position 2 → PlacedTo us (i + 1) (set (set (set ps (3 * i) x) (3 * i + 1) y) (3 * i + 2) z)
  placed_more {i} {ps} x y z l p ex ey ez =
      record {
        room = three_length ps (3 * i) (3 * i + 1) (3 * i + 2) x y z ∙ p.room;
        each = three_more (λ j area n. net (record { 0 = n }) ≡ at (get_or us j nobody).position area) ps i x y z (omega (arith, p.room)) p.each ex ey ez;
      }

pub placed_end : (s : List ℕ) {i : ℕ} {ps : List ℕ} → count_of_users s ≤ i → PlacedTo (users_of s) i ps → PositionsOf (users_of s) ps × (length ps ≡ 192)
placed_end s h p = (record { each = λ j area l k. p.each j area (omega (arith, length-users_of s)) k }, p.room)

-- ---- negative positions

pub short_is : (x : ℕ) → ltb x (2 ^ 31) ≡ ltb 0 (neg_part (net (record { 0 = x })))
short_is x =
    let n = neg_part (net (record { 0 = x })) in
    by_order x (2 ^ 31)
    (λ h. lt-ltb x (2 ^ 31) h ∙ sym (lt-ltb 0 n (omega (arith, neg_part-net (record { 0 = x })))))
    (λ h. le-ltb x (2 ^ 31) h ∙ sym (le-ltb 0 n (omega (arith, neg_part-net (record { 0 = x })))))

pub short_each : (ps : List ℕ) (place : ℕ) {p t a : Bool} → p ≡ ltb 0 (neg_part (net (record { 0 = get_or ps (3 * place) 0 }))) → t ≡ ltb 0 (neg_part (net (record { 0 = get_or ps (3 * place + 1) 0 })))
    → a ≡ ltb 0 (neg_part (net (record { 0 = get_or ps (3 * place + 2) 0 }))) → ShortIn ps place (p ∷ t ∷ a ∷ [])
short_each ps place {p} {t} {a} x y z = record { each = each }
  where
    each : (area : ℕ) → area < 3 → get_or (p ∷ t ∷ a ∷ []) area false ≡ ltb 0 (neg_part (position_in ps place area))
    each zero h = x ∙ ap (λ (n : ℕ). ltb 0 (neg_part (net (record { 0 = get_or ps n 0 })))) (let e : 3 * place ≡ 3 * place + 0 = omega arith in e)
    each (suc zero) h = y
    each (suc (suc zero)) h = z
    each (suc (suc (suc area))) h = absurd (omega arith)
