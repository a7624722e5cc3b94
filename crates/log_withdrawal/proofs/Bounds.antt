-- Positions that move stay within a bound; the two positions of a trade that rises. Assumes nothing.
use Rattle.base.specs.Basics.{◌≡◌, sym, ap, ap₂, subst, ◌∙◌, List, ℕ, zero, suc, ◌+◌, ◌≤◌, ◌<◌, ◌^◌, arith, T, ℤ, pos, neg_ℤ, length, get_or, length-map}
use Rattle.base.specs.Basics.{length-set}
use Rattle.base.proofs.Linear.{eq_parts, neg_part-neg, neg_part-pos, parts_sub, pos_part-neg, pos_part-pos}
use Rattle.base.proofs.Stores.{set_each}
use Rattle.base.specs.Parts.{neg_part, pos_part}
use Rattle.book_format.proofs.Held.{held_itself, held_count_of_users, held_users}
use Rattle.book_format.proofs.Passed.{length-users_of}
use Rattle.book_format.specs.Book.{book_of, users_of}
use Rattle.book_format.specs.Held.{HeldAs}
use Rattle.cut_apply.proofs.Positions.{add-le}
use Rattle.cut_apply.specs.Positions.{PositionIn, moved_at, position_of}
use Rattle.laws_sales.proofs.Settled.{change_placed, move_parties, move_rise, party_at}
use Rattle.log_format.specs.Withdrawal.{raise_by}
use Rattle.rules.specs.Book.{Book, Party, PerArea, Trade, User, at, nobody}
use Rattle.rules.specs.Changes.{add, change, moved, with_users}
use Rattle.rules.specs.Questions.{ids_rise}
use Rattle.rules.specs.Reduction.{lost, settle_one}
use Rattle.log_withdrawal.specs.Back.{Bounded, PartiesBack, back_at}

-- ---- bounds

-- an amount added in one area, read in any
added_parts : (v : PerArea) (area a : ℕ) (z : ℤ) → (pos_part (at (add v area z) a) ≤ pos_part (at v a) + pos_part z) × (neg_part (at (add v area z) a) ≤ neg_part (at v a) + neg_part z)
unfolding add at
added_parts v zero zero z = add-le v.pvb z
added_parts v zero (suc zero) z = (omega arith, omega arith)
added_parts v zero (suc (suc a)) z = (omega arith, omega arith)
added_parts v (suc zero) zero z = (omega arith, omega arith)
added_parts v (suc zero) (suc zero) z = add-le v.tvb z
added_parts v (suc zero) (suc (suc a)) z = (omega arith, omega arith)
added_parts v (suc (suc area)) zero z = (omega arith, omega arith)
added_parts v (suc (suc area)) (suc zero) z = (omega arith, omega arith)
added_parts v (suc (suc area)) (suc (suc a)) z = add-le v.avb z

module _ {us : List User} {most : ℕ} (b : Bounded us most) where
  pub bounded_moved : (i area c : ℕ) (z : ℤ) → i < length us → pos_part z ≤ c → neg_part z ≤ c → Bounded (moved_at i area z us) (most + c)
  unfolding moved
  bounded_moved i area c z h p n =
      record {
        long = λ j a. set_each (λ k u. pos_part (at u.position a) ≤ most + c) us i (moved area z (get_or us i nobody)) nobody h
            (omega (arith, (added_parts (get_or us i nobody).position area a z).0, b.long i a)) (λ k e. omega (arith, b.long k a)) j;
        short = λ j a. set_each (λ k u. neg_part (at u.position a) ≤ most + c) us i (moved area z (get_or us i nobody)) nobody h
            (omega (arith, (added_parts (get_or us i nobody).position area a z).1, b.short i a)) (λ k e. omega (arith, b.short k a)) j;
      }

-- a cut given back moves two of them by it
pub bounded_back : {us : List User} {most : ℕ} → Bounded us most → (seller buyer area c : ℕ) → seller < length us → buyer < length us → Bounded (back_at seller buyer area c us) (most + c + c)
bounded_back {us} b seller buyer area c h k =
    bounded_moved (bounded_moved b seller area c (neg_ℤ (pos c)) h (omega (arith, pos_part-neg (pos c), neg_part-pos c)) (omega (arith, neg_part-neg (pos c), pos_part-pos c))) buyer area c (pos c)
    (omega (arith, length-set us seller (moved area (neg_ℤ (pos c)) (get_or us seller nobody)))) (omega (arith, pos_part-pos c)) (omega (arith, neg_part-pos c))

-- ---- one trade that rises

lost_raised : (c : ℕ) (t : Trade) → lost t (raise_by c t) ≡ neg_ℤ (pos c)
unfolding lost raise_by
lost_raised c t =
    eq_parts (lost t (raise_by c t)) (neg_ℤ (pos c))
    (omega (arith, parts_sub (pos t.standing) (pos (t.standing + c)), pos_part-neg (pos c), neg_part-neg (pos c), pos_part-pos c, neg_part-pos c, pos_part-pos t.standing, neg_part-pos t.standing, pos_part-pos (t.standing + c), neg_part-pos (t.standing + c)))

neg-neg : (c : ℕ) → neg_ℤ (neg_ℤ (pos c)) ≡ pos c
neg-neg c =
    eq_parts (neg_ℤ (neg_ℤ (pos c))) (pos c)
    (omega (arith, pos_part-neg (neg_ℤ (pos c)), neg_part-neg (neg_ℤ (pos c)), pos_part-neg (pos c), neg_part-neg (pos c), pos_part-pos c, neg_part-pos c))

-- at the places of its parties
pub raised_at : (c : ℕ) (t : Trade) (us : List User) (low seller buyer : ℕ) → T (ids_rise low us) → seller < length us → buyer < length us
    → (get_or us seller nobody).party.id ≡ t.terms.seller → (get_or us buyer nobody).party.id ≡ t.terms.buyer
    → settle_one t (raise_by c t) us ≡ back_at seller buyer t.terms.area c us
unfolding settle_one
raised_at c t us low seller buyer r h k e g =
    let z = neg_ℤ (pos c) in
    let area = t.terms.area in
    let fallen = change t.terms.seller (moved area z) us in
    let first : fallen ≡ moved_at seller area z us = change_placed (moved area z) us low t.terms.seller seller nobody r h e in
    let same = move_parties t.terms.seller area z us in
    let long : length fallen ≡ length us = sym (length-map fallen (λ u. u.party)) ∙ ap length same ∙ length-map us (λ u. u.party) in
    ap₂ (λ (x y : ℤ). change t.terms.buyer (moved area x) (change t.terms.seller (moved area y) us)) (ap neg_ℤ (lost_raised c t) ∙ neg-neg c) (lost_raised c t)
    ∙ change_placed (moved area (pos c)) fallen low t.terms.buyer buyer nobody (rw (move_rise t.terms.seller area z low us) r) (omega arith)
    (ap (λ (q : Party). q.id) (party_at us fallen same buyer nobody) ∙ g)
    ∙ ap (moved_at buyer area (pos c)) first

-- ---- both parties in the bytes

module _ {s : List ℕ} {seller buyer area energy : ℕ} (p : PartiesBack s seller buyer area energy) where
  pub seller_can : PositionIn s seller area × (neg_part (position_of (users_of s) seller area) + energy ≤ 2 ^ 31)
  seller_can = (p.sold, omega (arith, p.most.short seller area, p.energy_most))

  module _ {t : List ℕ} (fallen : HeldAs (with_users (book_of s) (moved_at seller area (neg_ℤ (pos energy)) (users_of s))) t) where
    users_fallen : users_of t ≡ moved_at seller area (neg_ℤ (pos energy)) (users_of s)
    unfolding with_users
    users_fallen = held_users fallen

    pub buyer_can : PositionIn t buyer area × (pos_part (position_of (users_of t) buyer area) + energy < 2 ^ 31)
    unfolding with_users
    buyer_can =
        let us = users_of s in
        let k = length-users_of s in
        let after = bounded_moved p.most seller area energy (neg_ℤ (pos energy)) (omega (arith, k, p.sold.user_inside)) (omega (arith, pos_part-neg (pos energy), neg_part-pos energy)) (omega (arith, neg_part-neg (pos energy), pos_part-pos energy)) in (
          record {
            held = held_itself fallen;
            user_inside = omega (arith, p.buyer_inside, k, held_count_of_users fallen, length-set us seller (moved area (neg_ℤ (pos energy)) (get_or us seller nobody)));
            area_inside = p.sold.area_inside;
          },
          omega (arith, after.long buyer area, p.energy_most, ap (λ (vs : List User). pos_part (position_of vs buyer area)) users_fallen),
        )

    pub parties_back : {r : List ℕ} → HeldAs (with_users (book_of t) (moved_at buyer area (pos energy) (users_of t))) r → HeldAs (with_users (book_of s) (back_at seller buyer area energy (users_of s))) r
    unfolding with_users
    parties_back {r} h =
        subst (λ (b : Book). HeldAs b r) (ap₂ (λ (b : Book) (us : List User). with_users b (moved_at buyer area (pos energy) us)) fallen.book users_fallen) h
