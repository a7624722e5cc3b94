-- Document 01, "The questions": a refusal is the number of the first question that is answered by no; the questions 2 to 7 of a book.
-- (Question 1, the length in question 3 and the zero bytes in questions 5 and 6 are asked of a book in bytes.)
use Rattle.std.specs.Prelude.{◌&&◌, ◌||◌, ◌∷◌, ◌^◌}
use Rattle.base.specs.Basics.{Bool, true, false, not, cond, List, [], ℕ, leb, ltb, eqb, ℤ, pos, negsuc, suc, zero}
use Rattle.base.specs.Basics.{length}
use Rattle.rules.specs.Areas.{Prices, selling_in, managers_in}
use Rattle.rules.specs.Signed.{within}
use Rattle.rules.specs.Calendar.{real_day}
use Rattle.base.specs.Lists.{all, any}
use Rattle.rules.specs.Book.{Header, PerArea, at, manager_in, User, Trade, Book, bilateral_for_day, defined_position, find}
use Rattle.rules.specs.Levels.{shipper}

-- ---- asking

-- a question's number, and whether it is answered by yes
pub record Question : Type 0 where
  pub number : ℕ
  pub holds : Bool

-- What follows a question, or several, by their number: 0 where all are answered by yes, and then the rest follows; else a refusal with it.
unfoldable pub after : {R : Type 0} → ℕ → (ℕ → R) → R → R
after zero refused follows = follows
after (suc n) refused follows = refused (suc n)

-- the number of questions that are asked one after the other, by that of the first and that of the second
abbrev pub first_of : ℕ → ℕ → ℕ
first_of n m = after n (λ k. k) m

-- "Asked in this order; the first 'no' gives the number." "An accepted call returns 0 as its number."
unfoldable pub refusal : List Question → ℕ
refusal [] = 0
refusal (q ∷ qs) = first_of (cond q.holds 0 q.number) (refusal qs)

-- ---- 2 and 3: "Version 1?" or, by document 02's asks 3 and 5, version 2 or 3; "Counts in range?"

unfoldable pub version_known : ℕ → Bool
version_known version = eqb version 1 || (eqb version 2 || eqb version 3)

unfoldable pub version_is_valid : Book → Bool
version_is_valid b = version_known b.header.version

-- user count 1 to 64; trade count 0 to 256
unfoldable pub counts_are_valid : Book → Bool
counts_are_valid b = (leb 1 (length b.users) && leb (length b.users) 64) && leb (length b.trades) 256

-- ---- 4: "Date, prices and tolls in range?", selling tariffs with them

-- "P and Q 1 to 100,000; tolls 0 to 100,000."
unfoldable pub tariff_valid : ℕ → Bool
tariff_valid n = leb 1 n && leb n 100000

unfoldable pub toll_valid : ℕ → Bool
toll_valid n = leb n 100000

unfoldable pub prices_are_valid : Prices → Bool
prices_are_valid f =
    (tariff_valid f.p && tariff_valid f.q) && (toll_valid f.l && (toll_valid f.x && toll_valid f.i))

-- selling tariffs are "0 to 100,000" in a version that has them
unfoldable pub most_selling : ℕ → ℕ
most_selling version = cond (selling_in version) 100000 0

unfoldable pub selling_is_valid : ℕ → Prices → Bool
selling_is_valid version f = leb f.s (most_selling version) && leb f.u (most_selling version)

unfoldable pub header_is_valid : Header → Bool
header_is_valid h = real_day h.date && (prices_are_valid h.prices && selling_is_valid h.version h.prices)

-- ---- 5: "Every user field valid, positions apart?"

-- ids are not 0 and strictly rise
unfoldable pub ids_rise : ℕ → List User → Bool
ids_rise last [] = true
ids_rise last (u ∷ us) = ltb last u.party.id && ids_rise u.party.id us

-- "physical entry per area, each within ±1,000,000"
unfoldable pub entries_valid : PerArea → Bool
entries_valid v = within 1000000 (at v 0) && (within 1000000 (at v 1) && within 1000000 (at v 2))

-- "blocked ≤ assigned ≤ 10^12"
unfoldable pub guarantees_valid : User → Bool
guarantees_valid u = leb u.blocked u.party.assigned && leb u.party.assigned 1000000000000

-- "id 32 bits; role 8 bits (0 shipper, 1 clearing house); charges within ±10^12"
unfoldable pub user_is_valid : User → Bool
user_is_valid u =
    (ltb u.party.id (2 ^ 32) && ltb u.party.role 2)
    && (entries_valid u.physical && (within 1000000000000 u.party.charges && guarantees_valid u))

unfoldable pub users_are_valid : List User → Bool
users_are_valid us = ids_rise 0 us && all user_is_valid us

-- the id is in the book
unfoldable pub known : List User → ℕ → Bool
known us id = any (λ u. eqb u.party.id id) us

-- "Manager and managed user are shippers and differ, and a manager isn't managed in that area"; the manager is a user of the book
unfoldable pub manages : List User → ℕ → User → ℕ → Bool
manages us manager u area =
    (known us manager && not (eqb manager u.party.id))
    && ((shipper u && shipper (find us manager)) && eqb (manager_in (find us manager).party.managers area) 0)

-- of a user in an area: "0 for none", the only one in a version without managers; "A bad manager id is refused under question 5"
unfoldable pub manager_valid : ℕ → List User → User → ℕ → Bool
manager_valid version us u area =
    let manager = manager_in u.party.managers area in
    eqb manager 0 || (managers_in version && manages us manager u area)

unfoldable pub managers_are_valid : ℕ → List User → User → Bool
managers_are_valid version us u = manager_valid version us u 0 && (manager_valid version us u 1 && manager_valid version us u 2)

-- every user of a book has valid managers
unfoldable pub groups_valid : Book → Bool
groups_valid b = all (managers_are_valid b.header.version b.users) b.users

-- ---- 6: "Every trade valid?"

-- "Both parties are users of the book and differ."
unfoldable pub parties_valid : List User → Trade → Bool
parties_valid us t =
    (known us t.terms.seller && known us t.terms.buyer) && not (eqb t.terms.seller t.terms.buyer)

unfoldable pub codes_valid : Trade → Bool
codes_valid t = ltb t.terms.area 3 && (ltb t.terms.kind 3 && ltb t.terms.day 2)

-- "notified 1 to 100,000; standing ≤ notified, and equal to it unless kind and day are 0"
unfoldable pub amounts_valid : Trade → Bool
amounts_valid t =
    (leb 1 t.terms.notified && leb t.terms.notified 100000)
    && (leb t.standing t.terms.notified && (bilateral_for_day t || eqb t.standing t.terms.notified))

unfoldable pub trade_is_valid : List User → Trade → Bool
trade_is_valid us t = parties_valid us t && (codes_valid t && amounts_valid t)

-- ---- 7: "Every position as defined?"

unfoldable pub eqb_ℤ : ℤ → ℤ → Bool
eqb_ℤ (pos a) (pos b) = eqb a b
eqb_ℤ (pos a) (negsuc b) = false
eqb_ℤ (negsuc a) (pos b) = false
eqb_ℤ (negsuc a) (negsuc b) = eqb a b

unfoldable pub position_valid : List Trade → User → ℕ → Bool
position_valid ts u area = eqb_ℤ (at u.position area) (defined_position ts u area)

unfoldable pub positions_are_valid : List Trade → User → Bool
positions_are_valid ts u = position_valid ts u 0 && (position_valid ts u 1 && position_valid ts u 2)

-- ---- the questions about a book, in their order

unfoldable pub about_book : Book → List Question
about_book b =
    record { number = 2; holds = version_is_valid b }
    ∷ (record { number = 3; holds = counts_are_valid b }
    ∷ (record { number = 4; holds = header_is_valid b.header }
    ∷ (record { number = 5; holds = users_are_valid b.users && groups_valid b }
    ∷ (record { number = 6; holds = all (trade_is_valid b.users) b.trades }
    ∷ (record { number = 7; holds = all (positions_are_valid b.trades) b.users } ∷ [])))))

-- no question about the book refuses it
unfoldable pub accepted : Book → Bool
accepted b = eqb (refusal (about_book b)) 0
