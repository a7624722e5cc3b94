-- `below_notified_at`: some trade of the book passes the test. Assumes nothing.
use Rattle.std.proofs.Common.{rules, tests}
use Rattle.std.proofs.lemmas.Iterator.{cases_from_any, YieldsList-from_range}
use Rattle.base.specs.Basics.{◌≡◌, ◌<◌, Bool, ℕ, true, false, ◌&&◌, ◌||◌, eqb, ltb, refl, arith, get_or}
use Rattle.book_format.specs.Book.{count_of_users, trades_of}
use Rattle.rules.specs.Book.{no_trade}
use Rattle.cut_parties.proofs.Cut.{one_any}
use Rattle.cut_parties.proofs.below_notified_at.Goals as goal

pub returns : goal.returns
returns c = let a = c.args in
    let inside : a.place < count_of_users a.book.now = omega (arith, c.requires.3, c.requires.1) in
    let t = λ (i : ℕ). get_or (trades_of a.book.now) i no_trade in
    let passes : ℕ → Bool = λ i. (eqb (get_or a.bearing_sellers.now i 0) a.place || eqb (get_or a.bearing_buyers.now i 0) a.place) && ltb (t i).standing (t i).terms.notified in
    one_any a.book.now a.bearing_sellers.now a.bearing_buyers.now c.requires.0 a.place inside c.any.result c.requires.2
    (cases_from_any _ _ c.any.result (λ i. passes i ≡ true) (λ i. passes i ≡ false) c.any.ensures.ran (YieldsList-from_range 0 a.m a.m refl (omega arith)) (λ x q k. search (rules, tests)) (λ x q k. search (rules, tests)))
