-- What a user holds in a book as its risk is borne, by its own record and its own trades, is what the rules say that it holds in the book. Assumes nothing.
use Rattle.base.specs.Basics.{◌≡◌, refl, sym, ◌∙◌, cond, ◌&&◌, List, ℕ, zero, suc, eqb}
use Rattle.base.proofs.Sums.{sum-map}
use Rattle.laws.specs.Statements.{own_holding}
use Rattle.rules.specs.Bearers.{as_borne, bearer, borne, borne_sum}
use Rattle.rules.specs.{Book.Book, Book.PerArea, Book.Trade, Book.User, Book.at, Book.bought, Book.dealt, Book.manager_in, Book.sold, Levels.holding}
use Rattle.laws_sales.specs.Borne.{borne_book, borne_sums, borne_trade, borne_user, shut}

-- the sum of an area
pub at_sums : (amounts : User → PerArea) (us : List User) (id i : ℕ) → at (borne_sums amounts us id) i ≡ borne_sum amounts us id i
unfolding at borne_sums borne_sum bearer manager_in
at_sums amounts us id zero = refl
at_sums amounts us id (suc zero) = refl
at_sums amounts us id (suc (suc i)) = refl

-- what is dealt is read of neither kind
module _ (b : Book) (id area day : ℕ) where
  sold-borne : sold (borne b) id area day ≡ sold (borne_book b).trades id area day
  unfolding sold dealt borne borne_book borne_trade shut
  sold-borne =
      let one : Trade → ℕ = λ t. cond (eqb t.terms.seller id) (cond (eqb t.terms.area area && eqb t.terms.day day) t.standing 0) 0 in
      sum-map one (as_borne b.users) b.trades ∙ sym (sum-map one (borne_trade b.users) b.trades)

  bought-borne : bought (borne b) id area day ≡ bought (borne_book b).trades id area day
  unfolding bought dealt borne borne_book borne_trade shut
  bought-borne =
      let one : Trade → ℕ = λ t. cond (eqb t.terms.buyer id) (cond (eqb t.terms.area area && eqb t.terms.day day) t.standing 0) 0 in
      sum-map one (as_borne b.users) b.trades ∙ sym (sum-map one (borne_trade b.users) b.trades)

pub held_borne : (b : Book) (u : User) (area : ℕ) → holding b u area ≡ own_holding (borne_book b) (borne_user b.users u) area
unfolding holding own_holding borne_user
held_borne b u area =
    let id = u.party.id in
    let p = sym (at_sums (λ v. v.physical) b.users id area) in
    let z = sym (at_sums (λ v. v.position) b.users id area) in
    let s = sold-borne b id area 0 in
    let t = bought-borne b id area 0 in
    let m = sold-borne b id area 1 in
    let n = bought-borne b id area 1 in
    λ i. record { physical = p i; position = z i; sold = s i; bought = t i; sold_next = m i; bought_next = n i }
