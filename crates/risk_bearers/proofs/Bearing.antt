-- A table of who bears whose risk gives the book that bytes hold as its risk is borne: its trades, and the sums over its users. Assumes nothing.
use Rattle.base.specs.Basics.{◌≡◌, refl, sym, ap, ap₂, subst, ◌∙◌, Bool, cond, List, [], ◌∷◌, ℕ, zero, suc, ◌≤◌, ◌<◌, not-suc-le-zero}
use Rattle.base.specs.Basics.{le_of_suc-le-suc, arith, T, eqb, eqb→eq, ℤ, pos, ◌+ℤ◌, +ℤ_assoc, +ℤ_idl, +ℤ_idr, length, take, get_or, take_all, eq-eqb}
use Rattle.base.proofs.Fronts.{all_at}
use Rattle.base.proofs.Tests.{eqb_of, or_l, or_r}
use Rattle.base.specs.Lists.{any}
use Rattle.base.specs.Sums.{sum_ℤ}
use Rattle.book_format.proofs.Held.{accepted_ids, accepted_trades}
use Rattle.book_format.proofs.OneUser.{find_place}
use Rattle.book_format.proofs.Passed.{length-trades_of, length-users_of}
use Rattle.book_format.specs.Book.{book_of, trades_of, count_of_users, users_of}
use Rattle.book_format.specs.Held.{Accepted}
use Rattle.book_parties.proofs.Known.{place_in_place_of}
use Rattle.book_parties.specs.Ids.{id_at, ids_of, place_in}
use Rattle.laws.proofs.Managers.{bearer-known}
use Rattle.laws.proofs.Positions.{buyer_known, seller_known}
use Rattle.laws.proofs.Settle.{area-lt}
use Rattle.laws_sales.specs.Borne.{borne_trade, shut}
use Rattle.rules.specs.Bearers.{as_borne, bearer, borne_sum}
use Rattle.rules.specs.Book.{PerArea, Terms, Trade, User, at, find, no_trade, nobody}
use Rattle.rules.specs.Questions.{known, trade_is_valid}
use Rattle.risk_bearers.proofs.Borne.{length-trades_in, trade_in}
use Rattle.risk_bearers.proofs.Places.{known_place, place_is}
use Rattle.risk_bearers.specs.Bearers.{AllBorne, BearersIn, BearersOf, Bearing, BorneAs, bearer_in, trades_in}
use Rattle.risk_bearers.specs.Rows.{amount_in, borne_to}

-- the id at a place is known
known_of : (us : List User) (i : ℕ) → i < length us → T (known us (id_at us i))
unfolding known any
known_of [] i h = absurd (not-suc-le-zero h)
known_of (u ∷ us) zero h = or_l (eqb u.party.id u.party.id) (any (λ v. eqb v.party.id u.party.id) us) (eqb_of u.party.id u.party.id refl)
known_of (u ∷ us) (suc i) h = or_r (eqb u.party.id (id_at us i)) (known us (id_at us i)) (known_of us i (le_of_suc-le-suc h))

-- a sum over one user more
pub sum_more : (f : User → ℤ) (us : List User) (k : ℕ) → k < length us → sum_ℤ f (take (suc k) us) ≡ sum_ℤ f (take k us) +ℤ f (get_or us k nobody)
unfolding sum_ℤ
sum_more f [] k h = absurd (not-suc-le-zero h)
sum_more f (u ∷ us) zero h = +ℤ_idr (f u) ∙ sym (+ℤ_idl (f u))
sum_more f (u ∷ us) (suc k) h = ap (λ (z : ℤ). f u +ℤ z) (sum_more f us k (le_of_suc-le-suc h)) ∙ sym (+ℤ_assoc (f u) (sum_ℤ f (take k us)) (f (get_or us k nobody)))

module _ (s table : List ℕ) (a : Accepted s) (t : BearersOf (users_of s) table) where
  abbrev us : List User
  us = users_of s

  -- the user of a known id stands at its place
  find_at : (id : ℕ) → find us id ≡ get_or us (place_in (ids_of us) id) nobody
  find_at id = find_place us id ∙ ap (λ (k : ℕ). get_or us k nobody) (sym (place_in_place_of us id))

  -- who bears its risk is a user
  bears_known : (id area : ℕ) → area < 3 → T (known us id) → T (known us (bearer (find us id) area))
  unfolding book_of
  bears_known id area l k = bearer-known (book_of s) a.sound id area l k

  pub bearers_in : BearersIn (count_of_users s) table
  bearers_in =
      record {
        room = t.room;
        inside = λ i area h l.
            let u = get_or us i nobody in
            let id = u.party.id in
            omega (
              arith,
              t.each i area (omega (arith, length-users_of s)) l,
              length-users_of s,
              known_place us (bearer u area) (subst T (ap (λ (v : User). known us (bearer v area)) (self i h)) (bears_known id area l (known_of us i (omega (arith, length-users_of s))))),
            );
      }
    where
      -- the user at a place is found there
      self : (i : ℕ) → i < count_of_users s → find us (id_at us i) ≡ get_or us i nobody
      self i h =
          find_at (id_at us i) ∙ ap (λ (k : ℕ). get_or us k nobody)
          (eqb→eq (place_in (ids_of us) (id_at us i)) i (subst T (sym (place_is us (accepted_ids a) i (id_at us i) (omega (arith, length-users_of s)) ∙ eq-eqb (id_at us i) (id_at us i) refl)) tt))

  -- ---- the trades

  module _ (side : Terms → ℕ) (side_known : (t : Trade) → T (trade_is_valid us t) → T (known us (side t.terms))) {i : ℕ} (h : i < length (trades_of s)) where
    abbrev trade : Trade
    trade = get_or (trades_of s) i no_trade

    valid : T (trade_is_valid us trade)
    valid = all_at (trade_is_valid us) (trades_of s) (accepted_trades a) i no_trade h

    party_borne : place_in (ids_of us) (bearer (find us (side trade.terms)) trade.terms.area) ≡ bearer_in table (place_in (ids_of us) (side trade.terms)) trade.terms.area
    party_borne =
        ap (λ (u : User). place_in (ids_of us) (bearer u trade.terms.area)) (find_at (side trade.terms))
        ∙ sym (t.each (place_in (ids_of us) (side trade.terms)) trade.terms.area (known_place us (side trade.terms) (side_known trade valid)) (area-lt us trade valid))

  pub all_borne : AllBorne (ids_of (users_of s)) table (trades_of s) (trades_in s)
  unfolding borne_trade shut as_borne
  all_borne =
      record {
        same = length-trades_in s ∙ sym (length-trades_of s);
        each = λ i h.
            subst (λ (r : Trade). BorneAs (ids_of us) table (get_or (trades_of s) i no_trade) r) (sym (trade_in s i (omega (arith, length-trades_of s))))
            (record {
              area = refl;
              day = refl;
              standing = refl;
              seller = party_borne (λ r. r.seller) (seller_known us) h;
              buyer = party_borne (λ r. r.buyer) (buyer_known us) h;
            });
      }

  pub bearing : Bearing s table
  bearing = record { bearers = bearers_in; trades = trades_in s; borne = all_borne }

  -- ---- the amounts

  module _ (amounts : User → PerArea) (own : List ℕ) (held : (i area : ℕ) → i < length (users_of s) → area < 3 → amount_in own i area ≡ at (amounts (get_or (users_of s) i nobody)) area)
      (i area : ℕ) (h : i < length (users_of s)) (l : area < 3) where
    abbrev one : User → ℤ
    one v = cond (eqb (bearer v area) (id_at us i)) (at (amounts v) area) (pos 0)

    -- over the first users
    borne_first : (k : ℕ) → k ≤ length us → borne_to k own table i area ≡ sum_ℤ one (take k us)
    unfolding borne_to sum_ℤ
    borne_first zero m = refl
    borne_first (suc k) m =
        let here : k < length us = omega arith in
        let test : eqb (bearer_in table k area) i ≡ eqb (bearer (get_or us k nobody) area) (id_at us i)
        = ap (λ (n : ℕ). eqb n i) (t.each k area here l) ∙ place_is us (accepted_ids a) i (bearer (get_or us k nobody) area) h in
        ap₂ (λ (x y : ℤ). x +ℤ y) (borne_first k (omega arith)) (ap₂ (λ (c : Bool) (z : ℤ). cond c z (pos 0)) test (held k area here l))
        ∙ sym (sum_more one us k here)

    -- over all
    pub borne_all : borne_to (count_of_users s) own table i area ≡ borne_sum amounts (users_of s) (id_at (users_of s) i) area
    unfolding borne_sum
    borne_all =
        borne_first (count_of_users s) (omega (arith, length-users_of s)) ∙ ap (sum_ℤ one) (take_all (count_of_users s) us (omega (arith, length-users_of s)))
