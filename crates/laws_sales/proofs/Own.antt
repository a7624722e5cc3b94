-- A sale is its seller's, of trades as they are borne: the test is one of the terms, no trade is a sale of two users, each is one of some user, and those that stand above 0 are eligible. Assumes nothing.
use Rattle.base.specs.Basics.{◌≡◌, refl, sym, ap, ◌∙◌, ◌&&◌, List, [], ◌∷◌, ℕ, T, eqb, eqb→eq, ne_eqb, eqb-true}
use Rattle.base.proofs.Tests.{and_l, and_r, eqb_comm, or_l, by_case}
use Rattle.rules.specs.{Bearers.as_borne, Book.Book, Book.Terms, Book.Trade, Book.User, Book.bilateral_for_day, Levels.sells, Questions.known, Reduction.eligible}
use Rattle.base.specs.Lists.{any}
use Rattle.laws_sales.specs.{Borne.borne_trade, Borne.borne_valid, Borne.shut, Own.EligibleBy, Own.OfTerms, Own.Owned, Own.OwnedAmong, Sales.own_sale}

of_terms : (id : ℕ) → OfTerms (own_sale id)
unfolding OfTerms own_sale bilateral_for_day
of_terms id t n e = ap (λ (r : Terms). eqb r.seller id && (eqb r.kind 0 && eqb r.day 0)) e

pub own_sales_lem : Owned own_sale
unfolding own_sale
own_sales_lem = record {
  of_terms = of_terms;
  bilateral = λ id t h. and_r (eqb t.terms.seller id) (bilateral_for_day t) h;
  apart = λ id other n t h.
      let e = eqb→eq t.terms.seller id (and_l (eqb t.terms.seller id) (bilateral_for_day t) h) in
      rw (ne_eqb t.terms.seller other (λ k. n (sym k ∙ e))) refl;
}

-- a trade of kind 0 and day 0 with a known seller is a sale of some user
known_owned : (us : List User) (t : Trade) → T (bilateral_for_day t) → T (known us t.terms.seller) → T (any (λ u. own_sale u.party.id t) us)
unfolding any known own_sale
known_owned [] t e h = h
known_owned (u ∷ us) t e h =
    by_case (eqb u.party.id t.terms.seller)
    (λ k. rw (eqb_comm t.terms.seller u.party.id ∙ k) (or_l (bilateral_for_day t) (any (λ v. own_sale v.party.id t) us) e))
    (λ k. rw (eqb_comm t.terms.seller u.party.id ∙ k) (known_owned us t e (rw k at h)))

pub own_among : (us : List User) → OwnedAmong own_sale us
unfolding borne_valid
own_among us = record { some = λ t v e. known_owned us t e (search (and_l, and_r)) }

-- a sale to another than the bearer of the seller's risk
pub own_eligible : (b : Book) (u : User) → EligibleBy b u (λ t. own_sale u.party.id (borne_trade b.users t))
unfolding EligibleBy eligible sells own_sale borne_trade shut bilateral_for_day as_borne
own_eligible b u t =
    let seller = (as_borne b.users t).terms.seller in
    let buyer = (as_borne b.users t).terms.buyer in
    by_case (eqb seller u.party.id)
    (λ s. let same : eqb seller buyer ≡ eqb buyer u.party.id
    = ap (λ (n : ℕ). eqb n buyer) (eqb-true seller u.party.id s) ∙ eqb_comm u.party.id buyer in
    by_case (eqb buyer u.party.id) (λ o. rw (s, same, o)) (λ o. rw (s, same, o)))
    (λ s. rw s)
