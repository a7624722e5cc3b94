-- Without managers each user bears its own risk; with them the places and the sums are those that the table gives. Assumes nothing.
use Rattle.base.specs.Basics.{◌≡◌, sym, ap, subst, ◌∙◌, false, List, map, map-map, ℕ, arith}
use Rattle.book_format.proofs.Passed.{length-users_of}
use Rattle.book_format.specs.Book.{book_of, trades_of, users_of, version_of}
use Rattle.book_format.specs.Held.{Accepted}
use Rattle.book_parties.specs.Ids.{BookIn, Placed, ids_of, place_in}
use Rattle.book_sums.specs.Twelve.{SumsOf, TwelveOf}
use Rattle.laws_sales.proofs.Alone.{own_risk}
use Rattle.laws_sales.specs.Borne.{borne_book, borne_user}
use Rattle.risk_bearers.proofs.Borne.{id_in_lem, length-users_in}
use Rattle.risk_bearers.specs.Bearers.{BorneIn, SummedAt, trades_in, users_in}
use Rattle.rules.specs.Areas.{managers_in}
use Rattle.rules.specs.Book.{Book, Trade, User, bought, sold}

-- the same ids
ids_same : (s : List ℕ) → ids_of (users_in s) ≡ ids_of (users_of s)
unfolding ids_of borne_book book_of borne_user
ids_same s = map-map (λ (u : User). u.party.id) (borne_user (users_of s)) (users_of s)

module _ (s : List ℕ) (a : Accepted s) (none : managers_in (version_of s) ≡ false) where
  alone : book_of s ≡ borne_book (book_of s)
  unfolding book_of
  alone = sym (own_risk (book_of s) a.sound none).book

  pub plain_in : {sellers buyers : List ℕ} → BookIn s sellers buyers → BorneIn s sellers buyers
  unfolding book_of
  plain_in {sellers} {buyers} b = record { accepted = b.accepted; placed = subst (λ (x : Book). Placed x.users x.trades sellers buyers) alone b.placed }

  pub plain_sums : {sums : List ℕ} → SumsOf (users_of s) (trades_of s) sums → SumsOf (users_in s) (trades_in s) sums
  unfolding book_of
  plain_sums {sums} w = subst (λ (x : Book). SumsOf x.users x.trades sums) alone w

module _ (s : List ℕ) (a : Accepted s) {sellers buyers sums : List ℕ} (p : SummedAt (users_of s) (trades_in s) sellers buyers sums) where
  pub managed_in : BorneIn s sellers buyers
  managed_in =
      record {
        accepted = a;
        placed = record {
          of_sellers = p.placed.of_sellers ∙ ap (λ (ids : List ℕ). map (λ (t : Trade). place_in ids t.terms.seller) (trades_in s)) (sym (ids_same s));
          of_buyers = p.placed.of_buyers ∙ ap (λ (ids : List ℕ). map (λ (t : Trade). place_in ids t.terms.buyer) (trades_in s)) (sym (ids_same s));
        };
      }

  pub managed_sums : TwelveOf (users_in s) (trades_in s) sums
  managed_sums =
      let many = length-users_in s in
      record {
        sold_at = λ i area day h l m. p.twelve.sold_at i area day (omega (arith, many, length-users_of s)) l m ∙ ap (λ (id : ℕ). sold (trades_in s) id area day) (sym (id_in_lem s i));
        bought_at = λ i area day h l m. p.twelve.bought_at i area day (omega (arith, many, length-users_of s)) l m ∙ ap (λ (id : ℕ). bought (trades_in s) id area day) (sym (id_in_lem s i));
      }
