-- The cuts of a user's own sales, entered at their places, are the cuts of all trades; so are those of the sales as they are borne. Assumes nothing.
use Rattle.base.specs.Basics.{◌≡◌, refl, sym, ap, ◌∙◌, Bool, true, List, [], ◌∷◌, map, ℕ, suc, arith, length, set, replicate, length-map}
use Rattle.base.proofs.Tests.{by_case}
use Rattle.laws_sales.proofs.Cuts.{cuts_sales}
use Rattle.laws_sales.proofs.FirstCuts.{own_cuts_length}
use Rattle.laws_sales.proofs.Kept.{spread_no}
use Rattle.laws_sales.proofs.Own.{own_sales_lem}
use Rattle.laws_sales.specs.Borne.{borne_book, borne_trade, borne_user}
use Rattle.laws_sales.specs.Groups.{places}
use Rattle.laws_sales.specs.Kept.{kept, places_of, spread}
use Rattle.laws_sales.specs.Reduced.{own_cuts}
use Rattle.laws_sales.specs.Sales.{own_sale}
use Rattle.rules.specs.Book.{Book, User}
use Rattle.rules.specs.Reduction.{cuts}
use Rattle.log_entries.specs.Entries.{entered}

-- places behind the first
entered_past : (is cs : List ℕ) (x : ℕ) (xs : List ℕ) → entered (map suc is) cs (x ∷ xs) ≡ x ∷ entered is cs xs
unfolding entered
entered_past [] cs x xs = refl
entered_past (i ∷ is) [] x xs = refl
entered_past (i ∷ is) (c ∷ cs) x xs = entered_past is cs x (set xs i c)

module _ {A : Type 0} (p : A → Bool) where
  entered_first : (t : A) (ts : List A) (cs : List ℕ) → p t ≡ true → length cs ≡ length (kept p (t ∷ ts))
      → ((ns : List ℕ) → length ns ≡ length (kept p ts) → entered (places_of p ts) ns (replicate (length ts) 0) ≡ spread p ts ns)
      → entered (places_of p (t ∷ ts)) cs (replicate (length (t ∷ ts)) 0) ≡ spread p (t ∷ ts) cs
  unfolding entered places_of kept spread
  entered_first t ts [] e k rest = let z = rw e at k in absurd (omega arith)
  entered_first t ts (c ∷ cs) e k rest =
      rw e (entered_past (places_of p ts) cs c (replicate (length ts) 0) ∙ ap (λ (ns : List ℕ). c ∷ ns) (rest cs (let z = rw e at k in omega arith)))

  pub spread-entered : (ts : List A) (cs : List ℕ) → length cs ≡ length (kept p ts) → entered (places_of p ts) cs (replicate (length ts) 0) ≡ spread p ts cs
  unfolding entered places_of kept spread
  spread-entered [] cs k = refl
  spread-entered (t ∷ ts) cs k =
      by_case (p t)
      (λ e. entered_first t ts cs e k (λ ns. spread-entered ts ns))
      (λ e. rw (spread_no p t ts cs e, e) (entered_past (places_of p ts) cs 0 (replicate (length ts) 0) ∙ ap (λ (ns : List ℕ). 0 ∷ ns) (spread-entered ts cs (rw e at k))))

-- ---- a reduction

-- as many trades as they are borne
pub borne_many : (b : Book) → length (borne_book b).trades ≡ length b.trades
unfolding borne_book
borne_many b = length-map b.trades (borne_trade b.users)

-- the cuts of a reduction are those of the sales as they are borne, entered at their places
pub cuts-entered : (b : Book) (u : User) (asked : ℕ)
    → cuts b u asked ≡ entered (places (borne_book b).trades u.party.id) (own_cuts (borne_book b) (borne_user b.users u) asked) (replicate (length b.trades) 0)
unfolding borne_user
cuts-entered b u asked =
    let ts = (borne_book b).trades in
    let own = own_cuts (borne_book b) (borne_user b.users u) asked in
    cuts_sales b u asked
    ∙ sym (spread-entered (own_sale u.party.id) ts own (own_cuts_length own_sales_lem (borne_book b) (borne_user b.users u) asked))
    ∙ ap (λ (m : ℕ). entered (places ts u.party.id) own (replicate m 0)) (borne_many b)
