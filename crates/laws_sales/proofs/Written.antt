-- What stands of the trades that pass a test, less their cuts, written at their places: the trades with these cuts, and no cut of the others. Assumes nothing.
use Rattle.base.specs.Basics.{◌≡◌, refl, sym, ap, ap₂, ◌∙◌, Bool, true, List, [], ◌∷◌, map, ℕ, arith, length}
use Rattle.base.proofs.Tests.{by_case}
use Rattle.rules.specs.{Book.Trade, Reduction.cut_by, Reduction.cut_all}
use Rattle.laws_sales.proofs.{Cuts.cut_zero, Kept.spread_no, Standing.written_past}
use Rattle.laws_sales.specs.{Groups.standing_at, Groups.written, Kept.kept, Kept.places_of, Kept.spread, Sales.less}

-- the trade is cut by the first
cut_first : (d t : Trade) (p : Trade → Bool) (ts : List Trade) (cs : List ℕ) → p t ≡ true → length cs ≡ length (kept p (t ∷ ts))
    → ((ns : List ℕ) → length ns ≡ length (kept p ts) → written d (places_of p ts) (less ns (map (λ t. t.standing) (kept p ts))) ts ≡ cut_all (spread p ts ns) ts)
    → written d (places_of p (t ∷ ts)) (less cs (map (λ t. t.standing) (kept p (t ∷ ts)))) (t ∷ ts) ≡ cut_all (spread p (t ∷ ts) cs) (t ∷ ts)
unfolding written places_of kept spread cut_all less cut_by standing_at
cut_first d t p ts [] k e rest = let z = rw k at e in absurd (omega arith)
cut_first d t p ts (c ∷ cs) k e rest =
    rw k
    (written_past d (places_of p ts) (less cs (map (λ t. t.standing) (kept p ts))) (cut_by c t) ts
    ∙ ap (λ (ns : List Trade). cut_by c t ∷ ns) (rest cs (let z = rw k at e in omega arith)))

pub cut_written : (d : Trade) (p : Trade → Bool) (ts : List Trade) (cs : List ℕ) → length cs ≡ length (kept p ts)
    → written d (places_of p ts) (less cs (map (λ t. t.standing) (kept p ts))) ts ≡ cut_all (spread p ts cs) ts
unfolding written places_of kept spread cut_all
cut_written d p [] cs e = refl
cut_written d p (t ∷ ts) cs e =
    by_case (p t)
    (λ k. cut_first d t p ts cs k e (λ ns. cut_written d p ts ns))
    (λ k. rw (spread_no p t ts cs k, k)
    (written_past d (places_of p ts) (less cs (map (λ t. t.standing) (kept p ts))) t ts
    ∙ ap₂ (λ (n : Trade) (ns : List Trade). n ∷ ns) (sym (cut_zero t)) (cut_written d p ts cs (rw k at e))))
