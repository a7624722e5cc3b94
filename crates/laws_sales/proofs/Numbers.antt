-- Own sales as lists of numbers: their tiers, their cuts, and what stands of them after the cuts. Assumes nothing.
use Rattle.base.specs.Basics.{◌≡◌, refl, sym, ap, ap₂, ◌∙◌, Bool, not, cond, List, [], ◌∷◌, map, ℕ, zero, suc, ◌-◌, ◌<◌, not-suc-le-zero, le_of_suc-le-suc}
use Rattle.base.specs.Basics.{arith, length, get_or, length-map, get_or-eq_default, get_or-map}
use Rattle.base.proofs.Fronts.{get_or_inside}
use Rattle.laws.specs.Trades.{standing_if, tariff_of}
use Rattle.rules.specs.{Areas.Prices, Book.Terms, Book.Trade, Reduction.together, Reduction.cut_by, Reduction.cut_all, Shares.tier_worth, Shares.cuts_of_tier}
use Rattle.laws_sales.specs.{Sales.sale_lots, Sales.sale_cuts, Sales.standing_in, Sales.less, Lots.lots_of}
use Rattle.laws_sales.proofs.Lots.{lots_map}

-- what is read off a list, at a place
pub read_at : {A B : Type 0} (g : A → B) (xs : List A) (i : ℕ) (d : A) (e : B) → i < length xs → get_or (map g xs) i e ≡ g (get_or xs i d)
read_at g xs i d e h = get_or_inside (map g xs) i e (g d) (omega (arith, length-map xs g)) ∙ get_or-map g xs i d

-- ---- tiers

-- what stands of sales in areas that pass a test, from what stands and the areas
pub standing_in_lem : (belongs : ℕ → Bool) (ss : List Trade)
    → map (standing_if (λ t. belongs t.terms.area)) ss ≡ standing_in belongs (map (λ s. s.standing) ss) (map (λ s. s.terms.area) ss)
unfolding standing_in
standing_in_lem belongs [] = refl
standing_in_lem belongs (s ∷ ss) =
    ap (λ (ns : List ℕ). cond (belongs s.terms.area) s.standing 0 ∷ ns) (standing_in_lem belongs ss)

-- at each place
pub standing_in_at : (belongs : ℕ → Bool) (ns areas : List ℕ) (i : ℕ) → i < length ns → i < length areas
    → get_or (standing_in belongs ns areas) i 0 ≡ cond (belongs (get_or areas i 0)) (get_or ns i 0) 0
unfolding standing_in
standing_in_at belongs [] areas i h k = absurd (not-suc-le-zero h)
standing_in_at belongs (n ∷ ns) [] i h k = absurd (not-suc-le-zero k)
standing_in_at belongs (n ∷ ns) (a ∷ areas) zero h k = refl
standing_in_at belongs (n ∷ ns) (a ∷ areas) (suc i) h k = standing_in_at belongs ns areas i (le_of_suc-le-suc h) (le_of_suc-le-suc k)

-- as many as there are amounts
pub standing_in_length : (belongs : ℕ → Bool) (ns areas : List ℕ) → length areas ≡ length ns → length (standing_in belongs ns areas) ≡ length ns
unfolding standing_in
standing_in_length belongs [] areas e = refl
standing_in_length belongs (n ∷ ns) [] e = e
standing_in_length belongs (n ∷ ns) (a ∷ areas) e = ap suc (standing_in_length belongs ns areas (omega arith))

-- a tier of sales is its two lists
pub sale_lots_lem : (f : Prices) (belongs : ℕ → Bool) (ss : List Trade)
    → sale_lots f belongs ss ≡ lots_of (standing_in belongs (map (λ s. s.standing) ss) (map (λ s. s.terms.area) ss)) (map (tariff_of f) ss)
unfolding sale_lots
sale_lots_lem f belongs ss =
    lots_map f (λ t. belongs t.terms.area) ss ∙ ap (λ (ns : List ℕ). lots_of ns (map (tariff_of f) ss)) (standing_in_lem belongs ss)

-- the cuts of sales from what stands of them in either tier and their tariffs
pub sale_cuts_lots : (f : Prices) (short : ℕ → Bool) (asked : ℕ) (ss : List Trade) {one two tariffs : List ℕ}
    → one ≡ standing_in short (map (λ s. s.standing) ss) (map (λ s. s.terms.area) ss)
    → two ≡ standing_in (λ area. not (short area)) (map (λ s. s.standing) ss) (map (λ s. s.terms.area) ss)
    → tariffs ≡ map (tariff_of f) ss
    → together (cuts_of_tier asked (lots_of one tariffs)) (cuts_of_tier (asked - tier_worth (lots_of one tariffs)) (lots_of two tariffs)) ≡ sale_cuts f short asked ss
unfolding sale_cuts
sale_cuts_lots f short asked ss {one} {two} {tariffs} a b c =
    let d : lots_of one tariffs ≡ sale_lots f short ss = ap₂ lots_of a c ∙ sym (sale_lots_lem f short ss) in
    let e : lots_of two tariffs ≡ sale_lots f (λ area. not (short area)) ss = ap₂ lots_of b c ∙ sym (sale_lots_lem f (λ area. not (short area)) ss) in
    rw (d, e)

-- ---- after cuts

-- amounts less their cuts, at each place
pub less_at : (cs ns : List ℕ) (i : ℕ) → get_or (less cs ns) i 0 ≡ get_or ns i 0 - get_or cs i 0
unfolding less
less_at [] ns i = omega (arith, get_or-eq_default {A = ℕ} [] 0 {n = i} (omega arith))
less_at (c ∷ cs) [] i = omega (arith, get_or-eq_default {A = ℕ} [] 0 {n = i} (omega arith))
less_at (c ∷ cs) (n ∷ ns) zero = refl
less_at (c ∷ cs) (n ∷ ns) (suc i) = less_at cs ns i

pub less-length : (cs ns : List ℕ) → length (less cs ns) ≡ length ns
unfolding less
less-length [] ns = refl
less-length (c ∷ cs) [] = refl
less-length (c ∷ cs) (n ∷ ns) = ap suc (less-length cs ns)

-- what stands after cuts
pub standing_cut : (cs : List ℕ) (ts : List Trade) → map (λ t. t.standing) (cut_all cs ts) ≡ less cs (map (λ t. t.standing) ts)
unfolding cut_all cut_by less
standing_cut [] ts = refl
standing_cut (c ∷ cs) [] = refl
standing_cut (c ∷ cs) (t ∷ ts) = ap (λ (ns : List ℕ). (t.standing - c) ∷ ns) (standing_cut cs ts)

-- what is read off the terms stays
pub terms_cut : {B : Type 0} (g : Terms → B) (cs : List ℕ) (ts : List Trade) → map (λ t. g t.terms) (cut_all cs ts) ≡ map (λ t. g t.terms) ts
unfolding cut_all cut_by
terms_cut g [] ts = refl
terms_cut g (c ∷ cs) [] = refl
terms_cut {B} g (c ∷ cs) (t ∷ ts) = ap (λ (xs : List B). g t.terms ∷ xs) (terms_cut g cs ts)
