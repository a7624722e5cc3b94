-- The own sales that are listed can be cut where they stand: of one user they become those of a reduction, of all users those of a later book. Assumes nothing.
use Rattle.base.specs.Basics.{◌≡◌, refl, sym, ap, ap₂, fun_ext, subst, ◌∙◌, Bool, true, false, cond, ◌&&◌, List, [], ◌∷◌, map, map-map, ℕ, zero, suc}
use Rattle.base.specs.Basics.{◌+◌, ◌-◌, ◌≤◌, ◌<◌, sub-zero, arith, T, eqb, get_or, length, length-map, set, take, get_or-map, ext_get_or, get_or-take}
use Rattle.base.specs.Basics.{map-set_same}
use Rattle.cut_lists.proofs.Own.{count_is, count_room, sales_stay}
use Rattle.cut_lists.specs.Sales.{SalesOf, StandingOf}
use Rattle.laws.specs.Trades.{Framed, Pairwise, ended, then}
use Rattle.base.proofs.Fronts.{get_or_inside}
use Rattle.base.proofs.Tests.{and_l}
use Rattle.base.specs.Lists.{all}
use Rattle.laws_sales.specs.Borne.{borne_book, borne_trade, borne_valid, shut}
use Rattle.rules.specs.Bearers.{as_borne}
use Rattle.rules.specs.Book.{Book, Terms, Trade, bilateral_for_day, no_trade}
use Rattle.rules.specs.Questions.{ids_rise}
use Rattle.rules.specs.Reduction.{cut_all}
use Rattle.laws_sales.proofs.Apart.{origin_bilateral, origins_apart}
use Rattle.laws_sales.proofs.Groups.{grouped_parties, places_kept}
use Rattle.laws_sales.proofs.Listed.{places_many}
use Rattle.laws_sales.proofs.Numbers.{less_at, less-length, read_at}
use Rattle.laws_sales.proofs.Origins.{origin_inside, origins_length, origins_read}
use Rattle.laws_sales.proofs.Own.{own_among, own_sales_lem}
use Rattle.laws_sales.proofs.Parts.{part_at, part_length}
use Rattle.laws_sales.proofs.Whole.{whole}
use Rattle.laws_sales.proofs.Written.{cut_written}
use Rattle.laws_sales.specs.Groups.{grouped, places, standings, standing_at, written}
use Rattle.laws_sales.specs.Kept.{spread}
use Rattle.laws_sales.specs.Parts.{part}
use Rattle.laws_sales.specs.Sales.{less, own_sale, sales_of}
use Rattle.cut_apply.specs.Cutting.{CuttablePart, lowered_at}

-- ---- the cuts of one user's sales

-- the user's own sales, lowered at their places, are the trades with these cuts
pub own_lowered : (ts : List Trade) (id : ℕ) (cs : List ℕ) → length cs ≡ length (sales_of ts id) → lowered_at (places ts id) cs ts ≡ cut_all (spread (own_sale id) ts cs) ts
unfolding lowered_at
own_lowered ts id cs e =
    ap (λ (ns : List ℕ). written no_trade (places ts id) (less cs ns) ts)
    (sym (map-map (λ t. t.standing) (λ i. get_or ts i no_trade) (places ts id)) ∙ ap (map (λ t. t.standing)) (places_kept (own_sale id) no_trade ts))
    ∙ cut_written no_trade (own_sale id) ts cs e

-- ---- the listed sales

module _ {b : Book} (ids : T (ids_rise 0 b.users)) (valid : T (all (borne_valid b.users) b.trades)) {ss origins area_codes bs ns : List ℕ} {count : ℕ} (q : SalesOf b ss origins area_codes bs count) (z : StandingOf b ns count) where
  abbrev all_places : List ℕ
  all_places = grouped (places b.trades) b.users

  count_places : count ≡ length all_places
  count_places = count_is q ∙ sym (origins_length own_sale b.trades b.users)

  -- the place of a sale, and what stands of it
  origin_at : (k : ℕ) → k < count → get_or origins k 0 ≡ get_or all_places k 0
  origin_at k h = sym (get_or-take count origins k 0 h) ∙ ap (λ (xs : List ℕ). get_or xs k 0) q.origins_are

  standing_at_lem : (k : ℕ) → k < count → (get_or b.trades (get_or all_places k 0) no_trade).standing ≡ get_or ns k 0
  standing_at_lem k h =
      sym (read_at (λ i. (get_or b.trades i no_trade).standing) all_places k 0 0 (omega (arith, count_places)))
      ∙ ap (λ (xs : List ℕ). get_or xs k 0) (sym (z.standing_are ∙ origins_read own_sale b.trades b.users (λ t. t.standing) no_trade))
      ∙ get_or-take count ns k 0 h

  pub standing_there : (k : ℕ) → k < count → (get_or b.trades (get_or origins k 0) no_trade).standing ≡ get_or ns k 0
  standing_there k h = ap (λ (i : ℕ). (get_or b.trades i no_trade).standing) (origin_at k h) ∙ standing_at_lem k h

  -- cuts of at most what stands, from a place up to another
  pub cuttable_part : (cuts : List ℕ) (from to : ℕ) → from ≤ to → to ≤ count → to ≤ length cuts → ((k : ℕ) → from ≤ k → k < to → get_or cuts k 0 ≤ get_or ns k 0)
      → CuttablePart b.trades origins cuts from to
  cuttable_part cuts from to h l room most =
      let ts = b.trades in
      let wide : to ≤ length origins = omega (arith, count_room q (places ts) (places_many own_sale b.trades) origins q.origins_are) in
      let long = part_length origins from to wide in
      let at : (k : ℕ) → k < to - from → get_or (part from to origins) k 0 ≡ get_or all_places (from + k) 0 = λ k m. part_at origins from to k 0 (omega arith) ∙ origin_at (from + k) (omega arith) in
      record {
        ends = h;
        few = omega (arith, q.few);
        origins_room = wide;
        cuts_room = room;
        cuttable = record {
          same = part_length cuts from to room ∙ sym long;
          inside = λ k m. omega (arith, long, at k (omega (arith, long)), origin_inside own_sale ts b.users (from + k) (omega (arith, long, count_places)));
          bilateral = λ k m. rw (at k (omega (arith, long))) (origin_bilateral own_sales_lem ts b.users no_trade (from + k) (omega (arith, long, count_places)));
          apart = λ j k m o e. origins_apart own_sales_lem ts b.users no_trade ids (from + j) (from + k) (omega arith) (omega (arith, long, count_places))
              (sym (at j (omega (arith, long))) ∙ e ∙ at k (omega (arith, long)));
          most = λ k m. rw (at k (omega (arith, long))) (omega (arith, long, standing_at_lem (from + k) (omega (arith, long)), part_at cuts from to k 0 (omega (arith, long)), most (from + k) (omega arith) (omega (arith, long))));
        };
      }

  -- the cuts that lead to what stands in a later book of the same parties, whose trades differ in what stands only: all trades are that book's
  pub all_lowered : (c : Book) → Pairwise Framed b.trades c.trades → map (λ v. v.party) c.users ≡ map (λ v. v.party) b.users → {ms : List ℕ} → StandingOf c ms count
      → (cuts : List ℕ) → count ≤ length cuts → ((k : ℕ) → k < count → get_or ms k 0 + get_or cuts k 0 ≡ get_or ns k 0)
      → lowered_at (part 0 count origins) (part 0 count cuts) b.trades ≡ c.trades
  unfolding lowered_at
  all_lowered c f e {ms} y cuts room leads =
      let ts = b.trades in
      let at : ℕ → ℕ = λ i. (get_or ts i no_trade).standing in
      let none : count - 0 ≡ count = sub-zero count in
      let later : take count ms ≡ grouped (standings c.trades) b.users = y.standing_are ∙ grouped_parties (standings c.trades) b.users c.users e in
      let long : length (less (take count cuts) (map at all_places)) ≡ count = less-length (take count cuts) (map at all_places) ∙ length-map all_places at ∙ sym count_places in
      let left : less (take count cuts) (map at all_places) ≡ take count ms =
      ext_get_or 0 (less (take count cuts) (map at all_places)) (take count ms) (long ∙ count_is (sales_stay b c f e q) ∙ sym (ap length y.standing_are))
      (λ k h.
      let l : k < count = omega (arith, long) in
      omega (
        arith,
        less_at (take count cuts) (map at all_places) k,
        read_at at all_places k 0 0 (omega (arith, count_places)),
        standing_at_lem k l,
        get_or-take count cuts k 0 l,
        get_or-take count ms k 0 l,
        leads k l,
      )) in
      ap₂ (λ (xs ys : List ℕ). written no_trade xs (less ys (map at xs)) ts) (ap (λ (n : ℕ). take n origins) none ∙ q.origins_are) (ap (λ (n : ℕ). take n cuts) none)
      ∙ ap (λ (xs : List ℕ). written no_trade all_places xs ts) (left ∙ later)
      ∙ whole own_sales_lem no_trade b.users (own_among b.users) f valid

-- ---- the trades of the book, by those of the book as its risk is borne

-- trades are their terms and what stands
remade : List Terms → List ℕ → List Trade
remade [] ns = []
remade (t ∷ ts) [] = []
remade (t ∷ ts) (n ∷ ns) = record { terms = t; standing = n } ∷ remade ts ns

remade_same : (ts : List Trade) → remade (map (λ t. t.terms) ts) (map (λ t. t.standing) ts) ≡ ts
unfolding remade
remade_same [] = refl
remade_same (t ∷ ts) = ap (λ (us : List Trade). t ∷ us) (remade_same ts)

same_trades : (ts ns : List Trade) → map (λ t. t.terms) ts ≡ map (λ t. t.terms) ns → map (λ t. t.standing) ts ≡ map (λ t. t.standing) ns → ts ≡ ns
same_trades ts ns e f = sym (remade_same ts) ∙ ap₂ remade e f ∙ remade_same ns

terms_framed : {ts ns : List Trade} → Pairwise Framed ts ns → map (λ t. t.terms) ns ≡ map (λ t. t.terms) ts
terms_framed ended = refl
terms_framed (then p ps) = ap₂ (λ (x : Terms) (xs : List Terms). x ∷ xs) p.terms (terms_framed ps)

-- a store in a list, read off each
map-set : {A B : Type 0} (f : A → B) (xs : List A) (i : ℕ) (x : A) → map f (set xs i x) ≡ set (map f xs) i (f x)
map-set f [] i x = refl
map-set f (y ∷ ys) zero x = refl
map-set f (y ∷ ys) (suc i) x = ap (λ (zs : List _). f y ∷ zs) (map-set f ys i x)

-- amounts that are written leave the terms, and depend on what stands alone
terms_written : (is ns : List ℕ) (ts : List Trade) → map (λ t. t.terms) (written no_trade is ns ts) ≡ map (λ t. t.terms) ts
unfolding written standing_at
terms_written [] ns ts = refl
terms_written (i ∷ is) [] ts = refl
terms_written (i ∷ is) (n ∷ ns) ts =
    let r : Trade = record { terms = (get_or ts i no_trade).terms; standing = n } in
    terms_written is ns (set ts i r) ∙ map-set_same (λ (x : Trade). x.terms) ts i r no_trade refl

standing_written : (is ns : List ℕ) (ts rs : List Trade) → map (λ t. t.standing) ts ≡ map (λ t. t.standing) rs
    → map (λ t. t.standing) (written no_trade is ns ts) ≡ map (λ t. t.standing) (written no_trade is ns rs)
unfolding written standing_at
standing_written [] ns ts rs e = e
standing_written (i ∷ is) [] ts rs e = e
standing_written (i ∷ is) (n ∷ ns) ts rs e =
    standing_written is ns (set ts i (record { terms = (get_or ts i no_trade).terms; standing = n })) (set rs i (record { terms = (get_or rs i no_trade).terms; standing = n }))
    (map-set (λ (x : Trade). x.standing) ts i (record { terms = (get_or ts i no_trade).terms; standing = n })
    ∙ ap (λ (xs : List ℕ). set xs i n) e
    ∙ sym (map-set (λ (x : Trade). x.standing) rs i (record { terms = (get_or rs i no_trade).terms; standing = n })))

standing_same : (ts rs : List Trade) → map (λ t. t.standing) ts ≡ map (λ t. t.standing) rs → (i : ℕ) → (get_or ts i no_trade).standing ≡ (get_or rs i no_trade).standing
standing_same ts rs e i =
    sym (get_or-map (λ (x : Trade). x.standing) ts i no_trade) ∙ ap (λ (xs : List ℕ). get_or xs i 0) e ∙ get_or-map (λ (x : Trade). x.standing) rs i no_trade

standing_lowered : (is cs : List ℕ) (ts rs : List Trade) → map (λ t. t.standing) ts ≡ map (λ t. t.standing) rs
    → map (λ t. t.standing) (lowered_at is cs ts) ≡ map (λ t. t.standing) (lowered_at is cs rs)
unfolding lowered_at
standing_lowered is cs ts rs e =
    let at : List Trade → ℕ → ℕ = λ us i. (get_or us i no_trade).standing in
    ap (λ (f : ℕ → ℕ). map (λ t. t.standing) (written no_trade is (less cs (map f is)) ts)) (fun_ext (standing_same ts rs e))
    ∙ standing_written is (less cs (map (at rs) is)) ts rs e

-- a book as its risk is borne stands as it does
standing_borne : (b : Book) → map (λ t. t.standing) (borne_book b).trades ≡ map (λ t. t.standing) b.trades
unfolding borne_book borne_trade shut as_borne
standing_borne b = map-map (λ (t : Trade). t.standing) (borne_trade b.users) b.trades

-- cuts that lead from one book to another as their risk is borne lead from the one to the other
pub real_lowered : (b c : Book) (is cs : List ℕ) → Pairwise Framed b.trades c.trades → lowered_at is cs (borne_book b).trades ≡ (borne_book c).trades → lowered_at is cs b.trades ≡ c.trades
unfolding lowered_at
real_lowered b c is cs f e =
    same_trades (lowered_at is cs b.trades) c.trades
    (terms_written is (less cs (map (λ i. (get_or b.trades i no_trade).standing) is)) b.trades ∙ sym (terms_framed f))
    (standing_lowered is cs b.trades (borne_book b).trades (sym (standing_borne b)) ∙ ap (map (λ t. t.standing)) e ∙ standing_borne c)

-- what can be cut as it is borne can be cut
module _ (b : Book) (i : ℕ) (inside : i < length b.trades) where
  trade_borne : get_or (borne_book b).trades i no_trade ≡ borne_trade b.users (get_or b.trades i no_trade)
  unfolding borne_book
  trade_borne =
      let f = borne_trade b.users in
      get_or_inside (map f b.trades) i no_trade (f no_trade) (omega (arith, length-map b.trades f, inside)) ∙ get_or-map f b.trades i no_trade

  real_bilateral : T (bilateral_for_day (get_or (borne_book b).trades i no_trade)) → T (bilateral_for_day (get_or b.trades i no_trade))
  unfolding bilateral_for_day borne_trade shut as_borne
  real_bilateral h =
      let t = get_or b.trades i no_trade in
      let r = (as_borne b.users t).terms in
      go (eqb r.seller r.buyer) (subst T (ap (λ (x : Trade). eqb x.terms.kind 0 && eqb x.terms.day 0) trade_borne) h)
    where
      go : (c : Bool) → T (eqb (cond c 1 (get_or b.trades i no_trade).terms.kind) 0 && eqb (get_or b.trades i no_trade).terms.day 0) → T (eqb (get_or b.trades i no_trade).terms.kind 0 && eqb (get_or b.trades i no_trade).terms.day 0)
      go true k = absurd (and_l (eqb 1 0) (eqb (get_or b.trades i no_trade).terms.day 0) k)
      go false k = k

pub cuttable_real : (b : Book) {origins cuts : List ℕ} {from to : ℕ} → CuttablePart (borne_book b).trades origins cuts from to → CuttablePart b.trades origins cuts from to
unfolding borne_book
cuttable_real b {origins} {cuts} {from} {to} p =
    let is = part from to origins in
    let c = p.cuttable in
    let many = length-map b.trades (borne_trade b.users) in
    record {
      ends = p.ends;
      few = p.few;
      origins_room = p.origins_room;
      cuts_room = p.cuts_room;
      cuttable = record {
        same = c.same;
        inside = λ k h. omega (arith, c.inside k h, many);
        bilateral = λ k h. real_bilateral b (get_or is k 0) (omega (arith, c.inside k h, many)) (c.bilateral k h);
        apart = c.apart;
        most = λ k h. omega (arith, c.most k h, standing_same (borne_book b).trades b.trades (standing_borne b) (get_or is k 0));
      };
    }
