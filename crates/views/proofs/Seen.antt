-- What a party holds, its record and whether it is a shipper of the book stand in what it may see. Assumes nothing.
use Rattle.base.specs.Basics.{◌≡◌, ◌∙◌, ap, ap₂, refl, sym, Bool, true, false, not, cond, ◌&&◌, ◌||◌, List, map, ℕ, zero, suc, T, T_not, eqb, ℤ, pos}
use Rattle.base.specs.Lists.{any}
use Rattle.base.proofs.{Sums.sum_ext, Sums.sum-map, Tests.by_test, Tests.or_l, Tests.or_r}
use Rattle.rules.specs.{Areas.areas, Bearers.as_borne, Bearers.bearer, Bearers.borne, Bearers.borne_sum, Levels.holding, Questions.ids_rise}
use Rattle.rules.specs.Book.{Book, PerArea, Terms, Trade, User, bought, dealt, find, manager_in, nobody, sold}
use Rattle.views.proofs.Kept.{find-kept, kept-sum, kept-sum_ℤ}
use Rattle.laws_sales.specs.Kept.{kept}
use Rattle.views.specs.Views.{sees_trade, sees_user, trades_seen, view_of}

false_of : (c : Bool) → (T c → ⊥) → c ≡ false
false_of true f = absurd (f tt)
false_of false f = refl

-- ---- users

-- who bears a user's risk in an area sees its record
pub bearer_sees : (party : ℕ) (u : User) (area : ℕ) → T (eqb (bearer u area) party) → T (sees_user party u)
unfolding sees_user any areas bearer manager_in
bearer_sees party u zero h = or_r (eqb u.party.id party) _ (or_l (eqb (bearer u 0) party) _ h)
bearer_sees party u (suc zero) h = or_r (eqb u.party.id party) _ (or_r (eqb (bearer u 0) party) _ (or_l (eqb (bearer u 1) party) _ h))
bearer_sees party u (suc (suc area)) h =
    or_r (eqb u.party.id party) _ (or_r (eqb (bearer u 0) party) _ (or_r (eqb (bearer u 1) party) _ (or_l (eqb (bearer u 2) party) _ h)))

-- nobody's risk is borne by who has an id
bearer-nobody : (party area : ℕ) → T (not (eqb 0 party)) → eqb (bearer nobody area) party ≡ false
unfolding bearer nobody manager_in
bearer-nobody party zero n = false_of (eqb 0 party) (T_not (eqb 0 party) n)
bearer-nobody party (suc zero) n = false_of (eqb 0 party) (T_not (eqb 0 party) n)
bearer-nobody party (suc (suc area)) n = false_of (eqb 0 party) (T_not (eqb 0 party) n)

-- whose risk the party bears is told by the users that it sees
bearer_seen : (party : ℕ) (us : List User) → T (ids_rise 0 us) → T (not (eqb 0 party)) → (id area : ℕ)
    → eqb (bearer (find (kept (sees_user party) us) id) area) party ≡ eqb (bearer (find us id) area) party
bearer_seen party us r n id area =
    let u = find us id in
    ap (λ (v : User). eqb (bearer v area) party) (find-kept (sees_user party) us 0 id r)
    ∙ by_test (λ (v : User). eqb (bearer v area) party ≡ eqb (bearer u area) party) (sees_user party u) (λ s. refl)
    (λ s. bearer-nobody party area n ∙ sym (false_of (eqb (bearer u area) party) (λ t. T_not (sees_user party u) s (bearer_sees party u area t))))

-- a sum over those whose risk the party bears
sum_seen : (amounts : User → PerArea) (us : List User) (party area : ℕ) → borne_sum amounts (kept (sees_user party) us) party area ≡ borne_sum amounts us party area
unfolding borne_sum
sum_seen amounts us party area =
    kept-sum_ℤ (sees_user party) _
    (λ u h. by_test (λ (z : ℤ). z ≡ pos 0) (eqb (bearer u area) party) (λ t. absurd (T_not (sees_user party u) h (bearer_sees party u area t))) (λ t. refl))
    us

-- ---- trades

-- what a trade counts in an area for a day
amongst : ℕ → ℕ → Trade → ℕ
amongst area day t = cond (eqb t.terms.area area && eqb t.terms.day day) t.standing 0

amongst_borne : (area day : ℕ) (us : List User) (t : Trade) → amongst area day (as_borne us t) ≡ amongst area day t
unfolding amongst as_borne
amongst_borne area day us t = refl

-- a sum over the trades whose seller's, or buyer's, risk the party bears
dealt_seen : (side : Terms → ℕ) (party : ℕ) (us vs : List User) (area day : ℕ)
    → ((t : Trade) → eqb (side (as_borne vs t).terms) party ≡ eqb (side (as_borne us t).terms) party)
    → ((t : Trade) → T (eqb (side (as_borne us t).terms) party) → T (sees_trade us party t))
    → (ts : List Trade)
    → dealt side (λ id. eqb id party) (map (as_borne vs) (kept (sees_trade us party) ts)) area day ≡ dealt side (λ id. eqb id party) (map (as_borne us) ts) area day
unfolding dealt amongst
dealt_seen side party us vs area day same sees ts =
    let counted : Trade → ℕ = λ t. cond (eqb (side t.terms) party) (amongst area day t) 0 in
    sum-map counted (as_borne vs) (kept (sees_trade us party) ts)
    ∙ sum_ext (λ t. counted (as_borne vs t)) (λ t. counted (as_borne us t)) alike (kept (sees_trade us party) ts)
    ∙ kept-sum (sees_trade us party) (λ t. counted (as_borne us t)) unseen ts
    ∙ sym (sum-map counted (as_borne us) ts)
  where
    alike : (t : Trade)
        → cond (eqb (side (as_borne vs t).terms) party) (amongst area day (as_borne vs t)) 0
        ≡ cond (eqb (side (as_borne us t).terms) party) (amongst area day (as_borne us t)) 0
    alike t =
        ap₂ (λ (c : Bool) (n : ℕ). cond c n 0) (same t) (amongst_borne area day vs t ∙ sym (amongst_borne area day us t))

    unseen : (t : Trade) → T (not (sees_trade us party t)) → ◌≡◌ {A = ℕ} (cond (eqb (side (as_borne us t).terms) party) (amongst area day (as_borne us t)) 0) 0
    unseen t h =
        by_test (λ (n : ℕ). n ≡ 0) (eqb (side (as_borne us t).terms) party) (λ k. absurd (T_not (sees_trade us party t) h (sees t k))) (λ k. refl)

module _ (party : ℕ) (us : List User) where
  seller_sees : (t : Trade) → T (eqb (as_borne us t).terms.seller party) → T (sees_trade us party t)
  unfolding sees_trade
  seller_sees t h =
      or_r (eqb t.terms.seller party || eqb t.terms.buyer party) _ (or_l (eqb (as_borne us t).terms.seller party) _ h)

  buyer_sees : (t : Trade) → T (eqb (as_borne us t).terms.buyer party) → T (sees_trade us party t)
  unfolding sees_trade
  buyer_sees t h =
      or_r (eqb t.terms.seller party || eqb t.terms.buyer party) _ (or_r (eqb (as_borne us t).terms.seller party) _ h)

-- ---- what enters the party's levels and flag

pub holding_seen : (party : ℕ) (b : Book) (u : User) → u.party.id ≡ party → T (ids_rise 0 b.users) → T (not (eqb 0 party)) → (area : ℕ)
    → holding (view_of party b) u area ≡ holding b u area
unfolding holding view_of trades_seen sold bought borne as_borne
holding_seen party b u e r n area =
    rw (e, sum_seen (λ v. v.physical) us party area, sum_seen (λ v. v.position) us party area, sells 0, buys 0, sells 1, buys 1)
  where
    us : List User
    us = b.users

    vs : List User
    vs = kept (sees_user party) us

    ts : List Trade
    ts = kept (sees_trade us party) b.trades

    sells : (day : ℕ) → sold (map (as_borne vs) ts) party area day ≡ sold (map (as_borne us) b.trades) party area day
    sells day =
        dealt_seen (λ r. r.seller) party us vs area day (λ t. bearer_seen party us r n t.terms.seller t.terms.area) (seller_sees party us) b.trades

    buys : (day : ℕ) → bought (map (as_borne vs) ts) party area day ≡ bought (map (as_borne us) b.trades) party area day
    buys day =
        dealt_seen (λ r. r.buyer) party us vs area day (λ t. bearer_seen party us r n t.terms.buyer t.terms.area) (buyer_sees party us) b.trades
