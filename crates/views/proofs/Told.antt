-- Over two books in which ids rise and that agree on what a party may see: they agree on its record, on whether it is in the book, on its levels and its flag. Assumes nothing.
use Rattle.base.specs.Basics.{◌≡◌, ◌∙◌, ap, ap₂, refl, subst, sym, Bool, false, not, ◌||◌, List, [], ◌∷◌, ℕ, ◌<◌, arith, T, eqb, eqb→eq, ltb, ltb→lt, not_T}
use Rattle.base.specs.Basics.{eqb-true, T_not}
use Rattle.base.specs.Lists.{any}
use Rattle.laws.proofs.Users.{known-id}
use Rattle.base.proofs.Tests.{and_l, and_r, by_case, eqb_of, or_l, by_test, holds, fails}
use Rattle.rules.specs.{Book.Book, Book.Header, Book.User, Book.find, Book.nobody, Questions.ids_rise, Questions.known}
use Rattle.rules.specs.Levels.{Holding, Limits, afternoon_level, afternoon_sum, flagged, flagged_from, floored, holding, morning_level, morning_sum}
use Rattle.views.proofs.{Kept.find-kept, Seen.holding_seen}
use Rattle.laws_sales.specs.Kept.{kept}
use Rattle.views.specs.Views.{sees_user, trades_seen, view_of}

-- ---- the user of an id

-- where there is none, nobody is found
find_none : (us : List User) (id : ℕ) → known us id ≡ false → find us id ≡ nobody
unfolding find known any
find_none [] id k = refl
find_none (u ∷ us) id k =
    by_case (eqb u.party.id id) (λ e. absurd (subst (λ (x : Bool). T x) (rw e at k) tt)) (λ e. rw e (find_none us id (rw e at k)))

-- ids rise from above 0, so none is 0
pub known_above : (us : List User) (low id : ℕ) → T (ids_rise low us) → T (known us id) → low < id
unfolding ids_rise known any
known_above [] low id r k = absurd k
known_above (u ∷ us) low id r k =
    let lt : low < u.party.id = ltb→lt low u.party.id (and_l (ltb low u.party.id) (ids_rise u.party.id us) r) in
    by_case (eqb u.party.id id) (λ e. omega (arith, eqb-true u.party.id id e))
    (λ e. omega (arith, known_above us u.party.id id (and_r (ltb low u.party.id) (ids_rise u.party.id us) r) (rw e at k)))

known_some : (us : List User) (id : ℕ) → T (ids_rise 0 us) → T (known us id) → T (not (eqb 0 id))
known_some us id r k = not_T (eqb 0 id) (λ t. omega (arith, known_above us 0 id r k, eqb→eq 0 id t))

-- ---- in what the party sees

-- its own record is seen
pub own_sees : (party : ℕ) (u : User) → u.party.id ≡ party → T (sees_user party u)
unfolding sees_user
own_sees party u e = or_l (eqb u.party.id party) _ (eqb_of u.party.id party e)

own_seen : (party : ℕ) (us : List User) → T (ids_rise 0 us) → find (kept (sees_user party) us) party ≡ find us party
own_seen party us r =
    let u = find us party in
    find-kept (sees_user party) us 0 party r
    ∙ by_test (λ (v : User). v ≡ u) (sees_user party u) (λ t. refl)
    (λ t. by_case (known us party) (λ e. absurd (T_not (sees_user party u) t (own_sees party u (known-id us party (holds e)))))
    (λ e. sym (find_none us party e)))

known_seen : (party : ℕ) (us : List User) → known (kept (sees_user party) us) party ≡ known us party
unfolding known any kept
known_seen party [] = refl
known_seen party (u ∷ us) =
    by_case (sees_user party u) (λ s. rw s (ap (λ (c : Bool). eqb u.party.id party || c) (known_seen party us)))
    (λ s. by_case (eqb u.party.id party)
    (λ e. absurd (T_not (sees_user party u) (fails s) (own_sees party u (eqb-true u.party.id party e)))) (λ e. rw (s, e) (known_seen party us)))

-- ---- two books

module _ (party : ℕ) (b c : Book) (r : T (ids_rise 0 b.users)) (q : T (ids_rise 0 c.users)) (e : view_of party b ≡ view_of party c) where
  pub same_header : b.header ≡ c.header
  unfolding view_of
  same_header = ap (λ (v : Book). v.header) e

  pub same_trades : trades_seen b party ≡ trades_seen c party
  unfolding view_of
  same_trades = ap (λ (v : Book). v.trades) e

  pub same_user : find b.users party ≡ find c.users party
  unfolding view_of
  same_user = sym (own_seen party b.users r) ∙ ap (λ (v : Book). find v.users party) e ∙ own_seen party c.users q

  pub same_known : known b.users party ≡ known c.users party
  unfolding view_of
  same_known = sym (known_seen party b.users) ∙ ap (λ (v : Book). known v.users party) e ∙ known_seen party c.users

  module _ (k : T (known b.users party)) where
    same_holding : holding b (find b.users party) ≡ holding c (find c.users party)
    same_holding =
        let m : T (known c.users party) = subst (λ (x : Bool). T x) same_known k in
        let n = known_some b.users party r k in
        (λ i area. sym (holding_seen party b (find b.users party) (known-id b.users party k) r n area) i)
        ∙ ap₂ (λ (v : Book) (u : User). holding v u) e same_user
        ∙ (λ i area. holding_seen party c (find c.users party) (known-id c.users party m) q n area i)

    -- and so is what the rules make of a header, a user's record and what it holds
    same_of : {A : Type 0} (of : Header → User → (ℕ → Holding) → A)
        → of b.header (find b.users party) (holding b (find b.users party))
        ≡ of c.header (find c.users party) (holding c (find c.users party))
    same_of of =
        ap (λ (f : Header). of f (find b.users party) (holding b (find b.users party))) same_header
        ∙ ap₂ (λ (u : User) (h : ℕ → Holding). of c.header u h) same_user same_holding

    pub same_morning : (limits : Limits) → morning_level limits b (find b.users party) ≡ morning_level limits c (find c.users party)
    unfolding morning_level
    same_morning limits = same_of (λ f u h. floored limits (morning_sum f.prices h u.party.charges))

    pub same_afternoon : (limits : Limits) → afternoon_level limits b (find b.users party) ≡ afternoon_level limits c (find c.users party)
    unfolding afternoon_level
    same_afternoon limits = same_of (λ f u h. floored limits (afternoon_sum f.prices h u.party.charges))

    pub same_flag : (limits : Limits) → flagged limits b (find b.users party) ≡ flagged limits c (find c.users party)
    unfolding flagged
    same_flag limits = same_of (λ f u h. flagged_from limits f.prices u h)
