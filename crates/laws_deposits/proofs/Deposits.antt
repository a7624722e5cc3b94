-- A deposit changes nothing that the rules read but the assigned guarantee: what is borne, held and eligible stays, and so do the level and the answers to all questions but 5.
-- Assumes nothing.
use Rattle.base.specs.Basics.{◌≡◌, refl, ap, ap₂, fun_ext, subst, ◌∙◌, Bool, true, false, cond, ◌&&◌, ◌||◌, Option, none, some, some-ne-none, List, []}
use Rattle.base.specs.Basics.{◌∷◌, map, Memᴰ, Memᴰ-cases_cons, Memᴰ-not-nil, ℕ, zero, suc, ◌+◌, ◌-◌, ◌<◌, arith, T, eqb, leb, ltb, lt→ltb}
use Rattle.base.specs.Basics.{leb→le, le→leb, pos, length-map, le-ltb, ⊎_elim, T_not}
use Rattle.base.specs.Lists.{all, any}
use Rattle.base.proofs.Tests.{all_map, and-false, and-true, and_i, and_l, and_r, same_test, by_case, fails}
use Rattle.laws.proofs.{Run.next_none, Run.eligible-cuttable, Sound.accept, Sound.none_refuses, Sound.sound, Users.map_sum, Fuel.run_stops}
use Rattle.laws_deposits.specs.Deposits.{DepositsAccepted, DepositsLeast, DepositsSuffice, deposited, deposits_valid, lacking, with_deposits}
use Rattle.laws.specs.{Sound.Sound, Statements.AllCovered}
use Rattle.rules.specs.{Bearers.as_borne, Bearers.bearer, Bearers.borne, Bearers.borne_sum, Reduction.eligible, Reduction.has_eligible, Reduction.target}
use Rattle.rules.specs.Book.{Book, PerArea, Trade, User, at, defined_position, find, manager_in, nobody}
use Rattle.rules.specs.Calls.{about, call_after, cuttable, effect, itself, next_reduced, answer_of_run, onward, result_in, run, run_for, unchanged}
use Rattle.rules.specs.Changes.{with_users}
use Rattle.rules.specs.Levels.{Limits, afternoon_level, called_in, exceeds_its_margin, flagged, holding, party_to, sells, shipper, short_of_cover}
use Rattle.rules.specs.Questions.{accepted, after, counts_are_valid, groups_valid, guarantees_valid, ids_rise, known, manager_valid, managers_are_valid, manages, refusal}
use Rattle.rules.specs.Questions.{parties_valid, position_valid, positions_are_valid, trade_is_valid, user_is_valid, version_is_valid}

-- ---- what a deposit leaves

module _ (amounts : User → ℕ) where
  -- a user after its deposit
  abbrev richer : User → User
  richer u = deposited (amounts u) u

  -- the user of an id is who it was, but for a deposit
  found : (us : List User) (id : ℕ) → (n : ℕ) × (find (map richer us) id ≡ deposited n (find us id))
  unfolding find nobody deposited
  found [] id = (0, refl)
  found (u ∷ us) id = by_case (eqb u.party.id id) (λ e. rw e (amounts u, refl)) (λ e. rw e (found us id))

  -- so who bears its risk is the same
  bearer_same : (us : List User) (id area : ℕ) → bearer (find (map richer us) id) area ≡ bearer (find us id) area
  unfolding bearer deposited
  bearer_same us id area = ap (λ (v : User). bearer v area) (found us id).1

  -- trades are borne as before
  as_borne_same : (us : List User) (t : Trade) → as_borne (map richer us) t ≡ as_borne us t
  unfolding as_borne
  as_borne_same us t = let r = t.terms in rw (bearer_same us r.seller r.area, bearer_same us r.buyer r.area)

  -- and so are amounts that a deposit leaves
  sums_same : (amount : User → PerArea) → ((u : User) → amount (richer u) ≡ amount u) → (us : List User) (id area : ℕ) → borne_sum amount (map richer us) id area ≡ borne_sum amount us id area
  unfolding borne_sum bearer deposited
  sums_same amount e us id area =
      map_sum (λ v. cond (eqb (bearer v area) id) (at (amount v) area) (pos 0)) richer (λ u. ap (λ (v : PerArea). cond (eqb (bearer u area) id) (at v area) (pos 0)) (e u)) us

  module _ (b : Book) (u : User) where
    -- what the user holds
    held_same : holding (with_deposits amounts b) (richer u) ≡ holding b u
    unfolding holding with_deposits with_users borne deposited
    held_same =
        let trades : map (as_borne (map richer b.users)) b.trades ≡ map (as_borne b.users) b.trades = ap (λ (f : Trade → Trade). map f b.trades) (fun_ext (as_borne_same b.users)) in
        fun_ext (λ (area : ℕ). rw (sums_same (λ v. v.physical) (λ v. refl) b.users u.party.id area, sums_same (λ v. v.position) (λ v. refl) b.users u.party.id area, trades))

    -- its eligible trades
    eligible_same : has_eligible (with_deposits amounts b) (richer u) ≡ has_eligible b u
    unfolding has_eligible eligible sells with_deposits with_users deposited
    eligible_same =
        ap (λ (f : Trade → Bool). any f b.trades) (fun_ext (λ (t : Trade). rw (as_borne_same b.users t)))

    module _ (limits : Limits) where
      -- its level
      level_same : afternoon_level limits (with_deposits amounts b) (richer u) ≡ afternoon_level limits b u
      unfolding afternoon_level with_deposits with_users deposited
      level_same = rw held_same

      -- whether it is called in
      flagged_same : flagged limits (with_deposits amounts b) (richer u) ≡ flagged limits b u
      unfolding flagged with_deposits with_users deposited
      flagged_same = rw held_same

      called_same : called_in limits (with_deposits amounts b) (richer u) ≡ called_in limits b u
      unfolding called_in party_to with_deposits with_users deposited
      called_same =
          ap₂ (λ (x y : Bool). x || y) flagged_same
          (ap (λ (f : Trade → Bool). any f b.trades) (fun_ext (λ (t : Trade). rw (as_borne_same b.users t))))

      -- so it is short of cover where its assigned guarantee with the deposit is below that level
      short_deposited : short_of_cover limits (with_deposits amounts b) (richer u)
          ≡ ((shipper u && called_in limits b u) && (exceeds_its_margin limits (afternoon_level limits b u) u && ltb (u.party.assigned + amounts u) (afternoon_level limits b u)))
      unfolding short_of_cover shipper exceeds_its_margin deposited
      short_deposited = rw (called_same, level_same)

-- ---- the next user that is reduced, after the deposits

-- an assigned guarantee with what it lacks to a level is not below it
reaches : (level assigned : ℕ) (c : Bool) → ltb assigned level ≡ c → ltb (assigned + cond c (level - assigned) 0) level ≡ false
reaches level assigned true e = le-ltb (assigned + (level - assigned)) level (omega arith)
reaches level assigned false e = let same : assigned + 0 ≡ assigned = omega arith in ap (λ (n : ℕ). ltb n level) same ∙ e

-- by the tests of a user that is reduced: where they held, the deposit is what it lacks; where one failed, there is none
covered_by : (called over has : Bool) (level assigned : ℕ)
    → ((called && (over && ltb (assigned + cond ((called && (over && ltb assigned level)) && has) (level - assigned) 0) level)) && has) ≡ false
covered_by false over has level assigned = refl
covered_by true false has level assigned = refl
covered_by true true false level assigned = and-false (ltb (assigned + cond (ltb assigned level && false) (level - assigned) 0) level)
covered_by true true true level assigned =
    rw (and-true (ltb assigned level), and-true (ltb (assigned + cond (ltb assigned level) (level - assigned) 0) level)) (reaches level assigned (ltb assigned level) refl)

module _ (limits : Limits) where
  -- the user is one that a run reduces
  abbrev cut : Book → User → Bool
  cut b u = short_of_cover limits b u && has_eligible b u

  -- none is
  next_absent : (b : Book) (f : User → User) → ((u : User) → cut b (f u) ≡ false) → (us : List User) → next_reduced limits b (map f us) ≡ none
  unfolding next_reduced
  next_absent b f h [] = refl
  next_absent b f h (u ∷ us) = ap (λ (c : Bool). cond c (some (f u)) (next_reduced limits b (map f us))) (h u) ∙ next_absent b f h us

  -- one is
  next_there : (b : Book) (f : User → User) (u : User) → T (cut b (f u)) → (us : List User) → Memᴰ u us → next_reduced limits b (map f us) ≡ none → ⊥
  unfolding next_reduced
  next_there b f u k [] m e = Memᴰ-not-nil m
  next_there b f u k (v ∷ us) m e =
      by_case (cut b (f v)) (λ c. some-ne-none (f v) (rw c at e))
      (λ c. ⊎_elim (λ p. T_not (cut b (f v)) (fails c) (subst (λ (w : User). T (cut b (f w))) p k))
      (λ l. next_there b f u k us l (rw c at e)) (Memᴰ-cases_cons m))

  -- so a run reduces one
  run_there : (n : ℕ) (b : Book) → 0 < n → (next_reduced limits b b.users ≡ none → ⊥) → 0 < (run_for limits n b).answer.reductions
  unfolding run_for onward answer_of_run
  run_there zero b h k = absurd (omega arith)
  run_there (suc n) b h k = go (next_reduced limits b b.users) k
    where
      go : (o : Option User) → (o ≡ none → ⊥) → 0 < (onward limits b o (run_for limits n)).answer.reductions
      go none f = absurd (f refl)
      go (some u) f = omega arith

  -- ---- each deposits what it lacks

  module _ (b : Book) where
    -- no user is one that a run reduces
    none_cut : (u : User) → cut (with_deposits (lacking limits b) b) (deposited (lacking limits b u) u) ≡ false
    unfolding lacking target short_of_cover
    none_cut u =
        let level = afternoon_level limits b u in
        ap₂ (λ (x y : Bool). x && y) (short_deposited (lacking limits b) b u limits) (eligible_same (lacking limits b) b u)
        ∙ covered_by (shipper u && called_in limits b u) (exceeds_its_margin limits level u) (has_eligible b u) level u.party.assigned

  pub deposits_suffice : DepositsSuffice limits
  unfolding AllCovered with_deposits with_users
  deposits_suffice =
      record {
        covered = λ b. next_none limits (with_deposits (lacking limits b) b) (with_deposits (lacking limits b) b).users (next b);
        next = next;
        run = λ n b. run_stops limits n (with_deposits (lacking limits b) b) (next b);
      }
    where
      next : (b : Book) → next_reduced limits (with_deposits (lacking limits b) b) (with_deposits (lacking limits b) b).users ≡ none
      next b = next_absent (with_deposits (lacking limits b) b) (λ u. deposited (lacking limits b u) u) (none_cut b) b.users

  -- ---- one deposits less

  module _ (amounts : User → ℕ) (b : Book) (u : User) (s : T (short_of_cover limits b u)) (e : T (has_eligible b u)) (h : amounts u < target limits b u) where
    still_short : T (short_of_cover limits (with_deposits amounts b) (deposited (amounts u) u))
    unfolding short_of_cover target
    still_short =
        let level = afternoon_level limits b u in
        let other = shipper u && called_in limits b u in
        let over = exceeds_its_margin limits level u in
        let below = ltb u.party.assigned level in
        rw (short_deposited amounts b u limits)
        (and_i other (over && ltb (u.party.assigned + amounts u) level) (and_l other (over && below) s)
        (and_i over (ltb (u.party.assigned + amounts u) level) (and_l over below (and_r other (over && below) s)) (lt→ltb (u.party.assigned + amounts u) level (omega (arith, h)))))

    still_eligible : T (has_eligible (with_deposits amounts b) (deposited (amounts u) u))
    still_eligible = rw (eligible_same amounts b u) e

    still_next : Memᴰ u b.users → next_reduced limits (with_deposits amounts b) (with_deposits amounts b).users ≡ none → ⊥
    unfolding with_deposits with_users
    still_next m =
        next_there (with_deposits amounts b) (λ v. deposited (amounts v) v) u (and_i (short_of_cover limits (with_deposits amounts b) (deposited (amounts u) u)) (has_eligible (with_deposits amounts b) (deposited (amounts u) u)) still_short still_eligible) b.users m

    still_called : Memᴰ u b.users → 0 < (effect limits (with_deposits amounts b) run).answer.reductions
    unfolding effect with_deposits with_users has_eligible
    still_called m = run_there (cuttable b.trades) (with_deposits amounts b) (eligible-cuttable b u b.trades e) (still_next m)

  pub deposits_least : DepositsLeast limits
  deposits_least =
      record {
        short = λ amounts b u s e h. (still_short amounts b u s e h, still_eligible amounts b u s e h);
        next = λ amounts b u m s e h. still_next amounts b u s e h m;
        runs = λ n amounts b u m s e h k. run_there n (with_deposits amounts b) k (still_next amounts b u s e h m);
        called = λ amounts b u m s e h. still_called amounts b u s e h m;
      }

-- ---- the questions, after the deposits

module _ (amounts : User → ℕ) where
  known_same : (us : List User) (id : ℕ) → known (map (richer amounts) us) id ≡ known us id
  unfolding known any deposited
  known_same [] id = refl
  known_same (u ∷ us) id = ap (λ (c : Bool). eqb u.party.id id || c) (known_same us id)

  rise_same : (low : ℕ) (us : List User) → ids_rise low (map (richer amounts) us) ≡ ids_rise low us
  unfolding ids_rise deposited
  rise_same low [] = refl
  rise_same low (u ∷ us) = ap (λ (c : Bool). ltb low u.party.id && c) (rise_same u.party.id us)

  trade_same : (us : List User) (t : Trade) → trade_is_valid (map (richer amounts) us) t ≡ trade_is_valid us t
  unfolding trade_is_valid parties_valid
  trade_same us t = rw (known_same us t.terms.seller, known_same us t.terms.buyer)

  manager_same : (version : ℕ) (us : List User) (u : User) (area : ℕ) → manager_valid version (map (richer amounts) us) (richer amounts u) area ≡ manager_valid version us u area
  unfolding manager_valid manages shipper deposited
  manager_same version us u area =
      let m = manager_in u.party.managers area in
      rw (known_same us m, (found amounts us m).1)

  managers_same : (version : ℕ) (us : List User) (u : User) → managers_are_valid version (map (richer amounts) us) (richer amounts u) ≡ managers_are_valid version us u
  unfolding managers_are_valid
  managers_same version us u = rw (manager_same version us u 0, manager_same version us u 1, manager_same version us u 2)

  -- a valid user is valid after its deposit where its assigned guarantee is at most 10^12
  user_same : (u : User) → T (user_is_valid u) → user_is_valid (richer amounts u) ≡ leb (u.party.assigned + amounts u) 1000000000000
  unfolding user_is_valid guarantees_valid deposited
  user_same u h =
      let most = leb (u.party.assigned + amounts u) 1000000000000 in
      let blocked : T (leb u.blocked u.party.assigned) = search (and_l, and_r) in
      let still : T (leb u.blocked (u.party.assigned + amounts u)) = le→leb u.blocked (u.party.assigned + amounts u) (let k = leb→le u.blocked u.party.assigned blocked in omega arith) in
      same_test (user_is_valid (richer amounts u)) most (λ t. search (and_l, and_r)) (λ t. search (and_l, and_r, and_i))

  users_same : (us : List User) → T (all user_is_valid us) → all user_is_valid (map (richer amounts) us) ≡ all (λ u. leb (u.party.assigned + amounts u) 1000000000000) us
  unfolding all
  users_same [] h = refl
  users_same (u ∷ us) h = ap₂ (λ (c d : Bool). c && d) (user_same u (and_l (user_is_valid u) (all user_is_valid us) h)) (users_same us (and_r (user_is_valid u) (all user_is_valid us) h))

  sound_deposited : (b : Book) → Sound b → T (all user_is_valid (map (richer amounts) b.users)) → Sound (with_deposits amounts b)
  unfolding with_deposits with_users version_is_valid counts_are_valid groups_valid positions_are_valid position_valid defined_position deposited
  sound_deposited b s h =
      let us = b.users in
      record {
        version = s.version;
        counts = rw (length-map us (richer amounts)) s.counts;
        header = s.header;
        ids = rw (rise_same 0 us) s.ids;
        users = h;
        groups = rw (all_map (managers_are_valid b.header.version (map (richer amounts) us)) (richer amounts) us, fun_ext (managers_same b.header.version us)) s.groups;
        trades = rw (fun_ext (trade_same us)) s.trades;
        positions = rw (all_map (positions_are_valid b.trades) (richer amounts) us) s.positions;
      }

  accepted_deposited : (b : Book) → T (accepted b) → accepted (with_deposits amounts b) ≡ deposits_valid amounts b
  unfolding with_deposits with_users deposits_valid
  accepted_deposited b t =
      let after = with_deposits amounts b in
      let same = users_same b.users (sound b t).users in
      same_test (accepted after) (deposits_valid amounts b) (λ k. rw (← same) (sound after k).users) (λ k. accept after (sound_deposited b (sound b t) (rw same k)))

pub deposits_accepted : (limits : Limits) → DepositsAccepted limits
unfolding call_after about effect after unchanged result_in refusal
deposits_accepted limits =
    record {
      accepts = accepted_deposited;
      steps = λ b t k.
          let there = with_deposits (lacking limits b) b in
          ap (λ (n : ℕ). call_after itself n limits there run) (none_refuses there (sound there (rw (accepted_deposited (lacking limits b) b t) k)))
          ∙ (deposits_suffice limits).run (cuttable there.trades) b;
    }
