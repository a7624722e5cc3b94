-- One reduction of a run on arrays: together its steps are the rules' reduction. Assumes nothing.
use Rattle.base.specs.Basics.{◌≡◌, sym, ap, ap₂, subst, ◌∙◌, Bool, true, cond, List, map, ℕ, suc, ◌+◌, ◌≤◌, ◌<◌, arith, ltb, length, get_or, set}
use Rattle.base.specs.Basics.{get_or-set_other, sets}
use Rattle.cut_worth.specs.Tallies.{as_tally}
use Rattle.cut_worth.specs.declared.Tally.{Tally}
use Rattle.book_format.proofs.Passed.{length-users_of}
use Rattle.book_format.specs.Book.{book_of, count_of_users, users_of}
use Rattle.rules.specs.Areas.{Prices}
use Rattle.rules.specs.Book.{Book, Trade, User, nobody}
use Rattle.rules.specs.Calls.{answer_of_cuts, reduced}
use Rattle.rules.specs.Levels.{Limits}
use Rattle.base.specs.Lists.{any}
use Rattle.rules.specs.Reduction.{nothing, tally_all, target}
use Rattle.run_state.proofs.Stays.{stays, users_many}
use Rattle.run_state.proofs.Turned.{owed-due, turn_going}
use Rattle.run_state.specs.Asked.{LookedAgain, moved_all}
use Rattle.risk_user.specs.UserAt.{flagged_at, target_of_place}
use Rattle.run_state.specs.Going.{Going}
use Rattle.run_targets.proofs.First.{owed_cut}
use Rattle.run_targets.specs.Asking.{BuyersIn, owed_if}
use Rattle.run_reduction.proofs.Steps.{buyer_inside, cuts_before, cuts_behind, cuts_own, cuts_part, cuts_room, end_is, left_only, left_part, left_room, member_in, members_few, own_codes, part_few, prices_same, start_is}
use Rattle.run_reduction.specs.Reductions.{Reached, RunOf, short_in}
use Rattle.cut_tiers.specs.Tiers.{cuts_of}
use Rattle.run_turns.specs.Turns.{CutIn, Turned}
use Rattle.laws_sales.proofs.Reduced.{sales_reduced}
use Rattle.laws_sales.specs.Borne.{borne_book, borne_result, borne_user}
use Rattle.laws_sales.specs.Cover.{due}
use Rattle.laws_sales.specs.Groups.{starts}
use Rattle.laws_sales.specs.Parts.{part}
use Rattle.laws_sales.specs.Reduced.{own_cuts, own_sales}
use Rattle.laws_sales.specs.Sales.{less}

-- what a run has come to
pub reached_now : {limits : Limits} {o b : Book} {ns ps ts : List ℕ} {es : List Bool} → Going limits o b ns ps ts es → Reached o b ns ps
reached_now h =
    record {
      sound = h.sound;
      lowered = h.lowered;
      borne = h.borne;
      same = h.same;
      standing = h.standing;
      positions = h.positions;
      standing_room = h.rooms.standing;
      positions_room = h.rooms.positions;
    }

module _ {limits : Limits} {f : Prices} {s sums ss area_codes bs : List ℕ} (q : RunOf limits f s sums ss area_codes bs) {place : ℕ} (inside : place < count_of_users s)
    {b : Book} {ns ps ts : List ℕ} {es : List Bool} (h : Going limits (book_of s) b ns ps ts es) where
  abbrev now : Reached (book_of s) b ns ps
  now = reached_now h

  -- the buyers of the sales are users
  pub buyers_in : BuyersIn s bs (get_or ss place 0) (get_or ss (place + 1) 0)
  unfolding book_of
  buyers_in =
      record {
        form = q.risk.opened.accepted.held.form;
        few = part_few q inside;
        room = q.sales.buyers_room;
        inside = λ k l m. omega (arith, buyer_inside q inside now k l m, users_many (stays (book_of s) b q.risk.opened.accepted.sound h.lowered h.same), length-users_of s);
      }

  module _ (owes : 0 < get_or ts place 0) where
    abbrev from : ℕ
    from = get_or ss place 0

    abbrev to : ℕ
    to = get_or ss (place + 1) 0

    abbrev user : User
    user = get_or b.users place nobody

    -- the book and the user as the risk is borne
    abbrev bb : Book
    bb = borne_book b

    abbrev ub : User
    ub = borne_user b.users (get_or b.users place nobody)

    abbrev asked : ℕ
    asked = target limits b (get_or b.users place nobody)

    is_due : due limits b user ≡ true
    is_due = (owed-due limits b user (h.owed.target_at place (member_in q inside now)) owes).0

    -- the cuts for what is asked
    cuts_asked : cuts_of f (short_in ps place) (get_or ts place 0) (part from to ns) (part from to area_codes) ≡ own_cuts bb ub asked
    cuts_asked = cuts_own q inside now (get_or ts place 0) ∙ ap (own_cuts bb ub) (owed-due limits b user (h.owed.target_at place (member_in q inside now)) owes).1

    module _ (cs cs₀ : List ℕ)
        (filled : cs ≡ sets cs₀ (get_or ss place 0) (cuts_of f (short_in ps place) (get_or ts place 0) (part (get_or ss place 0) (get_or ss (place + 1) 0) ns) (part (get_or ss place 0) (get_or ss (place + 1) 0) area_codes)))
        (room : length cs₀ ≡ 256) where
      -- what the user's own sales lose
      pub turn_room : length cs ≡ 256
      turn_room = cuts_room q inside now asked cs cs₀ _ filled room cuts_asked

      turn_cuts : part from to cs ≡ own_cuts bb ub asked
      turn_cuts = cuts_part q inside now asked cs cs₀ _ filled room cuts_asked

      pub cut_in : ((k : ℕ) → get_or cs₀ k 0 ≡ 0) → CutIn (get_or ss place 0) (get_or ss (place + 1) 0) cs
      cut_in none =
          record {
            room = turn_room;
            before = λ k l. cuts_before q inside now asked cs cs₀ _ filled room cuts_asked k l ∙ none k;
            behind = λ k l. cuts_behind q inside now asked cs cs₀ _ filled room cuts_asked k l ∙ none k;
          }

      -- the tally is what the rules report
      turn_answer : (tally : Tally)
          → ((xs : List Trade) → map (λ t. t.terms.area) xs ≡ part from to area_codes → as_tally tally ≡ tally_all f (part from to cs) xs nothing)
          → (reduced limits b user).answer ≡ answer_of_cuts asked (as_tally tally)
      unfolding reduced borne_result borne_book
      turn_answer tally e =
          let sales = own_sales bb ub in
          (sales_reduced b user asked h.sound).answer
          ∙ ap (answer_of_cuts asked)
          (sym (e sales (sym (own_codes q inside now))
          ∙ ap₂ (λ (g : Prices) (xs : List ℕ). tally_all g xs sales nothing) (prices_same q inside now) turn_cuts))

      module _ (ms : List ℕ) (taken : ms ≡ sets ns (get_or ss place 0) (less (part (get_or ss place 0) (get_or ss (place + 1) 0) cs) (part (get_or ss place 0) (get_or ss (place + 1) 0) ns)))
          (qs : List ℕ) (moved : qs ≡ moved_all place (part (get_or ss place 0) (get_or ss (place + 1) 0) bs) (part (get_or ss place 0) (get_or ss (place + 1) 0) area_codes) (part (get_or ss place 0) (get_or ss (place + 1) 0) cs) ps)
          (mid : List ℕ) (least : ℕ)
          (look : LookedAgain (target_of_place limits f (users_of s) sums qs) es (part (get_or ss place 0) (get_or ss (place + 1) 0) bs) (part (get_or ss place 0) (get_or ss (place + 1) 0) cs) ts mid least)
          (left : Bool) (is-left : left ≡ any (λ n. ltb 0 n) (part (get_or ss place 0) (get_or ss (place + 1) 0) ms)) where
        -- the arrays are those of the rules' book
        after : Going limits (book_of s) (reduced limits b user).book ms qs (set mid place (cond left (target_of_place limits f (users_of s) sums qs place) 0)) (set es place left)
        unfolding book_of
        after =
            let own = turn_cuts in
            let sf = start_is q inside in
            let se = end_is q inside in
            let lp = left_part q inside now cs ms taken in
            let lo = left_only q inside now cs ms taken in
            subst (λ (g : Prices). Going limits (book_of s) (reduced limits b user).book ms qs (set mid place (cond left (target_of_place limits g (users_of s) sums qs place) 0)) (set es place left)) (sym q.risk.prices_are)
            (turn_going q.risk.opened.accepted.sound h place (member_in q inside now) (left_room q inside now cs ms taken) (members_few q inside now) (rw (sf, se) at own)
            (rw (sf, se) at lp) (rw (sf, se) at lo) is_due q.risk.sums_are.twelve q.sales (rw (sf, se) at moved)
            (subst (λ (g : Prices). LookedAgain (target_of_place limits g (users_of s) sums qs) es (part (starts (borne_book (book_of s)) place) (starts (borne_book (book_of s)) (suc place)) bs) (part (starts (borne_book (book_of s)) place) (starts (borne_book (book_of s)) (suc place)) cs)
            ts mid least)
            q.risk.prices_are (rw (sf, se) at look))
            (rw (sf, se) at is-left))

        pub turned : (tally : Tally)
            → ((xs : List Trade) → map (λ t. t.terms.area) xs ≡ part (get_or ss place 0) (get_or ss (place + 1) 0) area_codes → as_tally tally ≡ tally_all f (part (get_or ss place 0) (get_or ss (place + 1) 0) cs) xs nothing)
            → least ≤ place → {x : ℕ} → x ≡ owed_if (flagged_at limits f (users_of s) qs place) left true (target_of_place limits f (users_of s) sums qs place)
            → Turned limits (book_of s) b place ts ms qs (set mid place x) (set es place left) (part (get_or ss place 0) (get_or ss (place + 1) 0) cs) tally least
        turned tally te most {x} e =
            let same : cond left (target_of_place limits f (users_of s) sums qs place) 0 ≡ x
            = sym (e ∙ owed_cut (flagged_at limits f (users_of s) qs place) left (target_of_place limits f (users_of s) sums qs place)) in
            record {
              going = subst (λ (n : ℕ). Going limits (book_of s) (reduced limits b user).book ms qs (set mid place n) (set es place left)) same after;
              answer = turn_answer tally te;
              cuts = turn_cuts;
              least_most = most;
              before = λ j l. get_or-set_other mid place j x 0 (λ z. absurd (omega (arith, z))) ∙ look.before j l;
            }
