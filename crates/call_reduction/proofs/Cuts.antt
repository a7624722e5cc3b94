-- The cuts of the user's own sales, taken off in the bytes, give the rules' book. Assumes nothing.
use Rattle.base.specs.Basics.{◌≡◌, refl, sym, ap, ap₂, subst, ◌∙◌, Bool, true, false, List, map, ℕ, ◌+◌, ◌<◌, arith, ltb, length, suc}
use Rattle.base.specs.Basics.{get_or, sets}
use Rattle.cut_apply.proofs.Own.{cuttable_part, cuttable_real, own_lowered, real_lowered}
use Rattle.cut_apply.specs.Cutting.{CuttablePart, lowered_at}
use Rattle.cut_lists.proofs.Own.{own_inside, own_origins}
use Rattle.cut_lists.specs.Sales.{SalesOf, SalesRoom, StandingOf}
use Rattle.cut_tiers.specs.Tiers.{cuts_of}
use Rattle.cut_worth.specs.Tallies.{as_tally}
use Rattle.cut_worth.specs.declared.Tally.{Tally}
use Rattle.book_format.specs.Book.{book_of, users_of}
use Rattle.book_format.specs.Held.{HeldAs}
use Rattle.rules.specs.Areas.{Prices}
use Rattle.rules.specs.Book.{Book, Party, Trade, User, nobody}
use Rattle.rules.specs.Calls.{Answer, answer_of_cuts, only, reduced_by, result_in}
use Rattle.rules.specs.Questions.{Question, after, refusal}
use Rattle.base.specs.Lists.{any}
use Rattle.rules.specs.Reduction.{has_eligible, nothing, tally_all, with_trades}
use Rattle.run_reduction.proofs.Start.{first_reached, run_stays}
use Rattle.run_reduction.proofs.Steps.{cut_within_lem, cuts_own, cuts_part, cuts_room, own_codes, own_standing, prices_same}
use Rattle.run_reduction.specs.Books.{Listed}
use Rattle.run_reduction.specs.Reductions.{Reached, RunOf, short_in}
use Rattle.laws_sales.proofs.Cover.{has_eligible_sales}
use Rattle.laws_sales.proofs.FirstCuts.{own_cuts_length}
use Rattle.laws.proofs.Refusals.{after_refused}
use Rattle.laws.proofs.Run.{reduced_by_law}
use Rattle.laws.proofs.Trades.{framed}
use Rattle.laws.specs.Sound.{Sound}
use Rattle.laws_sales.proofs.Own.{own_sales_lem}
use Rattle.laws_sales.proofs.Valid.{borne_ids, borne_valid_lem}
use Rattle.laws_sales.specs.Borne.{borne_book, borne_result, borne_user}
use Rattle.laws_sales.specs.Groups.{places}
use Rattle.risk_bearers.proofs.Borne.{length-users_in}
use Rattle.risk_bearers.specs.Bearers.{users_in}
use Rattle.risk_user.proofs.Borne.{party_borne}
use Rattle.laws_sales.proofs.Reduced.{sales_reduced}
use Rattle.laws_sales.specs.Parts.{part}
use Rattle.laws_sales.specs.Reduced.{own_cuts, own_sales}
use Rattle.call_reduction.specs.Books.{UserOf, all_sales}
use Rattle.call_reduction.specs.Call.{Gives, on_sales}
use Rattle.call_reduction.proofs.Ways.{gives_refused, sales_left, sales_none}

-- the lists have the own sales of all users
pub all_listed : {b : Book} {ss origins ns area_codes bs : List ℕ} {count : ℕ} → SalesOf b ss origins area_codes bs count → StandingOf b ns count → SalesRoom origins ns area_codes bs
    → Listed b ss origins ns area_codes bs (all_sales b)
all_listed {b} {ss} {origins} {ns} {area_codes} {bs} {count} q z r = subst (λ (n : ℕ). Listed b ss origins ns area_codes bs n) q.all (record { sales = q; standing = z; room = r })

module _ {f : Prices} {s : List ℕ} {place : ℕ} {sellers buyers ps : List ℕ} (p : UserOf f s place sellers buyers ps) {ss origins ns area_codes bs : List ℕ}
    (l : Listed (borne_book (book_of s)) ss origins ns area_codes bs (all_sales (borne_book (book_of s)))) where
  pub user_run : RunOf p.limits f s p.sums ss area_codes bs
  user_run = run_stays p.risk l

  pub user_reached : Reached (book_of s) (book_of s) ns ps
  user_reached = first_reached p.risk l refl l.room.standing_room p.positions p.room

  abbrev b : Book
  b = book_of s

  abbrev u : User
  u = get_or (users_of s) place nobody

  -- the book and the user as the risk is borne
  abbrev bb : Book
  bb = borne_book (book_of s)

  abbrev ub : User
  ub = borne_user (book_of s).users (get_or (book_of s).users place nobody)

  abbrev from : ℕ
  from = get_or ss place 0

  abbrev to : ℕ
  to = get_or ss (place + 1) 0

  pub inside_users : place < length (users_in s)
  inside_users = omega (arith, p.inside, length-users_in s)

  pub sound : Sound (book_of s)
  sound = p.book.accepted.sound

  module _ (last : List Question) (asked : ℕ) where
    -- an own sale stands where the user has an eligible trade
    eligible_is : {left : Bool} → left ≡ any (λ n. ltb 0 n) (part from to ns) → has_eligible (book_of s) u ≡ left
    unfolding book_of borne_user
    eligible_is e = has_eligible_sales (book_of s) u ∙ ap (any (λ n. ltb 0 n)) (sym (own_standing user_run p.inside user_reached)) ∙ sym e

    pub own_refused : {left : Bool} → left ≡ any (λ n. ltb 0 n) (part (get_or ss place 0) (get_or ss (place + 1) 0) ns) → left ≡ false → {a : Answer} → a ≡ only 14
        → Gives (on_sales last s (get_or (users_of s) place nobody) asked) a s
    own_refused e h g = gives_refused 14 (sales_none last s u asked (eligible_is e ∙ h)) g

    pub own_full : {left : Bool} → left ≡ any (λ n. ltb 0 n) (part (get_or ss place 0) (get_or ss (place + 1) 0) ns) → left ≡ true → {n : ℕ} → refusal last ≡ suc n → {a : Answer} → a ≡ only (suc n)
        → Gives (on_sales last s (get_or (users_of s) place nobody) asked) a s
    own_full e h {n} k g = gives_refused (suc n) (sales_left last s u asked (eligible_is e ∙ h) ∙ after_refused _ _ k) g

    module _ (cs cs₀ : List ℕ)
        (filled : cs ≡ sets cs₀ (get_or ss place 0) (cuts_of f (short_in ps place) asked (part (get_or ss place 0) (get_or ss (place + 1) 0) ns) (part (get_or ss place 0) (get_or ss (place + 1) 0) area_codes)))
        (room : length cs₀ ≡ 256) where
      pub lost : part (get_or ss place 0) (get_or ss (place + 1) 0) cs ≡ own_cuts (borne_book (book_of s)) (borne_user (book_of s).users (get_or (book_of s).users place nobody)) asked
      lost = cuts_part user_run p.inside user_reached asked cs cs₀ _ filled room (cuts_own user_run p.inside user_reached asked)

      -- the cuts can be taken off in the bytes
      pub own_cuttable : CuttablePart (book_of s).trades origins cs (get_or ss place 0) (get_or ss (place + 1) 0)
      own_cuttable =
          let w = own_inside l.sales place inside_users in
          cuttable_real (book_of s)
          (cuttable_part (borne_ids (book_of s) sound) (borne_valid_lem (book_of s) sound) l.sales l.standing cs from to w.0 w.1
          (omega (arith, w.1, l.sales.few, cuts_room user_run p.inside user_reached asked cs cs₀ _ filled room (cuts_own user_run p.inside user_reached asked)))
          (cut_within_lem user_run p.inside user_reached asked cs lost))

      -- which gives the rules' trades
      lowered_is : with_trades (book_of s) (lowered_at (part from to origins) (part from to cs) (book_of s).trades) ≡ (reduced_by (book_of s) u asked).book
      unfolding book_of borne_user borne_result reduced_by with_trades
      lowered_is =
          ap (with_trades (book_of s))
          (real_lowered (book_of s) (reduced_by (book_of s) u asked).book (part from to origins) (part from to cs) (framed (reduced_by_law (book_of s) u asked sound).lowered)
          (ap₂ (λ (xs ys : List ℕ). lowered_at xs ys bb.trades) (own_origins l.sales place inside_users ∙ ap (λ (q : Party). places bb.trades q.id) (party_borne (book_of s) place)) lost
          ∙ own_lowered bb.trades u.party.id (own_cuts bb ub asked) (own_cuts_length own_sales_lem bb ub asked)
          ∙ sym (sales_reduced (book_of s) u asked sound).trades))

      pub own_reduced : {left : Bool} → left ≡ any (λ n. ltb 0 n) (part (get_or ss place 0) (get_or ss (place + 1) 0) ns) → left ≡ true → refusal last ≡ 0 → {tally : Tally}
          → ((xs : List Trade) → map (λ t. t.terms.area) xs ≡ part (get_or ss place 0) (get_or ss (place + 1) 0) area_codes
          → as_tally tally ≡ tally_all f (part (get_or ss place 0) (get_or ss (place + 1) 0) cs) xs nothing)
          → {t : List ℕ} → HeldAs (with_trades (book_of s) (lowered_at (part (get_or ss place 0) (get_or ss (place + 1) 0) origins) (part (get_or ss place 0) (get_or ss (place + 1) 0) cs) (book_of s).trades)) t
          → {a : Answer} → a ≡ answer_of_cuts asked (as_tally tally) → Gives (on_sales last s (get_or (users_of s) place nobody) asked) a t
      unfolding after result_in book_of borne_result borne_book
      own_reduced e h free {tally} counted {t} held g =
          let sales = own_sales bb ub in
          let tally_is : as_tally tally ≡ tally_all (book_of s).header.prices (own_cuts bb ub asked) sales nothing
          = counted sales (sym (own_codes user_run p.inside user_reached))
          ∙ ap₂ (λ (x : Prices) (xs : List ℕ). tally_all x xs sales nothing) (prices_same user_run p.inside user_reached) lost in
          let end : HeldAs (reduced_by (book_of s) u asked).book t = subst (λ (x : Book). HeldAs x t) lowered_is held in
          rw (sales_left last s u asked (eligible_is e ∙ h), free)
          (record { answer = g ∙ ap (answer_of_cuts asked) tally_is ∙ sym (sales_reduced (book_of s) u asked sound).answer; bytes = end.bytes })
