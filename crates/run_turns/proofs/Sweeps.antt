-- A reduction by cuts that lie between two places of the user's sales: each step can be taken, and together they are the rules' reduction; what is kept is that of the sales after it.
-- Assumes nothing.
use Rattle.base.specs.Basics.{◌≡◌, sym, ap, subst, ◌∙◌, Bool, true, List, map, ℕ, ◌+◌, ◌-◌, ◌≤◌, ◌<◌, arith, ltb, length, get_or, set, sets}
use Rattle.base.specs.Lists.{any}
use Rattle.book_format.specs.Book.{book_of, count_of_users, users_of}
use Rattle.cut_peaks.proofs.After.{kept_after, lost-le}
use Rattle.cut_peaks.specs.Keeping.{Fits, KeptFor, end_of, first_of, swept_to}
use Rattle.cut_peaks.specs.declared.Choice.{Choice}
use Rattle.cut_peaks.specs.declared.Choice.TheVariants.{Filled}
use Rattle.cut_peaks.specs.declared.Kept.{Kept}
use Rattle.std.specs.Prelude.{Option, Some, MatchOption}
use Rattle.cut_peaks.specs.declared.Sweep.{Sweep}
use Rattle.cut_tiers.proofs.After.{filled_takeable}
use Rattle.cut_tiers.specs.Tiers.{NoCuts, Takeable, cuts_of, short_by}
use Rattle.cut_worth.specs.Rates.{Sales}
use Rattle.cut_worth.specs.Tallies.{as_tally}
use Rattle.cut_worth.specs.declared.Tally.{Tally}
use Rattle.laws_sales.specs.Parts.{part}
use Rattle.laws_sales.specs.Sales.{less}
use Rattle.risk_user.specs.UserAt.{flagged_at, target_of_place}
use Rattle.rules.specs.Areas.{Prices}
use Rattle.rules.specs.Book.{Book, Trade}
use Rattle.rules.specs.Levels.{Limits}
use Rattle.rules.specs.Reduction.{nothing, tally_all}
use Rattle.run_positions.specs.Moving.{Movable}
use Rattle.run_reduction.proofs.Filled.{filled_movable, filled_short}
use Rattle.run_reduction.proofs.Steps.{left_only, left_part, left_room, part_few, part_rises, reducible, sales_in}
use Rattle.run_reduction.specs.Reductions.{Reached, RunOf, short_in}
use Rattle.run_state.specs.Asked.{LookedAgain, moved_all}
use Rattle.run_state.specs.Going.{Going}
use Rattle.run_targets.specs.Asking.{BuyersIn, owed_if}
use Rattle.run_turns.proofs.Narrow.{Narrow, narrow_left, narrow_looked, narrow_moved, narrow_sales, narrow_tally}
use Rattle.run_turns.proofs.Others.{others_stand}
use Rattle.run_turns.proofs.Turning.{buyers_in, reached_now, turned}
use Rattle.run_turns.specs.Turns.{CutIn, Keeps, OthersStand, Sweepable, Turned}

-- the cuts lie between the two places
pub sweep_cuts : {f : Prices} {asked : ℕ} {ns areas ps : List ℕ} {place from to : ℕ} {cs : List ℕ} {c : Choice} → Sweepable f asked ns areas ps place from to cs c → CutIn (first_of c) (end_of c) cs
sweep_cuts w = record { room = w.chosen.room; before = w.chosen.before; behind = w.chosen.behind }

-- the room of the cuts
pub sweep_end : {limits : Limits} {f : Prices} {s sums ss area_codes bs : List ℕ} → RunOf limits f s sums ss area_codes bs → {place : ℕ} → place < count_of_users s
    → {asked : ℕ} {ns ps cs : List ℕ} {c : Choice} → Sweepable f asked ns area_codes ps place (get_or ss place 0) (get_or ss (place + 1) 0) cs c → end_of c ≤ 256
sweep_end q inside w = omega (arith, w.chosen.ends, part_few q inside)

module _ {limits : Limits} {f : Prices} {s sums ss area_codes bs : List ℕ} (q : RunOf limits f s sums ss area_codes bs) {place : ℕ} (inside : place < count_of_users s)
    {b : Book} {ns ps ts : List ℕ} {es : List Bool} (h : Going limits (book_of s) b ns ps ts es) {cs : List ℕ} {k : Kept} {cut : Sweep}
    (w : Sweepable f (get_or ts place 0) ns area_codes ps place (get_or ss place 0) (get_or ss (place + 1) 0) cs (Filled k cut)) where
  abbrev now : Reached (book_of s) b ns ps
  now = reached_now h

  abbrev from : ℕ
  from = get_or ss place 0

  abbrev to : ℕ
  to = get_or ss (place + 1) 0

  abbrev first : ℕ
  first = k.place

  ended : cut.end ≤ 256
  ended = sweep_end q inside w

  narrow : Narrow from first cut.end to cs
  narrow =
      record {
        starts = w.chosen.starts;
        rises = w.chosen.rises;
        ends = w.chosen.ends;
        few = part_few q inside;
        room = w.chosen.room;
        before = w.chosen.before;
        behind = w.chosen.behind;
      }

  sales : Sales ns area_codes from to
  sales = sales_in q inside now

  pub sweep_buyers : BuyersIn s bs k.place cut.end
  sweep_buyers =
      let all = buyers_in q inside h in
      record {
        form = all.form;
        few = ended;
        room = all.room;
        inside = λ k l m. all.inside k (omega (arith, w.chosen.starts)) (omega (arith, w.chosen.ends));
      }

  abbrev fits : Fits f w.short (get_or ts place 0) ns area_codes from to w.none cs k cut.end cut.lost
  fits = w.chosen.fitting

  none_in : NoCuts w.none from to
  none_in = record { rising = part_rises q inside; long = w.none_cut.room; none = λ i l m. w.none_cut.none i }

  takeable : Takeable ns cs from to
  takeable = filled_takeable ns area_codes w.none from to sales f (short_by w.short) (get_or ts place 0) none_in fits.filled

  -- the cuts can be settled
  pub sweep_settles : Sales ns area_codes k.place cut.end × Takeable ns cs k.place cut.end × Movable place k.place cut.end area_codes bs cs ps
  sweep_settles =
      let move = filled_movable sales (reducible q inside now) takeable in
      let low : (k : ℕ) → first ≤ k → from ≤ k = λ k l. omega (arith, w.chosen.starts) in
      let high : (k : ℕ) → k < cut.end → k < to = λ k l. omega (arith, w.chosen.ends) in (
        record {
          inside = ended;
          standing_long = sales.standing_long;
          areas_long = sales.areas_long;
          standing_most = λ k l m. sales.standing_most k (low k l) (high k m);
          area_most = λ k l m. sales.area_most k (low k l) (high k m);
        },
        record { rising = w.chosen.rises; long = takeable.long; within = λ k l m. takeable.within k (low k l) (high k m) },
        record {
          rising = w.chosen.rises;
          few = ended;
          areas_room = move.areas_room;
          buyers_room = move.buyers_room;
          cuts_room = move.cuts_room;
          room = move.room;
          place_in = move.place_in;
          area_in = λ k l m. move.area_in k (low k l) (high k m);
          buyer_in = λ k l m. move.buyer_in k (low k l) (high k m);
          most = λ k l m. move.most k (low k l) (high k m);
          low = λ k l m. move.low k (low k l) (high k m);
          high = λ k l m. move.high k (low k l) (high k m);
        },
      )

  -- the tier is worth what it loses
  pub sweep_lost : cut.lost ≤ k.worth
  sweep_lost = lost-le sales takeable fits

  filled : cs ≡ sets w.none from (cuts_of f (short_in ps place) (get_or ts place 0) (part from to ns) (part from to area_codes))
  filled = fits.filled ∙ ap (sets w.none from) (filled_short sales (reducible q inside now) f (get_or ts place 0) w.short_in_lem)

  module _ (ms : List ℕ) (taken : ms ≡ sets ns k.place (less (part k.place cut.end cs) (part k.place cut.end ns))) where
    all_taken : ms ≡ sets ns from (less (part from to cs) (part from to ns))
    all_taken = taken ∙ narrow_left narrow ns h.rooms.standing

    pub sweep_room : length ms ≡ 256
    sweep_room = left_room q inside now cs ms all_taken

    -- the sales of the others
    pub sweep_others : OthersStand (count_of_users s) ss place ns ms
    sweep_others = others_stand q inside (left_only q inside now cs ms all_taken)

    -- what is kept
    pub sweep_keeps : Keeps f ss ms area_codes place (Some (swept_to k cut.end cut.lost))
    sweep_keeps =
        record {
          kept = λ x e.
              subst (λ (o : Option Kept). MatchOption o (Unit {0}) (λ y. KeptFor f y ms area_codes from to)) e
              (kept_after sales takeable fits ms (left_part q inside now cs ms all_taken) w.chosen.rises w.chosen.ends (w.chosen.behind cut.end (omega arith)));
        }

    -- the rules' reduction
    pub sweep_turned : 0 < get_or ts place 0 → (qs : List ℕ)
        → qs ≡ moved_all place (part k.place cut.end bs) (part k.place cut.end area_codes) (part k.place cut.end cs) ps
        → (mid : List ℕ) (least : ℕ) → LookedAgain (target_of_place limits f (users_of s) sums qs) es (part k.place cut.end bs) (part k.place cut.end cs) ts mid least
        → (left : Bool) → left ≡ any (λ n. ltb 0 n) (part (get_or ss place 0) (get_or ss (place + 1) 0) ms) → (tally : Tally)
        → ((xs : List Trade) → map (λ t. t.terms.area) xs ≡ part k.place cut.end area_codes → as_tally tally ≡ tally_all f (part k.place cut.end cs) xs nothing)
        → least ≤ place → {x : ℕ} → x ≡ owed_if (flagged_at limits f (users_of s) qs place) left true (target_of_place limits f (users_of s) sums qs place)
        → Turned limits (book_of s) b place ts ms qs (set mid place x) (set es place left) (part (get_or ss place 0) (get_or ss (place + 1) 0) cs) tally least
    sweep_turned owes qs moved mid least look left is-left tally counted most e =
        turned q inside h owes cs w.none filled w.none_cut.room ms all_taken qs
        (moved ∙ sym (narrow_moved narrow place bs area_codes q.sales.buyers_room q.sales.areas_room ps)) mid least (narrow_looked narrow bs q.sales.buyers_room look) left is-left tally
        (λ xs own.
        counted (part (first - from) (cut.end - from) xs) (narrow_sales narrow f area_codes q.sales.areas_room xs own)
        ∙ sym (narrow_tally narrow f area_codes q.sales.areas_room xs own nothing))
        most e
