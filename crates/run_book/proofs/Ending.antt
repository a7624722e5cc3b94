-- The end of a run: what its sales have lost, taken off in the opening book, gives the rules' book. Assumes nothing.
use Rattle.base.specs.Basics.{◌≡◌, sym, ap, subst, ◌∙◌, List, ℕ, zero, suc, ◌≤◌, le_refl, arith, take, get_or}
use Rattle.cut_apply.proofs.Own.{all_lowered, cuttable_part, cuttable_real, real_lowered, standing_there}
use Rattle.cut_apply.specs.Cutting.{CuttablePart, lowered_at}
use Rattle.cut_lists.proofs.Own.{sales_stay}
use Rattle.cut_lists.specs.Sales.{SalesOf, StandingOf}
use Rattle.cut_worth.specs.declared.Totals.{Totals}
use Rattle.book_format.specs.Held.{HeldAs}
use Rattle.laws.proofs.Trades.{framed}
use Rattle.laws.specs.Sound.{Sound}
use Rattle.laws.specs.Trades.{Lowered, Pairwise, ended, then}
use Rattle.rules.specs.Book.{Book, Trade, no_trade}
use Rattle.rules.specs.Calls.{Result}
use Rattle.rules.specs.Reduction.{with_trades}
use Rattle.run_state.proofs.Grouped.{standing_all}
use Rattle.run_state.proofs.Stays.{Alike, alike_borne, stays}
use Rattle.run_turns.specs.Turns.{Ran}
use Rattle.laws_sales.proofs.Valid.{borne_ids, borne_valid_lem}
use Rattle.laws_sales.specs.Borne.{borne_book}
use Rattle.laws_sales.specs.Parts.{part}
use Rattle.run_book.specs.Books.{LeftOf, LostOf, RanIn}
use Rattle.run_reduction.specs.Books.{Listed}

-- no trade stands above what it stood at
lowered_at_lem : {ts ns : List Trade} → Pairwise Lowered ts ns → (i : ℕ) (d : Trade) → (get_or ns i d).standing ≤ (get_or ts i d).standing
lowered_at_lem ended i d = le_refl d.standing
lowered_at_lem (then p ps) zero d = p.lower
lowered_at_lem (then p ps) (suc i) d = lowered_at_lem ps i d

module _ {end : Result Book} {o : Book} (sound : Sound o) {ss origins ns area_codes bs : List ℕ} {count : ℕ} (l : Listed (borne_book o) ss origins ns area_codes bs count)
    {ms : List ℕ} {r : Totals} (ran : Ran end o ms r) where
  -- the books as their risk is borne
  end_alike : Alike (borne_book o) (borne_book end.book)
  end_alike = alike_borne (stays o end.book sound ran.lowered ran.same) (framed ran.borne)

  end_standing : StandingOf (borne_book end.book) ms count
  end_standing = record { standing_are = ap (λ (n : ℕ). take n ms) l.sales.all ∙ standing_all end_alike ran.standing }

  end_sales : SalesOf (borne_book end.book) ss origins area_codes bs count
  end_sales = sales_stay (borne_book o) (borne_book end.book) end_alike.framed end_alike.parties l.sales

  -- what is left is no more than stood
  pub ran_left : LeftOf ns ms count
  ran_left =
      record {
        few = l.sales.few;
        room = ran.room;
        most = λ k h.
            omega (
              arith,
              standing_there (borne_ids o sound) (borne_valid_lem o sound) l.sales l.standing k h,
              standing_there (borne_ids end.book ran.sound) (borne_valid_lem end.book ran.sound) end_sales end_standing k h,
              lowered_at_lem ran.borne (get_or origins k 0) no_trade,
            );
      }

  module _ {cs : List ℕ} (lost : LostOf ns ms cs count) where
    -- what was lost can be taken off
    pub lost_cuttable : CuttablePart o.trades origins cs 0 count
    lost_cuttable =
        cuttable_real o
        (cuttable_part (borne_ids o sound) (borne_valid_lem o sound) l.sales l.standing cs 0 count (omega arith) (omega arith) (omega (arith, l.sales.few, lost.room)) (λ k h m. omega (arith, lost.each k m)))

    -- and gives the rules' book
    pub ran_in : {s : List ℕ} → HeldAs (with_trades o (lowered_at (part 0 count origins) (part 0 count cs) o.trades)) s → RanIn end s r
    ran_in {s} h =
        let trades : lowered_at (part 0 count origins) (part 0 count cs) o.trades ≡ end.book.trades
        = real_lowered o end.book (part 0 count origins) (part 0 count cs) (framed ran.lowered)
        (all_lowered (borne_ids o sound) (borne_valid_lem o sound) l.sales l.standing (borne_book end.book) end_alike.framed end_alike.parties end_standing cs (omega (arith, l.sales.few, lost.room)) lost.each) in
        record { held = subst (λ (x : Book). HeldAs x s) (ap (with_trades o) trades ∙ sym ran.same) h; answer = ran.answer }
