-- One call by the rules that no question refuses: what it does to a sound book. Assumes nothing.
use Rattle.base.specs.Basics.{◌≡◌, ◌∙◌, ap, refl, sym, ℕ, le_refl, arith, leb→le, ltb, ltb→lt, ◌+ℤ◌}
use Rattle.laws.proofs.Guarantee.{guarantee_moved, guarantee_sound}
use Rattle.laws.proofs.Main.{run_ends}
use Rattle.laws.proofs.Moved.{Moved}
use Rattle.laws.proofs.Posting.{posting_moved, posting_sound}
use Rattle.laws.proofs.Refusals.{first_yes}
use Rattle.laws.proofs.Run.{reduced_law, run_law}
use Rattle.laws.proofs.Sound.{accept}
use Rattle.laws.specs.Sound.{Sound}
use Rattle.base.proofs.Tests.{and_l, and_r}
use Rattle.laws.proofs.Trades.{lowered_refl}
use Rattle.laws.specs.Statements.{AllCovered}
use Rattle.laws.specs.Trades.{Lowered, Pairwise}
use Rattle.rules.specs.Book.{Book, at, find}
use Rattle.rules.specs.Calls.{posting, morning_call_of, afternoon_call_of, reduction, run, Call, Result, about, assigned_falls_short, assigned_suffices, called_in_beyond_margin, cuttable}
use Rattle.rules.specs.Calls.{effect, eligible_trade, entry_in_range, guaranteed, id_known, is_shipper, margin_exceeded, answer_of_cuts, of_level, only, reduced, reduced_by}
use Rattle.rules.specs.Changes.{with_users}
use Rattle.rules.specs.Levels.{Limits, afternoon_level, morning_level}
use Rattle.rules.specs.Questions.{refusal}
use Rattle.rules.specs.Signed.{within}
use Rattle.sequence.specs.Totals.{amount_in, counted}

-- 1 for a run, 0 for another call
is_run : Call → ℕ
is_run (posting id area amount) = 0
is_run (morning_call_of id) = 0
is_run (afternoon_call_of id) = 0
is_run (reduction id) = 0
is_run run = 1

module _ (limits : Limits) where
  pub record Effected (b : Book) (c : Call) (r : Result Book) : Type 0 where
    pub number : r.answer.number ≡ 0
    pub sound : Sound r.book
    pub moved : Moved b r.book (λ a. amount_in a c) (counted c r.answer.mwh) (counted c r.answer.worth)
    pub lowered : Pairwise Lowered b.trades r.book.trades
    pub covered : c ≡ run → AllCovered limits r.book

  -- a call that is no run
  other : (c : Call) → is_run c ≡ 0 → c ≡ run → ⊥
  unfolding is_run
  other c e h = let k : ◌≡◌ {A = ℕ} 0 1 = sym e ∙ ap is_run h in omega arith

  pub effect_law : (b : Book) (c : Call) → Sound b → refusal (about limits b c) ≡ 0 → Effected b c (effect limits b c)
  unfolding about effect id_known is_shipper entry_in_range assigned_suffices assigned_falls_short margin_exceeded called_in_beyond_margin eligible_trade only of_level answer_of_cuts guaranteed reduced reduced_by with_users amount_in counted is_run
  effect_law b (posting id area amount) s h =
      let q8 = first_yes _ _ h tt in
      let q10 = first_yes _ _ q8.1 tt in
      let ok = within 1000000 (at (find b.users id).physical area +ℤ amount) in
      let small = ltb→lt area 3 (and_l (ltb area 3) ok q10.0) in
      record {
        number = refl;
        sound = posting_sound b id area amount s q8.0 small (and_r (ltb area 3) ok q10.0);
        moved = posting_moved b id area amount s q8.0 small;
        lowered = lowered_refl b.trades;
        covered = λ e. absurd (other (posting id area amount) refl e);
      }
  effect_law b (morning_call_of id) s h =
      let q8 = first_yes _ _ h tt in
      let q9 = first_yes _ _ q8.1 tt in
      let q11 = first_yes _ _ q9.1 tt in
      let q12 = first_yes _ _ q11.1 tt in
      let u = find b.users id in
      let level = morning_level limits b u in
      record {
        number = refl;
        sound = guarantee_sound b id level s q8.0 (leb→le level u.party.assigned q12.0);
        moved = guarantee_moved b id level;
        lowered = lowered_refl b.trades;
        covered = λ e. absurd (other (morning_call_of id) refl e);
      }
  effect_law b (afternoon_call_of id) s h =
      let q8 = first_yes _ _ h tt in
      let q9 = first_yes _ _ q8.1 tt in
      let q11 = first_yes _ _ q9.1 tt in
      let q12 = first_yes _ _ q11.1 tt in
      let u = find b.users id in
      let level = afternoon_level limits b u in
      record {
        number = refl;
        sound = guarantee_sound b id level s q8.0 (leb→le level u.party.assigned q12.0);
        moved = guarantee_moved b id level;
        lowered = lowered_refl b.trades;
        covered = λ e. absurd (other (afternoon_call_of id) refl e);
      }
  effect_law b (reduction id) s h =
      let r = reduced_law limits b (find b.users id) s in
      record { number = refl; sound = r.sound; moved = r.moved; lowered = r.lowered; covered = λ e. absurd (other (reduction id) refl e) }
  effect_law b run s h =
      let n = cuttable b.trades in
      let r = run_law limits n b s in
      record { number = r.number; sound = r.sound; moved = r.moved; lowered = r.lowered; covered = λ e. (run_ends limits).enough n b (accept b s) (le_refl n) }
