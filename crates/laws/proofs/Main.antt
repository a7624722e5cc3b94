-- The main laws, each as its statement in specs/Statements.antt says it. Assumes nothing.
use Rattle.base.specs.Basics.{◌≡◌, refl, ap, none, some, max, ℕ, arith, leb→le, le→leb, ltb, ltb→lt, ◌+ℤ◌, nat_abs, suc, zero}
use Rattle.base.proofs.{Linear.abs_parts, Linear.pos_part_of, Tests.and_l, Tests.and_r}
use Rattle.base.specs.Parts.{neg_part, pos_part}
use Rattle.laws.proofs.{Bounds.position_bound, Bounds.tariffs_pos, Levels.afternoon_level_le, Levels.morning_level_le, Guarantee.guarantee_sound}
use Rattle.laws.proofs.{Credit.level_uncredited, Refusals.first_yes, Sound.accept, Sound.sound, Trades.framed, Trades.lowered_refl}
use Rattle.laws.proofs.{Cuts.cuts_bilateral, Cuts.cuts_pos, Cuts.cuts_within_lem, Cuts.tally_mwh, Cuts.tally_near, Cuts.tally_reaches, Posting.posting_sound}
use Rattle.laws.proofs.{Positions.positions_sum, Reduction.cuts_lowered, Settle.retraded_anew}
use Rattle.laws.proofs.{Run.Done, Run.has_target, Run.next_none, Run.reduced_law, Run.run_count, Run.run_done, Run.run_law, Run.run_none, Users.all-find}
use Rattle.laws.specs.{Sound.Sound, Trades.Lowered, Trades.Pairwise}
use Rattle.laws.specs.Statements.{Conserved, StaysAccepted, CutsEligible, SomethingCut, TargetMet, SettledAnew, AllCovered, RunEnds, RunCounts, Bounded}
use Rattle.laws.specs.Statements.{KeepsReading}
use Rattle.rules.specs.{Areas.selling_in, Signed.within}
use Rattle.rules.specs.{Book.Book, Book.at, Book.find, Questions.about_book, Questions.positions_are_valid, Questions.refusal, Questions.user_is_valid}
use Rattle.rules.specs.Calls.{posting, morning_call_of, afternoon_call_of, reduction, run, Call, about, assigned_falls_short, assigned_suffices, call_after, called_in_beyond_margin, itself, result_in, unchanged}
use Rattle.rules.specs.Calls.{cuttable, effect, eligible_trade, entry_in_range, guaranteed, id_known, is_shipper, margin_exceeded, answer_of_cuts, reduced}
use Rattle.rules.specs.Calls.{reduced_by, run_for, step}
use Rattle.rules.specs.{Changes.with_users, Levels.Limits, Levels.afternoon_level, Levels.morning_level, Reduction.cut_all, Reduction.cuts, Reduction.target}
use Rattle.rules.specs.Questions.{after}

pub conserved : Conserved
conserved =
    record { sums = λ b t a h. let s = sound b t in positions_sum b.users b.trades a h s.ids s.trades s.positions }

-- ---- one step

record Stepped (b n : Book) : Type 0 where
  sound : Sound n
  lowered : Pairwise Lowered b.trades n.trades

module _ (limits : Limits) where
  effect_steps : (b : Book) (c : Call) → Sound b → refusal (about limits b c) ≡ 0 → Stepped b (effect limits b c).book
  unfolding about effect id_known is_shipper entry_in_range assigned_suffices assigned_falls_short margin_exceeded called_in_beyond_margin eligible_trade guaranteed reduced with_users
  effect_steps b (posting id area amount) s h =
      let q8 = first_yes _ _ h tt in
      let q10 = first_yes _ _ q8.1 tt in
      let ok = within 1000000 (at (find b.users id).physical area +ℤ amount) in
      record {
        sound = posting_sound b id area amount s q8.0 (ltb→lt area 3 (and_l (ltb area 3) ok q10.0)) (and_r (ltb area 3) ok q10.0);
        lowered = lowered_refl b.trades;
      }
  effect_steps b (morning_call_of id) s h =
      let q8 = first_yes _ _ h tt in
      let q9 = first_yes _ _ q8.1 tt in
      let q11 = first_yes _ _ q9.1 tt in
      let q12 = first_yes _ _ q11.1 tt in
      let u = find b.users id in
      let level = morning_level limits b u in
      record { sound = guarantee_sound b id level s q8.0 (leb→le level u.party.assigned q12.0); lowered = lowered_refl b.trades }
  effect_steps b (afternoon_call_of id) s h =
      let q8 = first_yes _ _ h tt in
      let q9 = first_yes _ _ q8.1 tt in
      let q11 = first_yes _ _ q9.1 tt in
      let q12 = first_yes _ _ q11.1 tt in
      let u = find b.users id in
      let level = afternoon_level limits b u in
      record { sound = guarantee_sound b id level s q8.0 (leb→le level u.party.assigned q12.0); lowered = lowered_refl b.trades }
  effect_steps b (reduction id) s h =
      let r = reduced_law limits b (find b.users id) s in
      record { sound = r.sound; lowered = r.lowered }
  effect_steps b run s h =
      let r = run_law limits (cuttable b.trades) b s in
      record { sound = r.sound; lowered = r.lowered }

  steps : (b : Book) (c : Call) → Sound b → Stepped b (step limits b c).book
  unfolding call_after after unchanged result_in
  steps b c s = go (refusal (about_book b)) (refusal (about limits b c)) refl
    where
      go : (n m : ℕ) → refusal (about limits b c) ≡ m → Stepped b (after n (unchanged b) (after m (unchanged b) (result_in itself (effect limits b c)))).book
      go zero zero e = effect_steps b c s e
      go zero (suc m) e = record { sound = s; lowered = lowered_refl b.trades }
      go (suc n) m e = record { sound = s; lowered = lowered_refl b.trades }

  pub stays_accepted : StaysAccepted limits
  stays_accepted =
      record {
        accepts = λ b c t. accept (step limits b c).book (steps b c (sound b t)).sound;
        lowers = λ b c t. (steps b c (sound b t)).lowered;
      }

-- ---- reductions

pub cuts_eligible : CutsEligible
cuts_eligible = record { within = cuts_within_lem }

module _ (limits : Limits) where
  pub something_cut : SomethingCut limits
  unfolding reduced reduced_by answer_of_cuts
  something_cut =
      record {
        some = λ b u t h k.
            omega (arith, cuts_pos b u (target limits b u) (sound b t).header (has_target limits b u h) k, tally_mwh b u (target limits b u));
      }

  pub target_met : TargetMet limits
  unfolding reduced reduced_by answer_of_cuts
  target_met =
      record {
        reached = λ b u. tally_reaches b u (target limits b u);
        near = λ b u t.
            let f = b.header.prices in
            tally_near b u (target limits b u) (max f.p f.q) (omega (arith, tariffs_pos b (sound b t))) (omega arith) (omega arith);
      }

pub settled_anew : SettledAnew
unfolding reduced_by
settled_anew =
    record {
      same = λ b u asked t.
          retraded_anew b (cut_all (cuts b u asked) b.trades) (sound b t) (framed (cuts_lowered (cuts b u asked) b.trades (cuts_bilateral b u asked)));
    }

-- ---- runs

module _ (limits : Limits) where
  pub run_ends : RunEnds limits
  unfolding AllCovered Done
  run_ends =
      record {
        enough = λ n b t h u. next_none limits (run_for limits n b).book (run_for limits n b).book.users (run_done limits n b (sound b t) (omega (arith, h))) u;
      }

  pub run_counts : RunCounts limits
  unfolding effect
  run_counts = record { most = λ b. run_count limits (cuttable b.trades) b; none = λ b. run_none limits (cuttable b.trades) b }

  -- ---- bounds

  pub bounded : Bounded limits
  unfolding within
  bounded =
      record {
        position = λ b id a t k h.
            let s = sound b t in
            let u = find b.users id in
            let l = position_bound b s u (all-find user_is_valid b.users id s.users k) (all-find (positions_are_valid b.trades) b.users id s.positions k) a h in
            let z = at u.position a in
            le→leb (nat_abs z) 26600000 (omega (arith, abs_parts z, pos_part_of z (pos_part z) (neg_part z) refl));
        morning = λ b id t k l.
            let s = sound b t in
            let u = find b.users id in
            omega (arith, morning_level_le b s u (all-find user_is_valid b.users id s.users k) limits l);
        afternoon = λ b id t k l.
            let s = sound b t in
            let u = find b.users id in
            omega (arith, afternoon_level_le b s u (all-find user_is_valid b.users id s.users k) limits l);
      }

  -- ---- versions

  pub keeps_reading : KeepsReading limits
  unfolding selling_in
  keeps_reading = record { level = λ b u t e. level_uncredited limits b u (sound b t) (ap selling_in e) }
