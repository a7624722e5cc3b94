-- What a reduction leaves of the other users: their sales, and with them what is kept of each. Assumes nothing.
use Rattle.base.specs.Basics.{◌≡◌, refl, sym, subst, ◌∙◌, List, ℕ, suc, ◌+◌, ◌≤◌, ◌<◌, arith, length, get_or, set, replicate}
use Rattle.base.specs.Basics.{length-set, length-replicate, get_or-replicate}
use Rattle.base.proofs.Linear.{by_order}
use Rattle.base.proofs.Stores.{set_each}
use Rattle.book_format.proofs.Passed.{length-users_of}
use Rattle.book_format.specs.Book.{book_of, count_of_users}
use Rattle.cut_peaks.proofs.After.{kept_elsewhere}
use Rattle.cut_peaks.specs.declared.Kept.{Kept}
use Rattle.std.specs.Prelude.{Option, None}
use Rattle.std.proofs.lemmas.Option.{none-some}
use Rattle.laws_sales.proofs.Listed.{starts_rise}
use Rattle.laws_sales.proofs.Parts.{Around, part_before, part_behind}
use Rattle.laws_sales.specs.Borne.{borne_book}
use Rattle.laws_sales.specs.Parts.{part}
use Rattle.risk_user.proofs.Borne.{members_borne}
use Rattle.rules.specs.Areas.{Prices}
use Rattle.rules.specs.Levels.{Limits}
use Rattle.run_reduction.proofs.Steps.{end_is, part_rises, start_is}
use Rattle.run_reduction.specs.Reductions.{RunOf}
use Rattle.run_turns.specs.Turns.{Keeps, ManyStand, OthersStand}

-- ---- their sales

module _ {limits : Limits} {f : Prices} {s sums ss area_codes bs : List ℕ} (q : RunOf limits f s sums ss area_codes bs) where
  -- the sales of a user end before those of a later one start
  apart : {i j : ℕ} → i < count_of_users s → j < count_of_users s → i < j → get_or ss (i + 1) 0 ≤ get_or ss j 0
  unfolding book_of
  apart {i} {j} l m h = omega (arith, end_is q l, start_is q m, starts_rise (borne_book (book_of s)) (suc i) j (omega arith) (omega (arith, members_borne (book_of s), length-users_of s)))

  pub others_stand : {place : ℕ} → place < count_of_users s → {ns ms : List ℕ} → Around (get_or ss place 0) (get_or ss (place + 1) 0) ns ms → OthersStand (count_of_users s) ss place ns ms
  others_stand {place} inside only =
      record {
        each = λ i l n.
            by_order i place (λ m. part_before only (get_or ss i 0) (get_or ss (i + 1) 0) (part_rises q l) (apart l inside m))
            (λ m. part_behind only (get_or ss i 0) (get_or ss (i + 1) 0) (apart inside l (by_order place i (λ o. o) (λ o. absurd (n (omega arith))))));
      }

module _ {n : ℕ} {ss : List ℕ} where
  -- no user with many sales has been reduced
  pub many_start : (ns : List ℕ) → ManyStand n ss ns ns
  many_start ns = record { each = λ i l w. refl }

  pub many_turn : {m place : ℕ} {ns₀ ns ms : List ℕ} → n ≡ m → get_or ss (place + 1) 0 ≤ get_or ss place 0 + 8 → ManyStand n ss ns₀ ns → OthersStand m ss place ns ms → ManyStand n ss ns₀ ms
  many_turn {m} {place} all few p o =
      record {
        each = λ i l w.
            o.each i (omega arith) (λ e. let many : get_or ss place 0 + 8 < get_or ss (place + 1) 0 = subst (λ (j : ℕ). get_or ss j 0 + 8 < get_or ss (j + 1) 0) e w in omega arith)
            ∙ p.each i l w;
      }

-- ---- what is kept

-- nothing is known of a user
pub keeps_nothing : {f : Prices} {ss ns areas : List ℕ} {place : ℕ} → Keeps f ss ns areas place None
keeps_nothing = record { kept = λ k e. absurd (none-some k e) }

-- where its sales stand as they stood
keeps_elsewhere : {f : Prices} {ss areas ns : List ℕ} (ms : List ℕ) (i : ℕ) {o : Option Kept} → part (get_or ss i 0) (get_or ss (i + 1) 0) ms ≡ part (get_or ss i 0) (get_or ss (i + 1) 0) ns
    → Keeps f ss ns areas i o → Keeps f ss ms areas i o
keeps_elsewhere ms i e q = record { kept = λ k g. kept_elsewhere ms e (q.kept k g) }

-- of each user with many sales of the n, in an array
pub record KeepsAll (f : Prices) (n : ℕ) (ss ns areas : List ℕ) (ks : List (Option Kept)) : Type 0 where
  pub room : length ks ≡ 64
  pub each : (d : Option Kept) (i : ℕ) → i < n → get_or ss i 0 + 8 < get_or ss (i + 1) 0 → Keeps f ss ns areas i (get_or ks i d)

module _ {f : Prices} {n : ℕ} {ss areas : List ℕ} where
  pub keeps_start : {ns : List ℕ} → n ≤ 64 → KeepsAll f n ss ns areas (replicate 64 None)
  keeps_start {ns} few =
      record {
        room = length-replicate {A = Option Kept} 64 None;
        each = λ d i l w. subst (λ (x : Option Kept). Keeps f ss ns areas i x) (sym (get_or-replicate {A = Option Kept} 64 i None d (omega arith))) keeps_nothing;
      }

  module _ {ns : List ℕ} {ks : List (Option Kept)} (p : KeepsAll f n ss ns areas ks) where
    -- after the reduction of one of them
    pub keeps_turn : {m place : ℕ} {ms : List ℕ} {k : Option Kept} → n ≡ m → place < 64 → OthersStand m ss place ns ms → Keeps f ss ms areas place k → KeepsAll f n ss ms areas (set ks place k)
    keeps_turn {m} {place} {ms} {k} all h o q =
        record {
          room = length-set ks place k ∙ p.room;
          each = λ d.
              set_each (λ i x. i < n → get_or ss i 0 + 8 < get_or ss (i + 1) 0 → Keeps f ss ms areas i x) ks place k d (omega (arith, p.room)) (λ l w. q)
              (λ i apart l w. keeps_elsewhere ms i (o.each i (omega arith) apart) (p.each d i l w));
        }

    -- after reductions of users with few sales
    pub keeps_stand : {ms : List ℕ} → ManyStand n ss ns ms → KeepsAll f n ss ms areas ks
    keeps_stand {ms} m = record { room = p.room; each = λ d i l w. keeps_elsewhere ms i (m.each i l w) (p.each d i l w) }
