-- What the line of one user is told from is among what those of all are. Assumes nothing.
use mathlib.Core.Bool.{Bool, false}
use mathlib.Core.List.{List}
use mathlib.Core.Path.{ap, ◌∙◌}
use Prim.Native.Nat.{ℕ, ◌<◌}
use native.Mathlib.Omega.{arith}
use lib.ListN.{get_or}
use Rattle.day_lines.specs.Lines.{LineAsked}
use Rattle.risk_bearers.proofs.Borne.{id_in_lem, length-users_in}
use Rattle.risk_bearers.specs.Bearers.{trades_in}
use Rattle.laws_sales.specs.Parties.{cut_before}
use Rattle.rules.specs.Areas.{Prices}
use Rattle.rules.specs.Levels.{Limits}
use Rattle.day_print.specs.Lines.{LinesAsked}

pub line_asked : {limits : Limits} {f : Prices} {s : List ℕ} {n : ℕ} {sums ps : List ℕ} {flags : List Bool} → LinesAsked limits f s n sums ps flags → (i : ℕ) → i < n
    → LineAsked limits f s sums ps i (get_or flags i false)
line_asked {s = s} p i h =
    record {
      risk = p.risk;
      inside = omega (arith, p.users_are);
      positions = p.positions;
      below_is = p.below.each i (omega (arith, length-users_in s, p.users_are)) ∙ ap (λ (id : ℕ). cut_before id (trades_in s)) (id_in_lem s i);
    }
