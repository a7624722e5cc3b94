-- `call_at` ends as the questions 11 and 12 leave it. Assumes nothing.
use Rattle.base.specs.Basics.{List, ℕ, ap, ◌∙◌}
use Rattle.units.specs.Limits.{as_limits}
use Rattle.risk_members.proofs.Holdings.{positions_held}
use Rattle.call_guarantee.proofs.Ways.{called_with}
use Rattle.rules.specs.Calls.{Result}
use Rattle.call_guarantee.proofs.call_at.Goals as goal

pub level_of-level-requires : goal.level_of-level-requires
level_of-level-requires c = record { opened_figures = (c.requires.opened_figures.0, c.requires.opened_figures.2); user_value = c.requires.user_value }

pub is_due-due-requires : goal.is_due-due-requires
is_due-due-requires c = record { opened_figures = c.requires.opened_figures; user_value = (c.requires.user_value.0, rw c.positions.ensures (positions_held c.args.book.now c.requires.opened_figures.0.accepted c.requires.opened_figures.2 c.args.holdings c.requires.user_value.1)) }

pub raise-requires : goal.raise-requires
raise-requires c = record { form = c.requires.opened_figures.0.accepted.held.form; inside = c.requires.opened_figures.2 }

pub returns : goal.returns
returns c = let a = c.args in
    let x = called_with (as_limits a.limits) a.book.now a.place a.afternoon a.user c.requires.user_value.0 c.level_of-level.ensures c.is_due-due.ensures in
    record { result_value = c.raise.ensures.result_value ∙ ap (λ (y : Result (List ℕ)). y.answer) x; book_after = c.raise.ensures.book_after ∙ ap (λ (y : Result (List ℕ)). y.book) x }
