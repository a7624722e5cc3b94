-- `line_at`: the user is the one at the place, and its level and state are the rules'. Assumes nothing.
use mathlib.Core.Path.{◌∙◌}
use lib.ListN.{get_or}
use Rattle.book_format.specs.Book.{book_of, users_of}
use Rattle.rules.specs.Book.{nobody}
use Rattle.units.specs.Limits.{as_limits}
use Rattle.day_lines.specs.Lines.{as_line}
use Rattle.day_lines.proofs.Places.{line_day, line_in_lem, line_level, line_of, line_state, line_user}
use Rattle.day_lines.proofs.line_at.Goals as goal

pub user_at-user-requires : goal.user_at-user-requires
user_at-user-requires c = line_user c.requires

pub level_at-level-requires : goal.level_at-level-requires
level_at-level-requires c = let p = c.requires in (line_day p, line_user p, p.risk.sums_are.low)

pub called_at-called-requires : goal.called_at-called-requires
called_at-called-requires c = let p = c.requires in (line_day p, line_user p)

pub state_of-state-requires : goal.state_of-state-requires
state_of-state-requires c = let p = c.requires in (line_day p, line_user p)

pub returns : goal.returns
unfolding as_line
returns c = let a = c.args in
    let l = as_limits a.day.limits in
    let k = c.user_at-user in
    let level = c.level_at-level.ensures in
    line_of l (book_of a.book.now) k.result (get_or (users_of a.book.now) a.place nobody) k.ensures
    (line_state c.requires level c.called_at-called.ensures c.state_of-state.ensures) (line_level c.requires level) c.printed_level-printed.ensures
    ∙ line_in_lem l a.book.now a.place
