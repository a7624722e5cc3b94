-- `has_room` compares the count of a log that is given. Assumes nothing.
use Rattle.base.specs.Basics.{◌≡◌, ◌∙◌, ap, not}
use Rattle.log_format.specs.Log.{count_of_entries}
use Rattle.log_lent.proofs.Ways.{room_lent, room_not_lent}
use Rattle.log_lent.proofs.has_room.Goals as goal
use Rattle.log_lent.proofs.has_room.Goals.{After-get_u32}

count : (c : goal.After-get_u32) → c.get_u32.result ≡ count_of_entries c.args.log.now
unfolding count_of_entries
count c = c.get_u32.ensures

pub returns-then-not-with_log : goal.returns-then-not-with_log
returns-then-not-with_log c = ap not c.if-not-with_log.true ∙ room_not_lent c.args.log.now c.if-not-with_log.true

pub returns-else-not-with_log : goal.returns-else-not-with_log
returns-else-not-with_log c = room_lent c.args.log.now c.if-not-with_log.false (count c)
