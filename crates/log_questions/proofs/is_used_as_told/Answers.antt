-- `is_used_as_told` joins what is asked of the unused bytes with what is asked of the cuts. Assumes nothing.
use Rattle.base.specs.Basics.{◌≡◌, arith}
use Rattle.log_format.specs.Log.{count_of_entries}
use Rattle.log_questions.proofs.Entries.{used_as_told}
use Rattle.log_questions.proofs.is_used_as_told.Goals as goal
use Rattle.log_questions.proofs.is_used_as_told.Goals.{After-get_u32-count}

-- the count that was read
count : (c : goal.After-get_u32-count) → c.get_u32-count.result ≡ count_of_entries c.args.log.now
unfolding count_of_entries
count c = c.get_u32-count.ensures

pub sum_entries-apart-requires : goal.sum_entries-apart-requires
sum_entries-apart-requires c = record { log_formed = (c.requires.log_formed.0, omega (arith, count (goal.at.sum_entries-apart-requires c).After-get_u32-count, c.requires.log_formed.0.count), omega (arith, c.trade_count-m.ensures, c.requires.log_formed.1.trades)); sums_value = c.requires.sums_value }

pub returns : goal.returns
returns c = used_as_told c.args.book.now c.args.log.now _ (count (goal.at.returns c).After-get_u32-count) c.trade_count-m.ensures c.is_held_alone-alone.ensures c.sum_entries-apart.ensures.value.0 c.is_last-last.ensures
    c.sum_entries-apart.ensures.value.1 c.are_within-within.ensures
