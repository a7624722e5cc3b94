-- `daybook_raw_list` hands its columns and places on. Assumes nothing.
use Rattle.exports.specs.Answers.{is_yes}
use Rattle.exports.proofs.changes.daybook_raw_list.Goals as goal

pub returns : goal.returns
unfolding is_yes
returns c = let posted = (rw (c.from-party.ensures, c.lent_store-store.ensures) at c.list.ensures) in rw c.number_of.ensures posted
