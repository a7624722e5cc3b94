-- `daybook_raw_posting` passes its amount on: a signed number of 64 bits is the number of its own bits. Assumes nothing.
use mir.Syntax.{w64}
use mir.ValLaws.{to_z-of_z}
use Rattle.exports.specs.Answers.{is_yes}
use Rattle.exports.proofs.changes.daybook_raw_posting.Goals as goal

pub returns : goal.returns
unfolding is_yes
returns c = let posted = (rw (to_z-of_z w64 c.args.amount c.ranges.amount, c.from-party.ensures, c.lent_store-store.ensures) at c.posting.ensures) in rw c.number_of.ensures posted
