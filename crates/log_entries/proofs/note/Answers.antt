-- `note` lends the entry at the place. Assumes nothing.
use Rattle.base.specs.Basics.{arith}
use Rattle.log_entries.proofs.Entries.{noted_at}
use Rattle.log_entries.proofs.note.Goals as goal

pub returns : goal.returns
returns c = let at = c.entry_offset-at in
    noted_at c.args.log.now c.put_cuts.new.entry c.args.origins.now c.args.cuts.now c.args.place c.args.from c.args.to at.result at.ensures.0
    (omega (arith, at.ensures.1, c.requires.0, c.requires.1)) c.put_cuts.ensures
