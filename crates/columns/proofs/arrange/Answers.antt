-- It lends where the records stand and where they go.
use Rattle.columns.proofs.Turns.{part-arranged}
use Rattle.columns.proofs.arrange.Goals as goal

pub returns : goal.returns
returns c =
    part-arranged c.args.back c.args.widths.now c.args.long c.args.n c.args.at c.args.s.now c.args.out.now c.requires c.arrange_all.ensures
