-- `lower_trades`: the sales that were read, lowered and put back, are what is left of them written. Assumes nothing.
use Rattle.base.specs.Basics.{arith}
use Rattle.cut_records.proofs.Lowered.{lowered_in}
use Rattle.cut_records.proofs.lower_trades.Goals as goal

pub read_trades-sales-requires : goal.read_trades-sales-requires
read_trades-sales-requires g c = (omega (arith, c.requires.room), c.requires.places_in)

pub cut_all-lowered-requires : goal.cut_all-lowered-requires
cut_all-lowered-requires g c = omega (arith, c.requires.room)

pub write_trades-requires : goal.write_trades-requires
write_trades-requires g c = (omega (arith, c.requires.room), c.requires.places_in)

pub returns : goal.returns
returns g c = lowered_in _ _ c.read_trades-sales.ensures c.cut_all-lowered.ensures c.write_trades.ensures
