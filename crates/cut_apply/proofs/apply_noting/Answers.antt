-- `apply_noting`: the parties move, and the noted trades are lowered. Assumes nothing.
use Rattle.cut_apply.proofs.Loop.{all_cut, noted_places}
use Rattle.cut_apply.proofs.apply_noting.Goals as goal

pub lower_sales-requires : goal.lower_sales-requires
lower_sales-requires c = let p = c.requires.cutting.0 in
    noted_places p.book p.cuttable c.move_all.ensures c.trades_offset-at.ensures

pub returns : goal.returns
returns c = let p = c.requires.cutting.0 in
    all_cut p.book p.cuttable c.move_all.ensures c.lower_sales.ensures

pub trades_offset-at-requires : goal.trades_offset-at-requires
trades_offset-at-requires c = (c.requires.cutting.0.book.accepted.held.form, c.requires.n_value)
