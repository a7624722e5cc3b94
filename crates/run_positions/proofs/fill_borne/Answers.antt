-- `fill_borne`: the positions of the records are summed over those whose risk each user bears. Assumes nothing.
use Rattle.base.specs.Basics.{refl}
use Rattle.run_positions.proofs.Borne.{positions_bearable, positions_borne}
use Rattle.run_positions.proofs.fill_borne.Goals as goal

pub fill_own-requires : goal.fill_own-requires
fill_own-requires c = (c.requires.0.held.form, c.requires.2, refl)

pub fill_bearers-requires : goal.fill_bearers-requires
fill_bearers-requires c = (c.requires.0, c.requires.1, c.requires.2, refl)

pub bear_amounts-requires : goal.bear_amounts-requires
bear_amounts-requires c = (positions_bearable c.args.book.now c.requires.0 c.fill_own.ensures.0 c.fill_bearers.ensures c.requires.2, c.requires.3)

pub returns : goal.returns
returns c = positions_borne c.args.book.now c.requires.0 c.fill_own.ensures.0 c.fill_bearers.ensures c.requires.2 c.bear_amounts.ensures
