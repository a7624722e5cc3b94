-- A turn cuts the trade at i; where the trades or the cuts end, nothing is left to cut.
use Rattle.std.proofs.Common.{◌<◌, ◌≤◌, ◌∙◌, length, sym, add-one, arith}
use Rattle.std.proofs.lemmas.Grind.{common_steps}
use Rattle.base.specs.Basics.{min}
use Rattle.book_records.specs.Trade.{blank_trade}
use Rattle.lent_trades.proofs.Turns.{from_start, from_next, from_end}
use Rattle.lent_trades.proofs.lower_all.Goals as goal

pub loop-i-init : goal.loop-i-init
loop-i-init c = from_start c.args.cuts.now c.args.trades.now

pub loop-i-preserved : goal.loop-i-preserved
unfolding blank_trade
loop-i-preserved c =
    let within : c.loop-i.i < length c.loop-i.trades = grind (arith, common_steps) in
    rw (add-one, c.left_of.ensures) (from_next c.loop-i.i c.args.cuts.now c.loop-i.trades within ∙ c.loop-i.invariant)

pub returns : goal.returns
returns c =
    let past : min (length c.loop-i.trades) (length c.args.cuts.now) ≤ c.loop-i.i = grind (arith, common_steps) in
    record { trades = sym (from_end c.loop-i.i c.args.cuts.now c.loop-i.trades past) ∙ c.loop-i.invariant }
