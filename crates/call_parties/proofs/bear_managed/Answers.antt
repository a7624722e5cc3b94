-- `bear_managed`: the trades, counted for those who bear the risk of their parties. Assumes nothing.
use Rattle.base.specs.Basics.{refl, arith}
use Rattle.risk_bearers.proofs.Bearing.{all_borne, bearing}
use Rattle.risk_bearers.specs.Bearers.{trades_in}
use Rattle.call_parties.proofs.Borne.{managed_in, managed_sums}
use Rattle.call_parties.proofs.bear_managed.Goals as goal

pub user_count-n-requires : goal.user_count-n-requires
user_count-n-requires c = omega (arith, c.requires.book_in.0.accepted.held.form.head)

pub trade_count-m-requires : goal.trade_count-m-requires
trade_count-m-requires c = omega (arith, c.requires.book_in.0.accepted.held.form.head)

pub trades_offset-at-requires : goal.trades_offset-at-requires
trades_offset-at-requires c = (c.requires.book_in.0.accepted.held.form, c.user_count-n.ensures)

pub fill_bearers-requires : goal.fill_bearers-requires
fill_bearers-requires c = (c.requires.book_in.0.accepted, c.requires.book_in.1, c.user_count-n.ensures, refl)

pub bear_trades-requires : goal.bear_trades-requires
bear_trades-requires c = record {
  book_in = (c.requires.book_in.0, c.trades_offset-at.ensures, c.trade_count-m.ensures, bearing c.args.book.now _ c.requires.book_in.0.accepted c.fill_bearers.ensures);
  bearing_sellers_len = (c.requires.bearing_sellers_len.0, c.requires.bearing_sellers_len.1, refl);
}

pub returns : goal.returns
returns c = let a = c.requires.book_in.0.accepted in
    let p = c.bear_trades.ensures.summed_at (trades_in c.args.book.now) (all_borne c.args.book.now _ a c.fill_bearers.ensures) in
    record { borne_in = managed_in c.args.book.now a p; sums_of = record { twelve = managed_sums c.args.book.now a p; low = c.bear_trades.ensures.low } }
