-- `give_back_at`: the parties move, and the trade is written over. Assumes nothing.
use Rattle.base.specs.Basics.{◌≡◌, ap, ◌∙◌, arith, get_or}
use Rattle.book_format.specs.Book.{trades_of}
use Rattle.book_records.specs.Trade.{as_trade}
use Rattle.log_format.specs.Withdrawal.{raise_by}
use Rattle.rules.specs.Book.{Trade, no_trade}
use Rattle.log_withdrawal.proofs.Back.{back_done, back_parties, trade_back}
use Rattle.log_withdrawal.proofs.give_back_at.Goals as goal
use Rattle.log_withdrawal.proofs.give_back_at.Goals.{After-index-area}

-- the area that was read
area-is : (c : goal.After-index-area) → c.index-area.result ≡ (get_or (trades_of c.args.book.now) c.args.place no_trade).terms.area
unfolding as_trade
area-is c = c.index-area.ensures.0 ∙ ap (λ (t : Trade). t.terms.area) c.trade_at-t.ensures

pub raised-requires : goal.raised-requires
raised-requires c = record { t_bound = omega (arith, c.requires.stands, ap (λ (t : Trade). t.standing) c.trade_at-t.ensures); cut_bound = c.requires.parties.energy_most }

pub put_trade-requires : goal.put_trade-requires
put_trade-requires c = record { held_as = (trade_back c.requires (area-is (goal.at.put_trade-requires c).After-index-area) c.return_parties.ensures).0; trade_in = (trade_back c.requires (area-is (goal.at.put_trade-requires c).After-index-area) c.return_parties.ensures).1 }

pub returns : goal.returns
returns c = back_done c.requires (area-is (goal.at.returns c).After-index-area) c.return_parties.ensures
    (c.raised.ensures ∙ ap (raise_by c.args.cut) c.trade_at-t.ensures)
    c.put_trade.ensures

pub return_parties-requires : goal.return_parties-requires
return_parties-requires c = back_parties c.requires (area-is (goal.at.return_parties-requires c).After-index-area)
