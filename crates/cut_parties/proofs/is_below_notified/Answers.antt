-- `is_below_notified`: the trade is read where one of its parties is at the place. Assumes nothing.
use Rattle.base.specs.Basics.{ap, ltb, get_or}
use Rattle.book_format.specs.Book.{trades_of}
use Rattle.book_records.specs.Trade.{as_trade}
use Rattle.rules.specs.Book.{Trade, no_trade}
use Rattle.cut_parties.proofs.Cut.{no_party, one_party}
use Rattle.cut_parties.proofs.is_below_notified.Goals as goal

pub returns-then-not-party : goal.returns-then-not-party
returns-then-not-party c = let a = c.args in
    let t = get_or (trades_of a.book.now) a.i no_trade in
    no_party a.place (ltb t.standing t.terms.notified) c.index.ensures.0 c.index-2.ensures.0 c.if-not-party.true-raw

pub returns : goal.returns
unfolding as_trade
returns c = one_party c.args.place c.index.ensures.0
    c.index-2.ensures.0 c.if-not-party.false-raw
    (ap (λ (t : Trade). ltb t.standing t.terms.notified) c.trade_at-t.ensures)
