-- `read_trades`: one trade more is read at each turn. Assumes nothing.
use Rattle.base.specs.Basics.{get_or, length-replicate}
use Rattle.base.proofs.Rewriting.{rewritten_start}
use Rattle.book_format.specs.Book.{trades_of}
use Rattle.book_format.specs.Places.{TradeIn}
use Rattle.cut_records.proofs.Places.{place_of}
use Rattle.cut_records.proofs.Read.{read_turn, read_end}
use Rattle.cut_records.proofs.read_trades.Goals as goal
use Rattle.cut_records.proofs.read_trades.Goals.{In-loop-k}

-- the place that is read holds a trade
here : (g : _) (l : goal.In-loop-k g)
    → let a = l.args in TradeIn a.book.now a.at (get_or a.origins.now l.loop-k.k 0)
here g l = place_of l.requires l.loop-k.k l.loop-k-test.true

pub loop-k-preserved : goal.loop-k-preserved
loop-k-preserved g c = let a = c.args in
    read_turn (trades_of a.book.now) a.origins.now c.loop-k.invariant c.trade_at.result c.loop-k-test.true c.requires.few c.trade_at.ensures

pub returns : goal.returns
returns g c = let a = c.args in
    read_end (trades_of a.book.now) a.origins.now c.loop-k.invariant c.loop-k-test.false

pub loop-k-init : goal.loop-k-init
loop-k-init g c = rewritten_start (length-replicate _ _)

pub trade_at-requires : goal.trade_at-requires
trade_at-requires g c = here g (goal.at.trade_at-requires g c).In-loop-k
