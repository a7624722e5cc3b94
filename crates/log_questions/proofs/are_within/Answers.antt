-- `are_within`: the answer so far, with that of the trades left, is the whole one. Assumes nothing.
use Rattle.base.specs.Basics.{◌≡◌, sym, ap, ap₂, ◌∙◌, Bool, ◌&&◌, ◌+◌, arith, drop, take, get_or, get_or-take, length-take-le}
use Rattle.book_format.proofs.Passed.{length-trades_of}
use Rattle.book_format.specs.Book.{trades_of}
use Rattle.log_bytes.proofs.Walks.{answering_start, answering_next, answering_end}
use Rattle.log_format.specs.Fits.{raise_within, raises_within}
use Rattle.rules.specs.Book.{no_trade}
use Rattle.log_questions.proofs.Entries.{raises_next, raises_end}
use Rattle.log_questions.proofs.are_within.Goals as goal

pub loop-k-preserved : goal.loop-k-preserved
loop-k-preserved c = let cs = take c.args.m c.args.sums.now in
    let ts = trades_of c.args.book.now in
    let k = c.loop-k.k in
    let inside = c.loop-k-test.true in
    let long = length-take-le c.args.m c.args.sums.now (omega (arith, c.requires.0.trades, c.requires.3.room)) in
    let here : c.is_within-so_far.result ≡ raise_within (get_or cs k 0) (get_or ts k no_trade)
    = c.is_within-so_far.ensures ∙ ap₂ raise_within (sym (get_or-take c.args.m c.args.sums.now k 0 inside)) c.trade_at-t.ensures in
    answering_next _ _ c.loop-k.invariant (raises_next cs ts k (omega (arith, long, inside)) (omega (arith, length-trades_of c.args.book.now, inside)) ∙ ap (λ (b : Bool). b && raises_within (drop (k + 1) cs) (drop (k + 1) ts)) (sym here))

pub returns : goal.returns
returns c = let long = length-take-le c.args.m c.args.sums.now (omega (arith, c.requires.0.trades, c.requires.3.room)) in
    answering_end c.loop-k.invariant
    (raises_end (take c.args.m c.args.sums.now) (trades_of c.args.book.now) c.loop-k.k (omega (arith, long)) (omega (arith, length-trades_of c.args.book.now)))

pub loop-k-init : goal.loop-k-init
loop-k-init c = answering_start

pub trade_at-t-requires : goal.trade_at-t-requires
trade_at-t-requires c = record { form = c.requires.0; begin = c.requires.1; inside = omega arith }

pub offset_bounds-sums-k : goal.offset_bounds-sums-k
offset_bounds-sums-k c = omega (arith, c.requires.0.trades)

pub bounds-sums-k : goal.bounds-sums-k
bounds-sums-k c = omega (arith, c.requires.0.trades)

pub is_within-so_far-requires : goal.is_within-so_far-requires
is_within-so_far-requires c = c.requires.3.each _
