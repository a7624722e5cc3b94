-- Trades that stand anew twice, one after the other: the book is the one of the last trades. Assumes nothing.
use Rattle.base.specs.Basics.{◌≡◌, sym, ap, ◌∙◌, List, map-map, T}
use Rattle.laws.proofs.{Settle.retraded_anew, Settle.retraded_sound, Trades.pairs_trans}
use Rattle.laws.specs.{Sound.Sound, Books.anew, Books.repositioned, Trades.Framed, Trades.Pairwise}
use Rattle.rules.specs.{Book.Book, Book.Trade, Book.User, Book.defined_position, Questions.trade_is_valid, Reduction.with_trades}
use Rattle.base.specs.Lists.{all}

-- positions computed anew forget how they were computed before
anew_again : (b : Book) (ns ms : List Trade) → anew (anew b ns) ms ≡ anew b ms
unfolding anew repositioned defined_position
anew_again b ns ms = ap (λ (us : List User). record { header = b.header; users = us; trades = ms }) (map-map (repositioned ms) (repositioned ns) b.users)

pub retraded_again : (b : Book) (ns ms : List Trade) → Sound b → Pairwise Framed b.trades ns → T (all (trade_is_valid b.users) ns)
    → Pairwise Framed ns ms → with_trades (with_trades b ns) ms ≡ with_trades b ms
unfolding with_trades
retraded_again b ns ms s h k g =
    retraded_anew (with_trades b ns) ms (retraded_sound b ns s h k) g
    ∙ ap (λ (n : Book). anew n ms) (retraded_anew b ns s h)
    ∙ anew_again b ns ms
    ∙ sym (retraded_anew b ms s (pairs_trans h g))
