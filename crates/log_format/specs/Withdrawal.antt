-- Document 02, ask 6: "We want the last reduction withdrawn; the call returns its MWh and worth." A book with the cuts of an entry given back. Assumes nothing.
use Rattle.std.specs.Prelude.{◌∷◌, ◌+◌}
use Rattle.base.specs.Basics.{List, [], ℕ}
use Rattle.rules.specs.Book.{Book, Trade}
use Rattle.rules.specs.Calls.{Answer, answer_of_run}
use Rattle.rules.specs.Reduction.{Tally, nothing, tally_all, with_trades}

-- a trade stands higher by a cut
unfoldable pub raise_by : ℕ → Trade → Trade
raise_by c t = record { terms = t.terms; standing = t.standing + c }

-- the trades, each with its cut given back
unfoldable pub raise_all : List ℕ → List Trade → List Trade
raise_all [] ts = ts
raise_all (c ∷ cs) [] = []
raise_all (c ∷ cs) (t ∷ ts) = raise_by c t ∷ raise_all cs ts

-- the book with the cuts of an entry given back: the seller's position falls and the buyer's rises by each
unfoldable pub withdrawn : Book → List ℕ → Book
withdrawn b cs = with_trades b (raise_all cs b.trades)

-- "the call returns its MWh and worth": each cut, and each × t
unfoldable pub withdrawn_tally : Book → List ℕ → Tally
withdrawn_tally b cs = tally_all b.header.prices cs b.trades nothing

unfoldable pub returned : Book → List ℕ → Answer
returned b cs = let tally = withdrawn_tally b cs in answer_of_run 0 tally.mwh tally.worth
