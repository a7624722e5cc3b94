-- The list of trades in a loop that has cut the first i of them: what is left to cut gives the whole list. Its start, a turn and its end. Assumes nothing.
use Rattle.base.specs.Basics.{◌≡◌, refl, ap, ◌∙◌, List, [], ◌∷◌, map, ℕ, zero, suc, ◌-◌, ◌<◌, ◌≤◌, min, sub-zero, not-suc-le-zero, le_of_suc-le-suc}
use Rattle.base.specs.Basics.{arith, length, get_or, set}
use Rattle.rules.specs.Book as model
use Rattle.rules.specs.Reduction.{cut_by, cut_all}
use Rattle.book_records.specs.declared.Trade.{Trade}
use Rattle.book_records.specs.Trade.{as_trade, blank_trade}

-- the record with another standing amount
abbrev pub with_standing : Trade → ℕ → Trade
with_standing t n = record { seller = t.seller; buyer = t.buyer; area = t.area; kind = t.kind; day = t.day; notified = t.notified; standing = record { 0 = n } }

-- the trade with a cut
abbrev pub lowered : ℕ → Trade → Trade
lowered c t = with_standing t (t.standing.0 - c)

-- the list after the turn at place i
abbrev pub turned : ℕ → List ℕ → List Trade → List Trade
turned i cs ts = set ts i (lowered (get_or cs i 0) (get_or ts i blank_trade))

-- the cuts past the first
abbrev rest : List ℕ → List ℕ
rest [] = []
rest (c ∷ cs) = cs

-- the list with the trades from place i on cut
pub from : ℕ → List ℕ → List Trade → List model.Trade
from zero cs ts = cut_all cs (map as_trade ts)
from (suc i) cs [] = []
from (suc i) cs (t ∷ ts) = as_trade t ∷ from i (rest cs) ts

-- a cut of 0 leaves the trade as it is
uncut : (t : Trade) → as_trade (lowered 0 t) ≡ as_trade t
uncut t = ap (λ (n : ℕ). as_trade (with_standing t n)) (sub-zero t.standing.0)

get_rest : (cs : List ℕ) (i : ℕ) → get_or cs (suc i) 0 ≡ get_or (rest cs) i 0
get_rest [] i = refl
get_rest (c ∷ cs) i = refl

-- before the loop it is what the contract says
pub from_start : (cs : List ℕ) (ts : List Trade) → from 0 cs ts ≡ cut_all cs (map as_trade ts)
unfolding from
from_start cs ts = refl

-- one turn
pub from_next : (i : ℕ) (cs : List ℕ) (ts : List Trade) → i < length ts → from (suc i) cs (turned i cs ts) ≡ from i cs ts
unfolding from cut_all cut_by as_trade
from_next i cs [] l = absurd (not-suc-le-zero l)
from_next zero [] (t ∷ ts) l = ap (λ (u : model.Trade). u ∷ map as_trade ts) (uncut t)
from_next zero (c ∷ cs) (t ∷ ts) l = refl
from_next (suc i) cs (t ∷ ts) l =
    ap (λ (us : List model.Trade). as_trade t ∷ us)
    (ap (λ (c : ℕ). from (suc i) (rest cs) (set ts i (lowered c (get_or ts i blank_trade)))) (get_rest cs i) ∙ from_next i (rest cs) ts (le_of_suc-le-suc l))

-- past the trades or the cuts nothing is left to cut
pub from_end : (i : ℕ) (cs : List ℕ) (ts : List Trade) → min (length ts) (length cs) ≤ i → from i cs ts ≡ map as_trade ts
unfolding from cut_all
from_end zero [] ts h = refl
from_end zero (c ∷ cs) [] h = refl
from_end zero (c ∷ cs) (t ∷ ts) h = absurd (omega (arith, h))
from_end (suc i) cs [] h = refl
from_end (suc i) [] (t ∷ ts) h = ap (λ (us : List model.Trade). as_trade t ∷ us) (from_end i [] ts (omega arith))
from_end (suc i) (c ∷ cs) (t ∷ ts) h = ap (λ (us : List model.Trade). as_trade t ∷ us) (from_end i cs ts (omega (arith, h)))
