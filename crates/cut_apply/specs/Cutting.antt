-- Trades of a book that are cut at their places. Assumes nothing.
use Rattle.std.specs.Prelude.{◌≡◌, ◌∷◌, ◌+◌, ◌≤◌, ◌<◌}
use Rattle.base.specs.Basics.{cond, List, [], map, ℕ, min, T, ltb, get_or, length, set}
use Rattle.book_format.specs.Book.{book_of, trades_of, users_of}
use Rattle.book_format.specs.Held.{HeldAs}
use Rattle.book_format.specs.Places.{TradeIn}
use Rattle.book_parties.specs.Ids.{BookIn}
use Rattle.rules.specs.Book.{Book, Trade, bilateral_for_day, no_trade}
use Rattle.rules.specs.Changes.{with_users}
use Rattle.rules.specs.Reduction.{with_trades}
use Rattle.laws_sales.specs.Groups.{written}
use Rattle.laws_sales.specs.Parts.{part}
use Rattle.laws_sales.specs.Sales.{less, settled_at}
use Rattle.cut_apply.specs.Positions.{PartiesIn}

-- trades, of which those at places stand lower by their cuts
unfoldable pub lowered_at : List ℕ → List ℕ → List Trade → List Trade
lowered_at is cs ts = written no_trade is (less cs (map (λ i. (get_or ts i no_trade).standing) is)) ts

-- cuts of trades of kind 0 and day 0 at places that differ, each of at most what stands
pub record Cuttable (ts : List Trade) (is cs : List ℕ) : Type 0 where
  pub same : length cs ≡ length is
  pub inside : (k : ℕ) → k < length is → get_or is k 0 < length ts
  pub bilateral : (k : ℕ) → k < length is → T (bilateral_for_day (get_or ts (get_or is k 0) no_trade))
  pub apart : (j k : ℕ) → j < k → k < length is → get_or is j 0 ≡ get_or is k 0 → ⊥
  pub most : (k : ℕ) → k < length is → get_or cs k 0 ≤ (get_or ts (get_or is k 0) no_trade).standing

-- the same from one place of two arrays up to another
pub record CuttablePart (ts : List Trade) (origins cuts : List ℕ) (from to : ℕ) : Type 0 where
  pub ends : from ≤ to
  pub few : to ≤ 256
  pub origins_room : to ≤ length origins
  pub cuts_room : to ≤ length cuts
  pub cuttable : Cuttable ts (part from to origins) (part from to cuts)

-- how many cuts are not 0
unfoldable pub losing : List ℕ → ℕ
losing [] = 0
losing (c ∷ cs) = min 1 c + losing cs

-- an accepted book with the places of the parties of its trades, cuts of its sales from a place up to another, and how many are not 0
pub record Cutting (s sellers buyers origins cuts : List ℕ) (from to lost : ℕ) : Type 0 where
  pub book : BookIn s sellers buyers
  pub cuttable : CuttablePart (book_of s).trades origins cuts from to
  pub count : lost ≡ losing (part from to cuts)

-- ---- one sale

-- a sale between two users of a book, whose trades begin at an offset, and its cut
pub record SaleIn (s : List ℕ) (at seller buyer place cut : ℕ) : Type 0 where
  pub held : HeldAs (book_of s) s
  pub trade : TradeIn s at place
  pub parties : PartiesIn s seller buyer (get_or (trades_of s) place no_trade).terms.area cut

-- the positions of its parties are settled; where it loses something its place and its cut are the next of two lists
pub record SaleCut (s : List ℕ) (seller buyer place cut lost : ℕ) (places amounts s' places' amounts' : List ℕ) (r : ℕ) : Type 0 where
  pub users : HeldAs (with_users (book_of s) (settled_at seller buyer (get_or (trades_of s) place no_trade).terms.area cut (users_of s))) s'
  pub count : r ≡ cond (ltb 0 cut) (lost + 1) lost
  pub places_are : places' ≡ cond (ltb 0 cut) (set places lost place) places
  pub amounts_are : amounts' ≡ cond (ltb 0 cut) (set amounts lost cut) amounts

-- ---- all of them

-- the positions are those of the book with the lowered trades; those that lose something, alone, are as many places and cuts
pub record MovedBy (b : Book) (is cs places amounts s : List ℕ) : Type 0 where
  pub held : HeldAs (with_users b (with_trades b (lowered_at is cs b.trades)).users) s
  pub same : lowered_at places amounts b.trades ≡ lowered_at is cs b.trades
  pub inside : (k : ℕ) → k < length places → get_or places k 0 < length b.trades
  pub count : length places ≡ losing cs
