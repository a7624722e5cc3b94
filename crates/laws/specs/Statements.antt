-- The main laws of the rules, as statements. Each holds for every book, user, amount and set of limits; the proofs stand in proofs/Main.antt.
use Rattle.std.specs.Prelude.{◌≡◌, ◌*◌, ◌+◌, ◌<◌, ◌^◌, ◌≤◌, ◌+ℤ◌}
use Rattle.base.specs.Basics.{not, Memᴰ, max, min, ℕ, T, pos}
use Rattle.base.specs.Parts.{pos_part}
use Rattle.base.specs.Sums.{sum, sum_ℤ}
use Rattle.laws.specs.Books.{anew}
use Rattle.laws.specs.Trades.{cuts_within, Lowered, Pairwise, eligible_worth}
use Rattle.rules.specs.Areas.{areas, reference_price_of}
use Rattle.rules.specs.Book.{Book, User, at, bought, find, sold}
use Rattle.rules.specs.Calls.{Call, cuttable, effect, reduced, reduced_by, run, run_for, step}
use Rattle.rules.specs.Levels.{Holding, Limits, afternoon_level, need_of_afternoon, exposure, floored, holding, morning_level, short_of_cover}
use Rattle.rules.specs.Questions.{accepted, known}
use Rattle.rules.specs.Reduction.{cut_all, cuts, eligible, has_eligible, target}
use Rattle.rules.specs.Signed.{within}

-- Double counting: in an accepted book the positions of each area sum to the physical entries.
pub record Conserved : Type 0 where
  pub sums : (b : Book) → T (accepted b) → (a : ℕ) → a < 3
      → sum_ℤ (λ u. at u.position a) b.users ≡ sum_ℤ (λ u. at u.physical a) b.users

-- A call takes an accepted book to an accepted book, and raises no trade.
pub record StaysAccepted (limits : Limits) : Type 0 where
  pub accepts : (b : Book) (c : Call) → T (accepted b) → T (accepted (step limits b c).book)
  pub lowers : (b : Book) (c : Call) → T (accepted b) → Pairwise Lowered b.trades (step limits b c).book.trades

-- A cut is at most what stands, and 0 unless the trade is eligible.
pub record CutsEligible : Type 0 where
  pub within : (b : Book) (u : User) (asked : ℕ) → T (cuts_within (eligible b u) (cuts b u asked) b.trades)

-- A user that is short of cover and has an eligible trade loses at least one MWh by a reduction.
pub record SomethingCut (limits : Limits) : Type 0 where
  pub some : (b : Book) (u : User) → T (accepted b) → T (short_of_cover limits b u) → T (has_eligible b u)
      → 0 < (reduced limits b u).answer.mwh

-- The worth of the cuts is at least the target or all there is, and below the target plus the larger tariff.
pub record TargetMet (limits : Limits) : Type 0 where
  pub reached : (b : Book) (u : User) → min (target limits b u) (eligible_worth b u) ≤ (reduced limits b u).answer.worth
  pub near : (b : Book) (u : User) → T (accepted b)
      → (reduced limits b u).answer.worth < target limits b u + max b.header.prices.p b.header.prices.q

-- Positions settled cut by cut are positions computed anew.
pub record SettledAnew : Type 0 where
  pub same : (b : Book) (u : User) (asked : ℕ) → T (accepted b)
      → (reduced_by b u asked).book ≡ anew b (cut_all (cuts b u asked) b.trades)

-- no user of the book that is short of cover has an eligible trade
unfoldable pub AllCovered : Limits → Book → Type 0
AllCovered limits b = (u : User) → Memᴰ u b.users → T (short_of_cover limits b u) → T (not (has_eligible b u))

-- A run of as many reductions as MWh can be cut leaves no user short of cover with an eligible trade.
pub record RunEnds (limits : Limits) : Type 0 where
  pub enough : (n : ℕ) (b : Book) → T (accepted b) → cuttable b.trades ≤ n → AllCovered limits (run_for limits n b).book

-- A run reports at most as many reductions as MWh can be cut, and one that reports none leaves the book.
pub record RunCounts (limits : Limits) : Type 0 where
  pub most : (b : Book) → (effect limits b run).answer.reductions ≤ cuttable b.trades
  pub none : (b : Book) → (effect limits b run).answer.reductions ≡ 0 → (effect limits b run).book ≡ b

-- Positions of an accepted book are within ±26,600,000, and levels are below 2^46 where the least level is.
pub record Bounded (limits : Limits) : Type 0 where
  pub position : (b : Book) (id a : ℕ) → T (accepted b) → T (known b.users id) → a < 3
      → T (within 26600000 (at (find b.users id).position a))
  pub morning : (b : Book) (id : ℕ) → T (accepted b) → T (known b.users id) → limits.floor ≤ 66280000000000
      → morning_level limits b (find b.users id) < 2 ^ 46
  pub afternoon : (b : Book) (id : ℕ) → T (accepted b) → T (known b.users id) → limits.floor ≤ 66280000000000
      → afternoon_level limits b (find b.users id) < 2 ^ 46

-- what a user holds by its own record and its own trades, as in document 01
unfoldable pub own_holding : Book → User → ℕ → Holding
own_holding b u area =
    record {
      physical = at u.physical area;
      position = at u.position area;
      sold = sold b.trades u.party.id area 0;
      bought = bought b.trades u.party.id area 0;
      sold_next = sold b.trades u.party.id area 1;
      bought_next = bought b.trades u.party.id area 1;
    }

-- document 01's afternoon level: "charges + sum of max(0, need) × w + sum of max(0, −position) × w", with its floor
unfoldable pub uncredited_level : Limits → Book → User → ℕ
uncredited_level limits b u =
    floored limits
    (u.party.charges +ℤ pos (sum (λ a. pos_part (need_of_afternoon a (holding b u a)) * reference_price_of b.header.prices a) areas)
    +ℤ pos (exposure b.header.prices (holding b u)))

-- Document 02's ask 3, "version 1 keeps its reading": an accepted book of version 1 has document 01's afternoon level, of which no credit is taken off.
pub record KeepsReading (limits : Limits) : Type 0 where
  pub level : (b : Book) (u : User) → T (accepted b) → b.header.version ≡ 1 → afternoon_level limits b u ≡ uncredited_level limits b u
