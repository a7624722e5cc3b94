-- The eligible trades of the user at a place: what is read of each trade, and the loops that gather their worths and mark them. Assumes nothing.
use Rattle.base.specs.Basics.{◌≡◌, sym, ap, ap₂, ◌∙◌, Bool, false, cond, not, ◌&&◌, List, ℕ, ◌+◌, ◌*◌, ◌-◌, ◌/◌, ◌%◌, ◌≤◌, ◌<◌, arith, eqb, ltb}
use Rattle.base.specs.Basics.{length, get_or, replicate, set}
use Rattle.base.proofs.Fronts.{all_at}
use Rattle.risk_bearers.proofs.Borne as borne
use Rattle.risk_bearers.proofs.Borne.{buyer_is, id_in_lem, seller_is}
use Rattle.cut_sets.proofs.Gathering.{Gathering, gathering_all, gathering_count, gathering_first, gathering_given, gathering_more}
use Rattle.cut_sets.proofs.Marking.{Marking, marking_end, marking_first, marking_more}
use Rattle.book_format.proofs.Held.{accepted_trades}
use Rattle.book_format.proofs.Passed.{length-trades_of}
use Rattle.book_format.specs.Book.{book_of, count_of_trades, trades_of, users_of}
use Rattle.book_format.specs.Places.{TradeIn}
use Rattle.laws.proofs.Bounds.{standing_le}
use Rattle.laws_sales.specs.Borne.{borne_trade, shut}
use Rattle.requests.specs.Cancellation.{marks_of, whole_worth}
use Rattle.rules.specs.Areas.{Prices, tariff}
use Rattle.rules.specs.Bearers.{as_borne}
use Rattle.rules.specs.Book.{Book, Trade, User, bilateral_for_day, no_trade, nobody}
use Rattle.rules.specs.Levels.{sells}
use Rattle.rules.specs.Questions.{trade_is_valid}
use Rattle.rules.specs.Reduction.{eligible}
use Rattle.call_cancellation.specs.Sales.{Selling, Worths, sets_of, unmarked}

module _ {at m : ℕ} {s sellers buyers : List ℕ} {place : ℕ} (q : Selling at m s sellers buyers place) where
  abbrev b : Book
  b = book_of s

  abbrev u : User
  u = get_or (users_of s) place nobody

  -- ---- one trade

  pub trades-length : length (book_of s).trades ≡ m
  unfolding book_of
  trades-length = length-trades_of s ∙ sym q.trades_are

  pub trades_few : length (book_of s).trades ≤ 256
  trades_few = omega (arith, trades-length, q.trades_are, q.borne.accepted.held.form.trades)

  module _ {i : ℕ} (l : i < m) where
    -- it stands in the bytes
    pub trade_in : TradeIn s at i
    trade_in = record { form = q.borne.accepted.held.form; begin = q.begin; inside = omega (arith, l, q.trades_are) }

    pub standing_low : (get_or (trades_of s) i no_trade).standing ≤ 100000
    standing_low =
        standing_le (users_of s) (get_or (trades_of s) i no_trade)
        (all_at (trade_is_valid (users_of s)) (trades_of s) (accepted_trades q.borne.accepted) i no_trade (omega (arith, l, q.trades_are, length-trades_of s)))

    -- it is eligible
    pub eligible_is : {seller buyer : ℕ} {e : Bool} → seller ≡ get_or sellers i 0 → buyer ≡ get_or buyers i 0
        → e ≡ ((eqb seller place && not (eqb buyer place)) && (bilateral_for_day (get_or (trades_of s) i no_trade) && ltb 0 (get_or (trades_of s) i no_trade).standing))
        → e ≡ eligible (book_of s) (get_or (users_of s) place nobody) (get_or (book_of s).trades i no_trade)
    unfolding book_of eligible sells borne_trade shut as_borne
    eligible_is {seller} {buyer} k h e =
        let t = get_or (trades_of s) i no_trade in
        let r = (as_borne (users_of s) t).terms in
        let inside : i < count_of_trades s = omega (arith, l, q.trades_are) in
        let id = (get_or (users_of s) place nobody).party.id in
        let sold : eqb seller place ≡ eqb r.seller id
        = seller_is s sellers buyers q.borne inside k place q.inside
        ∙ ap₂ (λ (x : Trade) (n : ℕ). eqb x.terms.seller n) (borne.trade_in s i inside) (id_in_lem s place) in
        let bought : eqb buyer place ≡ eqb r.buyer id
        = buyer_is s sellers buyers q.borne inside h place q.inside
        ∙ ap₂ (λ (x : Trade) (n : ℕ). eqb x.terms.buyer n) (borne.trade_in s i inside) (id_in_lem s place) in
        e ∙ ap₂ (λ (c d : Bool). (c && not d) && (bilateral_for_day t && ltb 0 t.standing)) sold bought

    -- its worth
    pub worth_is : {f : Prices} {w : ℕ} → f ≡ (book_of s).header.prices → w ≡ (get_or (trades_of s) i no_trade).standing * tariff f (get_or (trades_of s) i no_trade).terms.area
        → w ≡ whole_worth (book_of s) (get_or (book_of s).trades i no_trade)
    unfolding book_of whole_worth
    worth_is h e = let t = get_or (trades_of s) i no_trade in e ∙ ap (λ (f : Prices). t.standing * tariff f t.terms.area) h

  -- ---- the worths

  -- what is gathered so far
  abbrev pub Gathered : List ℕ → ℕ → ℕ → Type 0
  Gathered worths k i = Gathering (eligible (book_of s) (get_or (users_of s) place nobody)) (whole_worth (book_of s)) (book_of s).trades worths k i

  pub gathered_first : {worths : List ℕ} → worths ≡ replicate 256 0 → Gathered worths 0 0
  gathered_first e = rw e (gathering_first (eligible b u) (whole_worth b) b.trades trades_few)

  pub gathered_more : {worths : List ℕ} {k i : ℕ} → Gathered worths k i → i < m → {f : Prices} {seller buyer w next : ℕ} {e : Bool} → w ≤ 10000000000 → f ≡ (book_of s).header.prices
      → w ≡ (get_or (trades_of s) i no_trade).standing * tariff f (get_or (trades_of s) i no_trade).terms.area → seller ≡ get_or sellers i 0 → buyer ≡ get_or buyers i 0
      → e ≡ ((eqb seller place && not (eqb buyer place)) && (bilateral_for_day (get_or (trades_of s) i no_trade) && ltb 0 (get_or (trades_of s) i no_trade).standing)) → next ≡ cond e (k + 1) k → Gathered (set worths k w) next (i + 1)
  gathered_more p l most h w-is k g e-is next_is =
      gathering_more (eligible b u) (whole_worth b) b.trades trades_few no_trade p (omega (arith, trades-length)) most (worth_is l h w-is) (eligible_is l k g e-is) next_is

  pub gathered_end : {worths : List ℕ} {k i : ℕ} → Gathered worths k i → m ≤ i → Worths (book_of s) (get_or (users_of s) place nobody) k worths
  gathered_end p h =
      record {
        given = gathering_given (eligible b u) (whole_worth b) b.trades trades_few p;
        count_is = gathering_count (eligible b u) (whole_worth b) b.trades trades_few p (omega (arith, trades-length));
        worths_are = gathering_all (eligible b u) (whole_worth b) b.trades trades_few p (omega (arith, trades-length));
      }

  -- ---- the marks

  -- what is marked so far
  abbrev pub Marked : ℕ → List Bool → ℕ → ℕ → Type 0
  Marked left table rest i = Marking (eligible (book_of s) (get_or (users_of s) place nobody)) (book_of s).trades left table rest i

  pub marked_first : {left : ℕ} → left < sets_of (book_of s) (get_or (users_of s) place nobody) → Marked left (replicate 256 false) left m
  marked_first {left} h = rw (← trades-length) (marking_first (eligible b u) b.trades left trades_few h)

  pub marked_more : {left rest i : ℕ} {table : List Bool} → Marked left table rest i → 0 < i → {seller buyer next : ℕ} {e mark : Bool} → seller ≡ get_or sellers (i - 1) 0 → buyer ≡ get_or buyers (i - 1) 0
      → e ≡ ((eqb seller place && not (eqb buyer place)) && (bilateral_for_day (get_or (trades_of s) (i - 1) no_trade) && ltb 0 (get_or (trades_of s) (i - 1) no_trade).standing)) → mark ≡ (e && eqb (rest % 2) 0) → next ≡ cond e (rest / 2) rest
      → Marked left (set table (i - 1) mark) next (i - 1)
  marked_more {left} {i = i} p h k g e-is mark-is next_is =
      marking_more (eligible b u) b.trades left trades_few i no_trade p h (eligible_is (omega (arith, p.inside, trades-length)) k g e-is) mark-is next_is

  pub marked_end : {left rest i : ℕ} {table : List Bool} → Marked left table rest i → i ≤ 0 → table ≡ unmarked (book_of s) (get_or (users_of s) place nobody) left
  unfolding marks_of
  marked_end {left} {i = i} p h = marking_end (eligible b u) b.trades left trades_few i p h
