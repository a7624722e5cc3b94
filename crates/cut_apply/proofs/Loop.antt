-- The loop over a part of the arrays, and what follows it: the noted trades are lowered as records. Assumes nothing.
use Rattle.base.specs.Basics.{◌≡◌, refl, sym, ap, ap₂, subst, ◌∙◌, List, ℕ, suc, ◌+◌, ◌-◌, ◌≤◌, ◌<◌, arith, get_or, length, length-replicate, replicate}
use Rattle.base.specs.Basics.{take, length-take-le}
use Rattle.book_parties.specs.Ids.{BookIn}
use Rattle.cut_records.specs.Places.{LoweredIn, PlacesIn}
use Rattle.book_format.specs.Book.{book_of, trades_at, trades_of}
use Rattle.book_format.proofs.Held.{held_itself, held_count_of_trades, held_trades, held_begin}
use Rattle.book_format.specs.Held.{HeldAs, trades_replaced}
use Rattle.rules.specs.Book.{Book, Trade}
use Rattle.rules.specs.Changes.{with_users}
use Rattle.rules.specs.Reduction.{settle, with_trades}
use Rattle.laws_sales.proofs.Settled.{settle_parties}
use Rattle.laws_sales.proofs.Standing.{same_length}
use Rattle.laws_sales.proofs.Parts.{part_here, part_length}
use Rattle.laws_sales.specs.Parts.{part}
use Rattle.cut_apply.proofs.Cutting.{lowered_to}
use Rattle.cut_apply.proofs.Losing.{losing-le}
use Rattle.cut_apply.proofs.Turns.{MovedSo, moved_end, moved_more, moved_start, sale_here, sale_room}
use Rattle.cut_apply.specs.Cutting.{Cutting, CuttablePart, MovedBy, SaleCut, SaleIn, losing, lowered_at}

-- ---- the lists that are lent

-- fronts of two arrays with room for those that lose something
pub lent_room : (room : ℕ) {s sellers buyers origins cuts : List ℕ} {from to lost : ℕ} → Cutting s sellers buyers origins cuts from to lost → lost ≤ room
    → Cutting s sellers buyers origins cuts from to (length (take lost (replicate {A = ℕ} room 0))) × (length (take lost (replicate {A = ℕ} room 0)) ≡ length (take lost (replicate {A = ℕ} room 0)))
lent_room room {lost = lost} p h =
    let e = length-take-le lost (replicate {A = ℕ} room 0) (omega (arith, length-replicate {A = ℕ} room 0)) in
    (record { book = p.book; cuttable = p.cuttable; count = e ∙ p.count }, refl)

-- ---- the loop

-- the sales before place k of the arrays are passed
pub record MovedTo (b : Book) (origins cuts : List ℕ) (from to : ℕ) (places amounts s : List ℕ) (lost k : ℕ) : Type 0 where
  pub begun : from ≤ k
  pub inside : k ≤ to
  pub so : MovedSo b (part from to origins) (part from to cuts) places amounts s lost (k - from)

module _ {s₀ sellers buyers : List ℕ} (a : BookIn s₀ sellers buyers) {origins cuts : List ℕ} {from to : ℕ} (p : CuttablePart (book_of s₀).trades origins cuts from to) where
  pub loop_start : {places amounts : List ℕ} → length places ≡ losing (part from to cuts) → length amounts ≡ losing (part from to cuts) → MovedTo (book_of s₀) origins cuts from to places amounts s₀ 0 from
  loop_start {places} {amounts} e f =
      let none : 0 ≡ from - from = omega arith in
      record {
        begun = omega arith;
        inside = p.ends;
        so = subst (MovedSo (book_of s₀) (part from to origins) (part from to cuts) places amounts s₀ 0) none (moved_start a p.cuttable e f);
      }

  long : length (part from to origins) ≡ to - from
  long = part_length origins from to p.origins_room

  module _ {places amounts s : List ℕ} {lost k : ℕ} (q : MovedTo (book_of s₀) origins cuts from to places amounts s lost k) (h : k < to)
      {place seller buyer cut : ℕ} (at : place ≡ get_or origins k 0) (sells : seller ≡ get_or sellers place 0) (buys : buyer ≡ get_or buyers place 0) (loses : cut ≡ get_or cuts k 0) where
    -- the sale and its cut
    place_is : place ≡ get_or (part from to origins) (k - from) 0
    place_is = at ∙ sym (part_here origins from to k 0 q.begun h)

    cut_is : cut ≡ get_or (part from to cuts) (k - from) 0
    cut_is = loses ∙ sym (part_here cuts from to k 0 q.begun h)

    inside_part : k - from < length (part from to origins)
    inside_part = omega (arith, long, q.begun)

    pub loop_sale : {begin : ℕ} → begin ≡ trades_at s₀ → SaleIn s begin seller buyer place cut
    loop_sale {begin} starts =
        subst (λ (x : ℕ). SaleIn s begin seller buyer x cut) (sym place_is)
        (subst (λ (x : ℕ). SaleIn s begin seller buyer (get_or (part from to origins) (k - from) 0) x) (sym cut_is)
        (sale_here a p.cuttable (k - from) inside_part (sells ∙ ap (λ (x : ℕ). get_or sellers x 0) place_is) (buys ∙ ap (λ (x : ℕ). get_or buyers x 0) place_is) q.so starts))

    -- where it loses something, there is room to note it
    pub loop_room : (length places ≤ 256) × (0 < cut → (lost < length places) × (lost < length amounts))
    loop_room =
        let cs = part from to cuts in
        let room : 0 < cut → lost < losing cs = λ l.
        sale_room a p.cuttable (k - from) inside_part (sells ∙ ap (λ (x : ℕ). get_or sellers x 0) place_is) (buys ∙ ap (λ (x : ℕ). get_or buyers x 0) place_is) q.so (omega (arith, cut_is)) in (
          omega (arith, q.so.places_room, losing-le cs, p.cuttable.same, long, p.few),
          λ l. (omega (arith, room l, q.so.places_room), omega (arith, room l, q.so.amounts_room)),
        )

    pub loop_more : {places' amounts' s' : List ℕ} {lost' : ℕ} → SaleCut s seller buyer place cut lost places amounts s' places' amounts' lost'
        → MovedTo (book_of s₀) origins cuts from to places' amounts' s' lost' (k + 1)
    loop_more {places'} {amounts'} {s'} {lost'} g =
        let next : suc (k - from) ≡ k + 1 - from = omega (arith, q.begun) in
        let here : SaleCut s seller buyer (get_or (part from to origins) (k - from) 0) (get_or (part from to cuts) (k - from) 0) lost places amounts s' places' amounts' lost' =
        subst (λ (x : ℕ). SaleCut s seller buyer (get_or (part from to origins) (k - from) 0) x lost places amounts s' places' amounts' lost') cut_is
        (subst (λ (x : ℕ). SaleCut s seller buyer x cut lost places amounts s' places' amounts' lost') place_is g) in
        record {
          begun = omega (arith, q.begun);
          inside = omega arith;
          so = subst (MovedSo (book_of s₀) (part from to origins) (part from to cuts) places' amounts' s' lost') next
              (moved_more a p.cuttable (k - from) inside_part (sells ∙ ap (λ (x : ℕ). get_or sellers x 0) place_is) (buys ∙ ap (λ (x : ℕ). get_or buyers x 0) place_is) q.so here);
        }

  -- all are passed
  pub loop_end : {places amounts s : List ℕ} {lost k : ℕ} → MovedTo (book_of s₀) origins cuts from to places amounts s lost k → to ≤ k
      → MovedBy (book_of s₀) (part from to origins) (part from to cuts) places amounts s
  loop_end q h = moved_end a p.cuttable q.so (omega (arith, long))

  -- ---- bytes that differ in positions only

  users_long : (ts : List Trade) → length (with_trades (book_of s₀) ts).users ≡ length (book_of s₀).users
  unfolding with_trades
  users_long ts = same_length (book_of s₀).users (settle (book_of s₀).trades ts (book_of s₀).users) (settle_parties (book_of s₀).trades ts (book_of s₀).users)

  module _ (ts : List Trade) {s : List ℕ} (h : HeldAs (with_users (book_of s₀) (with_trades (book_of s₀) ts).users) s) where
    -- the trades begin where they did, and there are as many bytes
    begin_stays : trades_at s ≡ trades_at s₀
    unfolding with_users
    begin_stays = held_begin h a.accepted.held refl (users_long ts)

    bytes_stay : length s ≡ length s₀
    unfolding with_users
    bytes_stay = omega (arith, h.form.whole, a.accepted.held.form.whole, begin_stays, held_count_of_trades h, held_count_of_trades a.accepted.held)

  pub loop_bytes : {places amounts s : List ℕ} {lost k : ℕ} → MovedTo (book_of s₀) origins cuts from to places amounts s lost k → length s ≡ length s₀
  loop_bytes {k = k} q = bytes_stay (lowered_to (part from to origins) (part from to cuts) (book_of s₀).trades (k - from)) q.so.held

  -- ---- the trades

  module _ {places amounts s : List ℕ} (q : MovedBy (book_of s₀) (part from to origins) (part from to cuts) places amounts s) where
    -- the noted ones can be lowered
    pub noted_places : {begin : ℕ} → begin ≡ trades_at s₀ → PlacesIn 256 s begin places
    unfolding with_users
    noted_places starts =
        record {
          held = held_itself q.held;
          begin = omega (arith, starts, begin_stays (lowered_at (part from to origins) (part from to cuts) (book_of s₀).trades) q.held);
          inside = λ i l. omega (arith, q.inside i l, held_count_of_trades q.held);
          few = omega (arith, q.count, losing-le (part from to cuts), p.cuttable.same, long, p.few);
        }

    -- they are lowered: the book has the trades of all cuts, and the positions with them
    pub all_cut : {t : List ℕ} → LoweredIn s places amounts t → HeldAs (with_trades (book_of s₀) (lowered_at (part from to origins) (part from to cuts) (book_of s₀).trades)) t
    unfolding with_users with_trades trades_replaced lowered_at
    all_cut {t} h =
        let b = book_of s₀ in
        let ts = lowered_at (part from to origins) (part from to cuts) b.trades in
        let ns : lowered_at places amounts (trades_of s) ≡ ts = ap (lowered_at places amounts) (held_trades q.held) ∙ q.same in
        subst (λ (x : Book). HeldAs x t) (ap₂ (λ (x : Book) (xs : List Trade). trades_replaced x xs) q.held.book ns) h
