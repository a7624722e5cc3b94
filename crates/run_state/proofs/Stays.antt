-- A run's book and the opening book: the same users but for their positions, and the same trades but for what stands of kind 0 and day 0. What is read from the arrays is what the
-- rules say of the run's book. Assumes nothing.
use Rattle.base.specs.Basics.{◌≡◌, refl, sym, ap, ap₂, ◌∙◌, Bool, true, cond, List, [], map, map-map, ℕ, ◌+◌, ◌*◌, ◌-◌, ◌<◌, arith, ltb, length, get_or}
use Rattle.base.specs.Basics.{length-map, get_or-map, subst, fun_ext}
use Rattle.laws.proofs.{Settle.retraded_anew, Trades.framed, Trades.lowered_refl}
use Rattle.laws.specs.{Sound.Sound, Statements.own_holding, Books.anew, Books.repositioned, Trades.Framed, Trades.Lowered, Trades.Pairwise}
use Rattle.rules.specs.Areas.{Prices}
use Rattle.rules.specs.{Book.Book, Book.Header, Book.Party, Book.User, Book.nobody, Book.sold, Book.bought, Reduction.target, Reduction.with_trades}
use Rattle.rules.specs.Levels.{Limits, Holding, afternoon_level, exposure, holding, lowest_reference_price, level_from, flagged_from, shipper, exceeds_its_margin}
use Rattle.run_state.specs.{Asked.member_at, Going.owed_called}
use Rattle.book_sums.specs.Twelve.{TwelveOf}
use Rattle.risk_user.proofs.Borne.{blocked_borne, member_borne, members_borne, parties_borne, party_borne, party_same}
use Rattle.risk_user.specs.UserAt.{PositionsOf, flagged_at, held_at, level_of_place, target_of_place}
use Rattle.laws_sales.proofs.{Cover.sold_next_lem, Cover.bought_next_lem, Cover.exposure_next, Cover.level_next, Cover.short_next, Settled.settle_none, Sums.held_borne}
use Rattle.laws_sales.specs.{Borne.borne_book, Borne.borne_user, Cover.AllNext, Cover.short_from}

-- ---- of a user, levels and cover read the money

module _ (limits : Limits) (f : Prices) (h : ℕ → Holding) (u v : User) (p : u.party ≡ v.party) where
  level_money : level_from limits f u h - u.party.assigned ≡ level_from limits f v h - v.party.assigned
  level_money = rw p

  short_money : u.blocked ≡ v.blocked → short_from limits f u h true ≡ short_from limits f v h true
  unfolding short_from shipper exceeds_its_margin
  short_money g = rw (p, g)

-- a run's book has the opening book's header, users but for their positions, and trades but for what stands
pub record Stays (o b : Book) : Type 0 where
  pub header : b.header ≡ o.header
  pub users : b.users ≡ map (repositioned b.trades) o.users
  pub framed : Pairwise Framed o.trades b.trades

pub stays : (o b : Book) → Sound o → Pairwise Lowered o.trades b.trades → b ≡ with_trades o b.trades → Stays o b
unfolding anew
stays o b s l e =
    let same : b ≡ anew o b.trades = e ∙ retraded_anew o b.trades s (framed l) in
    record { header = ap (λ (x : Book). x.header) same; users = ap (λ (x : Book). x.users) same; framed = framed l }

module _ {o b : Book} (t : Stays o b) where
  pub users_many : length b.users ≡ length o.users
  users_many = ap length t.users ∙ length-map o.users (repositioned b.trades)

-- ---- two books, in which users are the same but for what they hold, and trades but for what stands

pub record Alike (o b : Book) : Type 0 where
  pub header : b.header ≡ o.header
  pub parties : map (λ u. u.party) b.users ≡ map (λ u. u.party) o.users
  pub blocked : map (λ u. u.blocked) b.users ≡ map (λ u. u.blocked) o.users
  pub framed : Pairwise Framed o.trades b.trades

-- a run's book and the opening book as their risk is borne
pub alike_borne : {o b : Book} → Stays o b → Pairwise Framed (borne_book o).trades (borne_book b).trades → Alike (borne_book o) (borne_book b)
unfolding repositioned borne_book
alike_borne {o} {b} t f =
    record {
      header = t.header;
      parties =
          parties_borne b ∙ ap (map (λ (u : User). u.party)) t.users ∙ map-map (λ (u : User). u.party) (repositioned b.trades) o.users ∙ sym (parties_borne o);
      blocked =
          blocked_borne b ∙ ap (map (λ (u : User). u.blocked)) t.users ∙ map-map (λ (u : User). u.blocked) (repositioned b.trades) o.users ∙ sym (blocked_borne o);
      framed = f;
    }

module _ {o b : Book} (t : Alike o b) where
  pub alike_many : length b.users ≡ length o.users
  alike_many = sym (length-map b.users (λ u. u.party)) ∙ ap length t.parties ∙ length-map o.users (λ u. u.party)

  pub party_stays : (i : ℕ) → (member_at b i).party ≡ (member_at o i).party
  party_stays i = party_same b.users o.users t.parties i

  pub blocked_stays : (i : ℕ) → (member_at b i).blocked ≡ (member_at o i).blocked
  blocked_stays i =
      sym (get_or-map (λ (u : User). u.blocked) b.users i nobody) ∙ ap (λ (ns : List ℕ). get_or ns i nobody.blocked) t.blocked ∙ get_or-map (λ (u : User). u.blocked) o.users i nobody

  -- ---- what the afternoon reads

  held_alike : {sums ps : List ℕ} → TwelveOf o.users o.trades sums → PositionsOf b.users ps → (i : ℕ) → i < length b.users → AllNext (held_at sums ps i) (own_holding b (member_at b i))
  unfolding held_at own_holding
  held_alike {sums} w p i k =
      let id : (member_at o i).party.id ≡ (member_at b i).party.id = sym (ap (λ (q : Party). q.id) (party_stays i)) in
      let l : i < length o.users = omega (arith, alike_many) in
      record {
        each = λ area h.
            let next : 12 * i + 9 + area ≡ 12 * i + 6 + 3 * 1 + area = omega arith in
            let m = (member_at o i).party.id in
            record {
              position = p.each i area k h;
              sold = w.sold_at i area 1 l h (omega arith) ∙ sym (sold_next_lem m area t.framed) ∙ ap (λ (n : ℕ). sold b.trades n area 1) id;
              bought = ap (λ (n : ℕ). get_or sums n 0) next ∙ w.bought_at i area 1 l h (omega arith) ∙ sym (bought_next_lem m area t.framed) ∙ ap (λ (n : ℕ). bought b.trades n area 1) id;
            };
      }

-- ---- of a run's book

module _ {o b : Book} (t : Stays o b) (a : Alike (borne_book o) (borne_book b)) {sums ps : List ℕ} (w : TwelveOf (borne_book o).users (borne_book o).trades sums)
    (p : PositionsOf (borne_book b).users ps) (i : ℕ) (k : i < length b.users) where
  -- what the user holds
  held_is : AllNext (held_at sums ps i) (holding b (member_at b i))
  held_is =
      let read = held_alike a w p i (omega (arith, members_borne b)) in
      let one : (area : ℕ) → own_holding (borne_book b) (member_at (borne_book b) i) area ≡ holding b (member_at b i) area
      = λ area. ap (λ (u : User). own_holding (borne_book b) u area) (member_borne b i k) ∙ sym (held_borne b (member_at b i) area) in
      subst (AllNext (held_at sums ps i)) (fun_ext one) read

  -- exposure reads the positions alone
  exposed : (f : Prices) → exposure f (held_at [] ps i) ≡ exposure f (held_at sums ps i)
  unfolding exposure held_at
  exposed f = refl

  same_party : (member_at o i).party ≡ (member_at b i).party
  same_party = sym (party_borne o i) ∙ sym (party_stays a i) ∙ party_borne b i

  same_blocked : (member_at o i).blocked ≡ (member_at b i).blocked
  unfolding borne_user
  same_blocked =
      let l : i < length o.users = omega (arith, users_many t) in
      sym (ap (λ (u : User). u.blocked) (member_borne o i l)) ∙ sym (blocked_stays a i) ∙ ap (λ (u : User). u.blocked) (member_borne b i k)

  module _ (limits : Limits) where
    -- the target, where a user that is called in is short of cover
    pub target_is : target_of_place limits o.header.prices o.users sums ps i ≡ owed_called limits b (member_at b i)
    unfolding target_of_place level_of_place target afternoon_level
    target_is =
        let f = o.header.prices in
        let u = member_at o i in
        let v = member_at b i in
        ap₂ (λ (x : Bool) (n : ℕ). cond x n 0)
        (short_money limits f (held_at sums ps i) u v same_party same_blocked ∙ short_next held_is limits f v true)
        (level_money limits f (held_at sums ps i) u v same_party ∙ ap (λ (n : ℕ). n - v.party.assigned) (level_next held_is limits f v))
        ∙ ap (λ (x : Header). cond (short_from limits x.prices v (holding b v) true) (level_from limits x.prices v (holding b v) - v.party.assigned) 0) (sym t.header)

    -- flagged
    pub flagged_is : flagged_at limits o.header.prices o.users ps i ≡ flagged_from limits b.header.prices (member_at b i) (holding b (member_at b i))
    unfolding flagged_at
    flagged_is =
        let f = o.header.prices in
        let least = limits.flag_mwh * lowest_reference_price f in
        ap₂ (λ (m n : ℕ). ltb (least + m) n) same_blocked (exposed f ∙ exposure_next held_is f)
        ∙ ap (λ (x : Header). ltb (limits.flag_mwh * lowest_reference_price x.prices + (member_at b i).blocked) (exposure x.prices (holding b (member_at b i)))) (sym t.header)

-- the opening book is one that a run has come to
pub with_same : (b : Book) → b ≡ with_trades b b.trades
unfolding with_trades
with_same b = ap (λ (us : List User). record { header = b.header; users = us; trades = b.trades }) (sym (settle_none b.trades b.users))

pub stays_first : (b : Book) → Sound b → Stays b b
stays_first b s = stays b b s (lowered_refl b.trades) (with_same b)

pub alike_first : (b : Book) → Sound b → Alike (borne_book b) (borne_book b)
alike_first b s = alike_borne (stays_first b s) (framed (lowered_refl (borne_book b).trades))
