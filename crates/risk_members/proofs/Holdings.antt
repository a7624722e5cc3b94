-- What a user holds as its risk is borne: by its record and its own sums in a version without managers, else by the sums over those whose risk it bears. Assumes nothing.
use Rattle.base.specs.Basics.{◌≡◌, sym, ap, subst, ◌∙◌, false, List, [], ◌∷◌, ℕ, zero, suc, ◌≤◌, ◌<◌, ◌^◌, arith, get_or, length}
use Rattle.book_format.proofs.Passed.{length-users_of}
use Rattle.book_format.specs.Book.{book_of, trades_of, count_of_users, users_of, version_of}
use Rattle.book_format.specs.Held.{Accepted}
use Rattle.book_records.specs.User.{alone, as_amounts, as_user}
use Rattle.book_records.specs.declared.User as code
use Rattle.book_sums.specs.Twelve.{SumsOf, TwelveOf}
use Rattle.laws.proofs.Members.{bought_members, sold_members}
use Rattle.laws_sales.proofs.Alone.{own_risk}
use Rattle.laws_sales.specs.Borne.{borne_book, borne_sums, borne_user}
use Rattle.risk_bearers.specs.Bearers.{users_in}
use Rattle.risk_holdings.specs.Holdings.{HoldingWithin, as_holding, held_in}
use Rattle.risk_holdings.specs.declared.Holding.{Holding}
use Rattle.risk_holdings.specs.declared.Holdings.{Holdings}
use Rattle.risk_user.proofs.Borne.{member_borne}
use Rattle.risk_user.proofs.Held.{held_row}
use Rattle.risk_user.specs.UserAt.{HeldWith}
use Rattle.rules.specs.Areas.{managers_in}
use Rattle.rules.specs.Bearers.{borne_sum}
use Rattle.rules.specs.Book.{Book, User, bought, nobody, sold}
use Rattle.rules.specs.Levels.{holding}
use Rattle.rules.specs.Levels as rules
use Rattle.units.specs.Amounts.{net}
use Rattle.units.specs.declared.Net.{Net}
use Rattle.risk_members.specs.Members.{HoldingsOf}
use Rattle.risk_members.specs.Sums.{HeldTo, HoldingRoom, Passed}
use Rattle.risk_members.proofs.Members.{read_physical, read_position}
use Rattle.risk_members.proofs.Sums.{count_end, count_start, sum_end, sum_room, sum_start}

-- ---- user by user

module _ (s : List ℕ) (id area : ℕ) where
  pub held_start : HeldTo s id area 0 (record { physical = record { 0 = 2147483648 }; position = record { 0 = 2147483648 }; sold = record { 0 = 0 }; bought = record { 0 = 0 }; sold_next = record { 0 = 0 }; bought_next = record { 0 = 0 } })
  held_start = record {
    physical = sum_start (users_of s) id area (λ v. v.physical);
    position = sum_start (users_of s) id area (λ v. v.position);
    sold_day = count_start (users_of s) id area (λ v. sold (trades_of s) v.party.id area 0);
    bought_day = count_start (users_of s) id area (λ v. bought (trades_of s) v.party.id area 0);
    sold_next_lem = count_start (users_of s) id area (λ v. sold (trades_of s) v.party.id area 1);
    bought_next_lem = count_start (users_of s) id area (λ v. bought (trades_of s) v.party.id area 1);
  }

  -- past those who do not count
  pub held_passed : {from to : ℕ} {h : Holding} → Passed (users_of s) id area from to → HeldTo s id area from h → HeldTo s id area to h
  held_passed {from} {to} {h} p t = record {
    physical = p.sums (λ v. v.physical) h.physical.0 t.physical;
    position = p.sums (λ v. v.position) h.position.0 t.position;
    sold_day = p.counts (λ v. sold (trades_of s) v.party.id area 0) h.sold.0 t.sold_day;
    bought_day = p.counts (λ v. bought (trades_of s) v.party.id area 0) h.bought.0 t.bought_day;
    sold_next_lem = p.counts (λ v. sold (trades_of s) v.party.id area 1) h.sold_next.0 t.sold_next_lem;
    bought_next_lem = p.counts (λ v. bought (trades_of s) v.party.id area 1) h.bought_next.0 t.bought_next_lem;
  }

  -- room for one more
  pub held_room_lem : {k : ℕ} {h : Holding} → HeldTo s id area k h → k < 64 → HoldingRoom h
  held_room_lem t l = record {
    physical = sum_room (users_of s) id area (λ v. v.physical) t.physical l;
    position = sum_room (users_of s) id area (λ v. v.position) t.position l;
    sold_day = omega (arith, t.sold_day.high);
    bought_day = omega (arith, t.bought_day.high);
    sold_next_lem = omega (arith, t.sold_next_lem.high);
    bought_next_lem = omega (arith, t.bought_next_lem.high);
  }

  -- nothing is high
  pub held_low : {k : ℕ} {h : Holding} → HeldTo s id area k h → HoldingWithin (2 ^ 40) h
  held_low t = record {
    sold = omega (arith, t.sold_day.high, t.physical.few);
    bought = omega (arith, t.bought_day.high, t.physical.few);
    sold_next_lem = omega (arith, t.sold_next_lem.high, t.physical.few);
    bought_next_lem = omega (arith, t.bought_next_lem.high, t.physical.few);
  }

-- ---- of the user at a place

module _ (s : List ℕ) (a : Accepted s) {place : ℕ} (h : place < count_of_users s) where
  abbrev user : User
  user = get_or (users_of s) place nobody

  -- in a version without managers
  module _ (none : managers_in (version_of s) ≡ false) (u : code.User) (e : as_user u ≡ alone (get_or (users_of s) place nobody)) where
    same : book_of s ≡ borne_book (book_of s)
    unfolding book_of
    same = sym (own_risk (book_of s) a.sound none).book

    pub positions_plain : as_amounts u.position ≡ (get_or (users_in s) place nobody).position
    unfolding book_of
    positions_plain = read_position u user e ∙ ap (λ (b : Book). (get_or b.users place nobody).position) same

    pub held_plain : {sums : List ℕ} {r : Holdings} → SumsOf (users_of s) (trades_of s) sums → HeldWith sums place (as_amounts u.physical) (as_amounts u.position) r → HoldingsOf s place r
    unfolding book_of
    held_plain {sums} {r} p q = record {
      each = held_row (book_of s) place (omega (arith, length-users_of s)) (subst (λ (b : Book). TwelveOf b.users b.trades sums) same p.twelve)
          (read_physical u user e ∙ ap (λ (b : Book). (get_or b.users place nobody).physical) same) positions_plain q;
      low = q.low;
    }

  -- the three positions, as its risk is borne
  three : (x y z : Net) → net x ≡ borne_sum (λ v. v.position) (users_of s) (get_or (users_of s) place nobody).party.id 0 → net y ≡ borne_sum (λ v. v.position) (users_of s) (get_or (users_of s) place nobody).party.id 1
      → net z ≡ borne_sum (λ v. v.position) (users_of s) (get_or (users_of s) place nobody).party.id 2 → as_amounts (x ∷ y ∷ z ∷ []) ≡ borne_sums (λ v. v.position) (users_of s) (get_or (users_of s) place nobody).party.id
  unfolding as_amounts borne_sums
  three x y z ex ey ez = cc (ex, ey, ez)

  row : borne_sums (λ v. v.position) (users_of s) (get_or (users_of s) place nobody).party.id ≡ (get_or (users_in s) place nobody).position
  unfolding book_of borne_user
  row = ap (λ (u : User). u.position) (sym (member_borne (book_of s) place (omega (arith, length-users_of s))))

  -- those of its holdings
  pub positions_held : (r : Holdings) → HoldingsOf s place r → as_amounts (r.pvb.position ∷ r.tvb.position ∷ r.avb.position ∷ []) ≡ (get_or (users_in s) place nobody).position
  unfolding held_in as_holding book_of holding
  positions_held r p =
      three r.pvb.position r.tvb.position r.avb.position
      (ap (λ (x : rules.Holding). x.position) (p.each 0 (omega arith))) (ap (λ (x : rules.Holding). x.position) (p.each 1 (omega arith))) (ap (λ (x : rules.Holding). x.position) (p.each 2 (omega arith)))
      ∙ row

  module _ {id : ℕ} (own : id ≡ (get_or (users_of s) place nobody).party.id) where
    pub positions_borne : (x y z : Net) → net x ≡ borne_sum (λ v. v.position) (users_of s) id 0 → net y ≡ borne_sum (λ v. v.position) (users_of s) id 1 → net z ≡ borne_sum (λ v. v.position) (users_of s) id 2
        → as_amounts (x ∷ y ∷ z ∷ []) ≡ (get_or (users_in s) place nobody).position
    positions_borne x y z ex ey ez = three x y z (ex ∙ at_own 0) (ey ∙ at_own 1) (ez ∙ at_own 2) ∙ row
      where
        at_own : (area : ℕ) → borne_sum (λ v. v.position) (users_of s) id area ≡ borne_sum (λ v. v.position) (users_of s) (get_or (users_of s) place nobody).party.id area
        at_own area = ap (λ (i : ℕ). borne_sum (λ v. v.position) (users_of s) i area) own

    -- an area of what it holds
    held_area : {k : ℕ} (area : ℕ) (x : Holding) → HeldTo s id area k x → count_of_users s ≤ k → as_holding x ≡ holding (book_of s) (get_or (users_of s) place nobody) area
    unfolding as_holding book_of holding
    held_area {k} area x t l =
        let many : length (users_of s) ≤ k = omega (arith, length-users_of s) in
        cc (
          own,
          sum_end (users_of s) id area (λ v. v.physical) t.physical many,
          sum_end (users_of s) id area (λ v. v.position) t.position many,
          count_end (users_of s) id area (λ v. sold (trades_of s) v.party.id area 0) t.sold_day many ∙ sym (sold_members (book_of s) a.sound id area 0),
          count_end (users_of s) id area (λ v. bought (trades_of s) v.party.id area 0) t.bought_day many ∙ sym (bought_members (book_of s) a.sound id area 0),
          count_end (users_of s) id area (λ v. sold (trades_of s) v.party.id area 1) t.sold_next_lem many ∙ sym (sold_members (book_of s) a.sound id area 1),
          count_end (users_of s) id area (λ v. bought (trades_of s) v.party.id area 1) t.bought_next_lem many ∙ sym (bought_members (book_of s) a.sound id area 1),
        )

    pub held_three : {n : ℕ} → n ≡ count_of_users s → (x y z : Holding) → HeldTo s id 0 n x → HeldTo s id 1 n y → HeldTo s id 2 n z → HoldingsOf s place (record { pvb = x; tvb = y; avb = z })
    unfolding held_in
    held_three {n} many x y z tx ty tz = record { each = each; low = record { pvb = held_low s id 0 tx; tvb = held_low s id 1 ty; avb = held_low s id 2 tz } }
      where
        each : (area : ℕ) → area < 3 → held_in (record { pvb = x; tvb = y; avb = z }) area ≡ holding (book_of s) (get_or (users_of s) place nobody) area
        each zero l = held_area 0 x tx (omega arith)
        each (suc zero) l = held_area 1 y ty (omega arith)
        each (suc (suc zero)) l = held_area 2 z tz (omega arith)
        each (suc (suc (suc area))) l = absurd (omega arith)
