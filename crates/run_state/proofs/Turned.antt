-- A reduction of a user that is due, in the arrays of a run: they are those of the rules' book after it, and no target before the least place that was asked anew has changed.
-- Assumes nothing.
use Rattle.base.specs.Basics.{◌≡◌, refl, sym, ap, ap₂, subst, ◌∙◌, Bool, true, false, cond, ◌&&◌, List, map, ℕ, suc, ◌≤◌, ◌<◌, arith, T, ltb, length, get_or, set}
use Rattle.base.specs.Basics.{length-set}
use Rattle.book_format.specs.Steps.{place_of}
use Rattle.base.proofs.{Linear.by_order, Tests.all_by, Tests.by_case, Stores.here_or_apart, Stores.set_each}
use Rattle.laws.proofs.{Run.Ran, Run.reduced_by_law, Trades.framed, Trades.lowered_trans, Users.trade_is_valid-map}
use Rattle.laws.specs.{Sound.Sound, Books.repositioned, Trades.Lowered, Trades.Pairwise}
use Rattle.rules.specs.{Book.Book, Book.Party, Book.Trade, Book.User, Book.nobody, Levels.Limits, Reduction.has_eligible, Reduction.target, Reduction.with_trades}
use Rattle.rules.specs.{Calls.reduced, Calls.reduced_by, Questions.trade_is_valid}
use Rattle.base.specs.Lists.{all, any}
use Rattle.run_state.proofs.Moves.{all_moved, moved_length}
use Rattle.run_state.proofs.{Own.own_areas, Own.own_buyers, Stays.Alike, Stays.Stays, Stays.alike_borne, Stays.stays, Stays.target_is, Stays.users_many}
use Rattle.run_state.proofs.Reduced.{apart, asked_other, asked_own, eligible_left, eligible_own, law, member_stays, members_stay}
use Rattle.risk_user.proofs.Borne.{members_borne, party_borne}
use Rattle.run_state.specs.Asked.{member_at, LookedAgain, moved_all, touched}
use Rattle.run_state.specs.Going.{Going, OwedOf, SalesIn, StandingIn, owed, owed_called}
use Rattle.risk_user.specs.UserAt.{PositionsOf, target_of_place}
use Rattle.book_sums.specs.Twelve.{TwelveOf}
use Rattle.laws_sales.proofs.{Again.retraded_again, Listed.starts_rise, Numbers.standing_cut, Parts.Around, Parts.part_before, Parts.part_behind}
use Rattle.laws_sales.specs.{Borne.borne_book, Borne.borne_result, Borne.borne_user, Cover.due, Groups.standings, Groups.starts, Reduced.own_sales, Reduced.own_cuts}
use Rattle.laws_sales.specs.{Parts.part, Sales.less, Sales.sales_of}

-- a user with something owed is due, and owes its target
pub owed-due : (limits : Limits) (b : Book) (u : User) {n : ℕ} → n ≡ owed limits b u → 0 < n → (due limits b u ≡ true) × (n ≡ target limits b u)
owed-due limits b u {n} e h = by_case (due limits b u) (λ x. (x, rw x at e)) (λ x. let z : n ≡ 0 = rw x at e in absurd (omega arith))

module _ {limits : Limits} {o b : Book} {ns ps ts : List ℕ} {es : List Bool} (first : Sound o) (h : Going limits o b ns ps ts es) (place : ℕ) (k : place < length b.users) where
  abbrev user : User
  user = get_or b.users place nobody

  abbrev asked : ℕ
  asked = target limits b (get_or b.users place nobody)

  abbrev after : Book
  after = (reduced_by b (get_or b.users place nobody) (target limits b (get_or b.users place nobody))).book

  -- the opening book, the book, the user, its own sales and their cuts, as the risk is borne
  abbrev bo : Book
  bo = borne_book o

  abbrev bb : Book
  bb = borne_book b

  abbrev ub : User
  ub = borne_user b.users (get_or b.users place nobody)

  abbrev cuts : List ℕ
  cuts = own_cuts (borne_book b) (borne_user b.users (get_or b.users place nobody)) (target limits b (get_or b.users place nobody))

  abbrev buyers : List ℕ
  buyers = map (λ s. place_of (borne_book b).users s.terms.buyer) (own_sales (borne_book b) (borne_user b.users (get_or b.users place nobody)))

  abbrev codes : List ℕ
  codes = map (λ s. s.terms.area) (own_sales (borne_book b) (borne_user b.users (get_or b.users place nobody)))

  pub now_stays : Stays o b
  now_stays = stays o b first h.lowered h.same

  pub now_alike : Alike (borne_book o) (borne_book b)
  now_alike = alike_borne now_stays (framed h.borne)

  real : Ran b (reduced_by b user asked)
  real = reduced_by_law b user asked h.sound

  -- ---- the book

  trades_valid : T (all (trade_is_valid o.users) b.trades)
  unfolding repositioned
  trades_valid =
      let g = repositioned b.trades in
      all_by (trade_is_valid b.users) (trade_is_valid o.users)
      (λ t v. subst T (ap (λ (us : List User). trade_is_valid us t) now_stays.users ∙ trade_is_valid-map g (λ u. refl) o.users t) v)
      b.trades h.sound.trades

  after_same : after ≡ with_trades o after.trades
  unfolding reduced_by with_trades
  after_same =
      let ms = after.trades in
      ap (λ (x : Book). with_trades x ms) h.same ∙ retraded_again o b.trades ms first (framed h.lowered) trades_valid (framed real.lowered)

  after_lowered : Pairwise Lowered o.trades after.trades
  after_lowered = lowered_trans h.lowered real.lowered

  after_borne : Pairwise Lowered bo.trades (borne_book after).trades
  unfolding borne_result
  after_borne = lowered_trans h.borne (law limits b h.sound place k).lowered

  after_stays : Stays o after
  after_stays = stays o after first after_lowered after_same

  after_alike : Alike (borne_book o) (borne_book after)
  after_alike = alike_borne after_stays (framed after_borne)

  -- ---- what stands

  same_members : length after.users ≡ length b.users
  same_members = members_stay limits b h.sound place k

  -- the user's part has what stands after the cuts, and the others have not changed
  module _ {ms cs : List ℕ} (long : length ms ≡ 256) (few : length b.users ≤ 64) (c : cs ≡ cuts)
      (own : part (starts (borne_book o) place) (starts (borne_book o) (suc place)) ms ≡ less cs (part (starts (borne_book o) place) (starts (borne_book o) (suc place)) ns)) (only : Around (starts (borne_book o) place) (starts (borne_book o) (suc place)) ns ms) where
    standing_own : part (starts (borne_book o) place) (starts (borne_book o) (suc place)) ms ≡ standings (borne_book after).trades user.party.id
    unfolding borne_result borne_user
    standing_own =
        own ∙ ap₂ less c (h.standing.each place (omega (arith, members_borne b)) ∙ ap (λ (q : Party). standings bb.trades q.id) (party_borne b place)) ∙ sym (standing_cut cuts (own_sales bb ub))
        ∙ ap (map (λ (t : Trade). t.standing)) (sym (law limits b h.sound place k).own)

    -- another user's
    standing_other : (i : ℕ) → i < length b.users → (i ≡ place → ⊥) → part (starts (borne_book o) i) (starts (borne_book o) (suc i)) ms ≡ part (starts (borne_book o) i) (starts (borne_book o) (suc i)) ns
    standing_other i l n =
        let many = users_many now_stays in
        let all = members_borne o in
        by_order i place
        (λ m. part_before only (starts (borne_book o) i) (starts (borne_book o) (suc i)) (starts_rise bo i (suc i) (omega arith) (omega arith)) (starts_rise bo (suc i) place (omega arith) (omega arith)))
        (λ m. part_behind only (starts (borne_book o) i) (starts (borne_book o) (suc i))
        (starts_rise bo (suc place) i (by_order place i (λ x. omega arith) (λ x. absurd (n (omega arith)))) (omega arith)))

    standing_after_lem : StandingIn (borne_book o) (borne_book after) ms
    unfolding borne_result borne_user
    standing_after_lem =
        record {
          each = λ i l.
              let m : i < length b.users = omega (arith, same_members, members_borne after) in
              let party : (member_at (borne_book after) i).party.id ≡ (member_at b i).party.id = ap (λ (p : Party). p.id) (party_borne after i ∙ member_stays limits b h.sound place k i) in
              here_or_apart (λ (j : ℕ). part (starts (borne_book o) j) (starts (borne_book o) (suc j)) ms ≡ standings (borne_book after).trades (member_at b j).party.id) place i standing_own
              (λ n. standing_other i m n ∙ h.standing.each i (omega (arith, members_borne b)) ∙ ap (λ (q : Party). standings bb.trades q.id) (party_borne b i)
              ∙ ap (map (λ (t : Trade). t.standing)) (sym ((law limits b h.sound place k).other (member_at b i).party.id (apart limits b h.sound place k i m n))))
              ∙ ap (standings (borne_book after).trades) (sym party);
        }

    -- ---- who is due

    module _ (is_due : due limits b user ≡ true) {sums qs ss area_codes bs : List ℕ} (w : TwelveOf (borne_book o).users (borne_book o).trades sums) (q : SalesIn (borne_book o) ss area_codes bs)
        (moved : qs ≡ moved_all place (part (starts (borne_book o) place) (starts (borne_book o) (suc place)) bs) (part (starts (borne_book o) place) (starts (borne_book o) (suc place)) area_codes) cs ps) where
      moved_room : length qs ≡ 192
      moved_room = ap length moved ∙ moved_length place (part (starts (borne_book o) place) (starts (borne_book o) (suc place)) bs) (part (starts (borne_book o) place) (starts (borne_book o) (suc place)) area_codes) cs ps ∙ h.rooms.positions

      -- the buyers and the areas of the user's own sales
      buyers_are : part (starts (borne_book o) place) (starts (borne_book o) (suc place)) bs ≡ buyers
      unfolding borne_user
      buyers_are = own_buyers now_alike q place (omega (arith, members_borne b)) ∙ ap (λ (x : Party). map (λ s. place_of bb.users s.terms.buyer) (sales_of bb.trades x.id)) (party_borne b place)

      codes_are : part (starts (borne_book o) place) (starts (borne_book o) (suc place)) area_codes ≡ codes
      unfolding borne_user
      codes_are = own_areas now_alike q place (omega (arith, members_borne b)) ∙ ap (λ (x : Party). map (λ s. s.terms.area) (sales_of bb.trades x.id)) (party_borne b place)

      positions_after : PositionsOf (borne_book after).users qs
      positions_after =
          let e : moved_all place (part (starts (borne_book o) place) (starts (borne_book o) (suc place)) bs) (part (starts (borne_book o) place) (starts (borne_book o) (suc place)) area_codes) cs ps
          ≡ moved_all place buyers codes cuts ps
          = ap₂ (λ (xs ys : List ℕ). moved_all place xs ys cs ps) buyers_are codes_are ∙ ap (λ (xs : List ℕ). moved_all place buyers codes xs ps) c in
          subst (λ (xs : List ℕ). PositionsOf (borne_book after).users xs) (sym (moved ∙ e)) (all_moved b h.sound place k asked ps (omega (arith, h.rooms.positions)) h.positions)

      -- what a user that is called in owes, from the arrays
      abbrev now : ℕ → ℕ
      now j = target_of_place limits o.header.prices o.users sums qs j

      now_is : (j : ℕ) → j < length b.users → target_of_place limits o.header.prices o.users sums qs j ≡ owed_called limits after (member_at after j)
      now_is j l = target_is after_stays after_alike w positions_after j (omega (arith, same_members)) limits

      module _ {mid : List ℕ} {least : ℕ} {left : Bool}
          (look : LookedAgain (λ j. target_of_place limits o.header.prices o.users sums qs j) es (part (starts (borne_book o) place) (starts (borne_book o) (suc place)) bs) cs ts mid least)
          (is-left : left ≡ any (λ n. ltb 0 n) (part (starts (borne_book o) place) (starts (borne_book o) (suc place)) ms)) where
        left_is : left ≡ has_eligible after (member_at after place)
        left_is = is-left ∙ ap (any (λ n. ltb 0 n)) standing_own ∙ sym (eligible_own limits b h.sound place k)

        target_other : (j : ℕ) → j < length b.users → (j ≡ place → ⊥) → get_or mid j 0 ≡ owed limits after (member_at after j)
        target_other j l n =
            look.each j (omega arith)
            ∙ ap₂ (λ (xs ys : List ℕ). cond (touched j xs ys && get_or es j false) (now j) (get_or ts j 0)) buyers_are c
            ∙ ap₂ (λ (x : Bool) (m : ℕ). cond (touched j buyers cuts && x) m (get_or ts j 0)) (h.owed.open_at j l) (now_is j l)
            ∙ ap (λ (m : ℕ). cond (touched j buyers cuts && has_eligible b (member_at b j)) (owed_called limits after (member_at after j)) m) (h.owed.target_at j l)
            ∙ sym (asked_other limits b h.sound place k j l n)

        owed_after : OwedOf limits after (set mid place (cond left (now place) 0)) (set es place left)
        owed_after =
            record {
              target_at = λ j l.
                  set_each (λ m x. m < length b.users → x ≡ owed limits after (member_at after m)) mid place (cond left (now place) 0) 0 (omega (arith, look.room))
                  (λ m. ap₂ (λ (x : Bool) (n : ℕ). cond x n 0) left_is (now_is place k) ∙ sym (asked_own limits b h.sound place k is_due))
                  (λ m n x. target_other m x n) j (omega (arith, same_members));
              open_at = λ j l.
                  set_each (λ m x. m < length b.users → x ≡ has_eligible after (member_at after m)) es place left false (omega (arith, h.rooms.eligible)) (λ m. left_is)
                  (λ m n x. h.owed.open_at m x ∙ sym (eligible_left limits b h.sound place k m x n)) j (omega (arith, same_members));
            }

        -- the run goes on with the rules' book
        pub turn_going : Going limits o (reduced limits b (get_or b.users place nobody)).book ms qs (set mid place (cond left (target_of_place limits o.header.prices o.users sums qs place) 0)) (set es place left)
        unfolding reduced
        turn_going =
            record {
              sound = real.sound;
              lowered = after_lowered;
              borne = after_borne;
              same = after_same;
              standing = standing_after_lem;
              positions = positions_after;
              owed = owed_after;
              rooms = record {
                standing = long;
                positions = moved_room;
                targets = length-set mid place (cond left (now place) 0) ∙ look.room;
                eligible = length-set es place left ∙ h.rooms.eligible;
              };
            }
