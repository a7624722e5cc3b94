-- What is read of a user of a book is what the rules say of it: level, flag, called in and state. Assumes nothing.
use Rattle.base.specs.Basics.{◌≡◌, refl, sym, ap, ap₂, ◌∙◌, Bool, true, false, cond, ◌&&◌, ◌||◌, List, ℕ, ◌+◌, ◌*◌, ◌<◌, arith, leb, ltb, length}
use Rattle.base.specs.Basics.{get_or}
use Rattle.laws_sales.specs.Parties.{cut_before}
use Rattle.laws.specs.Statements.{own_holding}
use Rattle.laws_sales.proofs.Sums.{held_borne}
use Rattle.laws_sales.specs.Borne.{borne_book}
use Rattle.risk_user.proofs.Borne.{member_borne, members_borne}
use Rattle.book_sums.specs.Twelve.{TwelveOf}
use Rattle.rules.specs.Book.{Book, User, nobody}
use Rattle.rules.specs.Day.{call, call_due, clear, quiet, short, state}
use Rattle.rules.specs.Levels.{Limits, Holding, afternoon_level, called_in, exceeds_its_margin, exposure, flagged, holding, shipper, short_of_cover}
use Rattle.laws_sales.proofs.Cover.{cut_borne_before, flagged_next, level_next}
use Rattle.laws_sales.specs.Cover.{AllNext}
use Rattle.risk_user.specs.UserAt.{PositionsOf, flagged_at, held_at, level_of_place}
use Rattle.risk_user.specs.States.{state_by}

module _ (b : Book) {sums ps : List ℕ} (w : TwelveOf (borne_book b).users (borne_book b).trades sums) (p : PositionsOf (borne_book b).users ps) (i : ℕ) (k : i < length b.users) where
  -- what the user holds
  held_own : AllNext (held_at sums ps i) (holding b (get_or b.users i nobody))
  unfolding held_at own_holding
  held_own =
      let l : i < length (borne_book b).users = omega (arith, members_borne b) in
      let one : (area : ℕ) → own_holding (borne_book b) (get_or (borne_book b).users i nobody) area ≡ holding b (get_or b.users i nobody) area
      = λ area. ap (λ (u : User). own_holding (borne_book b) u area) (member_borne b i k) ∙ sym (held_borne b (get_or b.users i nobody) area) in
      record {
        each = λ area h. record {
          position = p.each i area l h ∙ ap (λ (x : Holding). x.position) (one area);
          sold = w.sold_at i area 1 l h (omega arith) ∙ ap (λ (x : Holding). x.sold_next) (one area);
          bought = ap (λ (n : ℕ). get_or sums n 0) (next area) ∙ w.bought_at i area 1 l h (omega arith) ∙ ap (λ (x : Holding). x.bought_next) (one area);
        };
      }
    where
      next : (area : ℕ) → 12 * i + 9 + area ≡ 12 * i + 6 + 3 * 1 + area
      next area = omega arith

  module _ (limits : Limits) where
    pub level_own : level_of_place limits b.header.prices b.users sums ps i ≡ afternoon_level limits b (get_or b.users i nobody)
    unfolding level_of_place afternoon_level
    level_own = level_next held_own limits b.header.prices (get_or b.users i nobody)

    -- flagged, or party to a trade standing below notified
    pub called_own : {r below : Bool} → r ≡ (flagged_at limits b.header.prices b.users ps i || below) → below ≡ cut_before (get_or b.users i nobody).party.id (borne_book b).trades
        → r ≡ called_in limits b (get_or b.users i nobody)
    unfolding flagged_at held_at exposure called_in flagged
    called_own {r} {below} e c =
        e ∙ ap₂ (λ (x y : Bool). x || y) (flagged_next held_own limits b.header.prices (get_or b.users i nobody)) (c ∙ sym (cut_borne_before limits b (get_or b.users i nobody)))

module _ (limits : Limits) (b : Book) (u : User) {level : ℕ} (e : level ≡ afternoon_level limits b u) where
  pub state_own : {called : Bool} → called ≡ called_in limits b u → state_by limits u level called ≡ state limits b u
  unfolding state_by state short_of_cover call_due
  state_own c = rw (e, c) (go (shipper u))
    where
      go : (x : Bool) → cond x (cond (called_in limits b u && (exceeds_its_margin limits (afternoon_level limits b u) u && ltb u.party.assigned (afternoon_level limits b u))) short
          (cond (called_in limits b u && (exceeds_its_margin limits (afternoon_level limits b u) u && leb (afternoon_level limits b u) u.party.assigned)) call quiet)) clear
          ≡ cond x (cond ((x && called_in limits b u) && (exceeds_its_margin limits (afternoon_level limits b u) u && ltb u.party.assigned (afternoon_level limits b u))) short
          (cond (called_in limits b u && (exceeds_its_margin limits (afternoon_level limits b u) u && leb (afternoon_level limits b u) u.party.assigned)) call quiet)) clear
      go true = refl
      go false = refl
