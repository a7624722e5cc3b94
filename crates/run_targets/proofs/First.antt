-- Targets before the first reduction: called in or not, and the loop over the users. Assumes nothing.
use Rattle.base.specs.Basics.{◌≡◌, refl, sym, ap, ap₂, ◌∙◌, Bool, true, false, cond, ◌&&◌, ◌||◌, List, ℕ, suc, ◌+◌, ◌≤◌, ◌<◌, add-one}
use Rattle.base.specs.Basics.{arith, ltb, length, get_or, set, length-set}
use Rattle.laws_sales.specs.Parties.{cut_before}
use Rattle.book_format.specs.Book.{book_of, users_of}
use Rattle.laws_sales.specs.Borne.{borne_book}
use Rattle.risk_bearers.proofs.Borne.{length-users_in}
use Rattle.risk_bearers.specs.Bearers.{trades_in, users_in}
use Rattle.risk_user.proofs.Borne.{members_borne, party_borne}
use Rattle.rules.specs.Areas.{Prices}
use Rattle.rules.specs.Book.{Book, Party, User}
use Rattle.rules.specs.Levels.{Limits, Holding, holding, shipper, exceeds_its_margin, level_from, flagged_from}
use Rattle.base.specs.Lists.{any}
use Rattle.rules.specs.Reduction.{has_eligible, target}
use Rattle.laws_sales.proofs.Listed.{starts_rise}
use Rattle.base.proofs.Stores.{set_front}
use Rattle.run_state.proofs.Reduced.{cond-and, short_rules}
use Rattle.run_state.proofs.Stays.{alike_first, flagged_is, stays_first, target_is}
use Rattle.run_state.specs.Asked.{member_at}
use Rattle.risk_user.specs.UserAt.{flagged_at, target_of_place}
use Rattle.run_state.specs.Going.{OwedOf, owed, owed_called}
use Rattle.run_targets.specs.Asking.{Opening, owed_if}
use Rattle.laws_sales.proofs.Cover.{has_eligible_sales}
use Rattle.laws_sales.specs.Cover.{due, short_from}
use Rattle.laws_sales.specs.Groups.{standings, starts}
use Rattle.laws_sales.specs.Parts.{part}

-- ---- T or 0, by cases

pub first_none : (flagged below : Bool) (t : ℕ) {left : Bool} → left ≡ false → 0 ≡ owed_if flagged left below t
unfolding owed_if
first_none flagged below t e = rw e

module _ (t : ℕ) {left : Bool} (l : left ≡ true) where
  pub first_called : (flagged below : Bool) {r : Bool} → r ≡ (flagged || below) → r ≡ true → t ≡ owed_if flagged left below t
  unfolding owed_if
  first_called flagged below g e = rw (l, sym g ∙ e)

  pub first_uncalled : (flagged below : Bool) {r : Bool} → r ≡ (flagged || below) → r ≡ false → 0 ≡ owed_if flagged left below t
  unfolding owed_if
  first_uncalled flagged below g e = rw (l, sym g ∙ e)

-- of a user that is party to a trade standing below notified
pub owed_cut : (flagged left : Bool) (t : ℕ) → owed_if flagged left true t ≡ cond left t 0
unfolding owed_if
owed_cut true left t = refl
owed_cut false left t = refl

-- ---- it is what the rules say

-- short of cover is called in, and short of cover as one who is
called_in_lem : (limits : Limits) (f : Prices) (u : User) (h : ℕ → Holding) (below e : Bool) (t : ℕ)
    → cond e (cond (flagged_from limits f u h || below) (cond (short_from limits f u h true) t 0) 0) 0 ≡ cond (short_from limits f u h below && e) t 0
unfolding short_from
called_in_lem limits f u h below e t =
    let r = exceeds_its_margin limits (level_from limits f u h) u && ltb u.party.assigned (level_from limits f u h) in
    ap (λ (n : ℕ). cond e n 0) (go (shipper u) (flagged_from limits f u h) below r) ∙ sym (cond-and (short_from limits f u h below) e t)
  where
    go : (a g c r : Bool) → cond (g || c) (cond ((a && (g || true)) && r) t 0) 0 ≡ cond ((a && (g || c)) && r) t 0
    go true true c r = refl
    go true false true r = refl
    go true false false r = refl
    go false true c r = refl
    go false false true r = refl
    go false false false r = refl

module _ {limits : Limits} {f : Prices} {n : ℕ} {s sums ps ss ns : List ℕ} {flags : List Bool} (p : Opening limits f n s sums ps ss ns flags) where
  -- the users are n, at most 64
  pub member_in : {i : ℕ} → i < n → i < length (users_in s)
  member_in h = omega (arith, length-users_in s, p.users_are)

  pub member_few : {i : ℕ} → i < length (users_in s) → i < 64
  member_few h = omega (arith, length-users_in s, p.risk.opened.accepted.held.form.users)

  pub members_end : {i : ℕ} → n ≤ i → length (book_of s).users ≤ i
  members_end h = omega (arith, members_borne (book_of s), length-users_in s, p.users_are)

module _ {limits : Limits} {f : Prices} {n : ℕ} {s sums ps ss ns : List ℕ} {flags : List Bool} (p : Opening limits f n s sums ps ss ns flags) (i : ℕ) (k : i < length (users_in s)) where
  -- where the user's own sales start and end
  pub start_is : get_or ss i 0 ≡ starts (borne_book (book_of s)) i
  start_is = p.starts_at i (omega arith)

  pub end_is : get_or ss (i + 1) 0 ≡ starts (borne_book (book_of s)) (suc i)
  end_is = rw add-one (p.starts_at (suc i) (omega arith))

  pub end_few : get_or ss (i + 1) 0 ≤ 256
  end_few = omega (arith, end_is, starts_rise (borne_book (book_of s)) (suc i) (length (users_in s)) (omega arith) (omega arith), p.few)

  -- an eligible trade
  pub left_is : {left : Bool} → left ≡ any (λ m. ltb 0 m) (part (get_or ss i 0) (get_or ss (i + 1) 0) ns) → left ≡ has_eligible (book_of s) (member_at (book_of s) i)
  left_is e =
      e ∙ ap₂ (λ (a b : ℕ). any (λ m. ltb 0 m) (part a b ns)) start_is end_is ∙ ap (any (λ m. ltb 0 m)) (p.standing.each i k)
      ∙ ap (λ (q : Party). any (λ m. ltb 0 m) (standings (trades_in s) q.id)) (party_borne (book_of s) i) ∙ sym (has_eligible_sales (book_of s) (member_at (book_of s) i))

  pub first_is : {left : Bool} → left ≡ has_eligible (book_of s) (member_at (book_of s) i)
      → owed_if (flagged_at limits f (users_of s) ps i) left (get_or flags i false) (target_of_place limits f (users_of s) sums ps i) ≡ owed limits (book_of s) (member_at (book_of s) i)
  unfolding owed_if book_of due
  first_is {left} e =
      let b = book_of s in
      let twelve = p.risk.sums_are.twelve in
      let u = member_at b i in
      let l : i < length b.users = omega (arith, members_borne b) in
      let t = stays_first b p.risk.opened.accepted.sound in
      let a = alike_first b p.risk.opened.accepted.sound in
      let g = b.header.prices in
      let below = cut_before u.party.id (trades_in s) in
      let called = flagged_from limits g u (holding b u) || below in
      let flag : flagged_at limits f (users_of s) ps i ≡ flagged_from limits g u (holding b u)
      = ap (λ (x : Prices). flagged_at limits x (users_of s) ps i) p.risk.prices_are ∙ flagged_is t a twelve p.positions i l limits in
      let goal : target_of_place limits f (users_of s) sums ps i ≡ owed_called limits b u
      = ap (λ (x : Prices). target_of_place limits x (users_of s) sums ps i) p.risk.prices_are ∙ target_is t a twelve p.positions i l limits in
      ap (λ (x : Bool). cond x (cond (flagged_at limits f (users_of s) ps i || get_or flags i false) (target_of_place limits f (users_of s) sums ps i) 0) 0) e
      ∙ ap₂ (λ (x y : Bool). cond (has_eligible b u) (cond (x || y) (target_of_place limits f (users_of s) sums ps i) 0) 0) flag
      (p.below.each i k ∙ ap (λ (q : Party). cut_before q.id (trades_in s)) (party_borne b i))
      ∙ ap (λ (m : ℕ). cond (has_eligible b u) (cond called m 0) 0) goal
      ∙ called_in_lem limits g u (holding b u) below (has_eligible b u) (target limits b u)
      ∙ ap (λ (x : Bool). cond (x && has_eligible b u) (target limits b u) 0) (sym (short_rules limits b u))

-- ---- all users

-- the first i users have their targets
pub record FilledTo (limits : Limits) (b : Book) (i : ℕ) (ts : List ℕ) (es : List Bool) : Type 0 where
  pub targets_room : length ts ≡ 64
  pub eligible_room : length es ≡ 64
  pub target_at : (j : ℕ) → j < i → get_or ts j 0 ≡ owed limits b (member_at b j)
  pub open_at : (j : ℕ) → j < i → get_or es j false ≡ has_eligible b (member_at b j)

module _ (limits : Limits) (b : Book) where
  pub filled_start : {ts : List ℕ} {es : List Bool} → length ts ≡ 64 → length es ≡ 64 → FilledTo limits b 0 ts es
  filled_start x y = record { targets_room = x; eligible_room = y; target_at = λ j h. absurd (omega arith); open_at = λ j h. absurd (omega arith) }

  pub filled_more : {i : ℕ} {ts : List ℕ} {es : List Bool} (t : ℕ) (e : Bool) → i < 64 → t ≡ owed limits b (member_at b i) → e ≡ has_eligible b (member_at b i)
      → FilledTo limits b i ts es → FilledTo limits b (i + 1) (set ts i t) (set es i e)
  filled_more {i} {ts} {es} t e l x y p =
      record {
        targets_room = length-set ts i t ∙ p.targets_room;
        eligible_room = length-set es i e ∙ p.eligible_room;
        target_at = set_front (λ j n. n ≡ owed limits b (member_at b j)) ts i t 0 (omega (arith, p.targets_room)) x p.target_at;
        open_at = set_front (λ j c. c ≡ has_eligible b (member_at b j)) es i e false (omega (arith, p.eligible_room)) y p.open_at;
      }

  pub filled_end : {i : ℕ} {ts : List ℕ} {es : List Bool} → length b.users ≤ i → FilledTo limits b i ts es → OwedOf limits b ts es × (length ts ≡ 64) × (length es ≡ 64)
  filled_end h p = (record { target_at = λ j k. p.target_at j (omega arith); open_at = λ j k. p.open_at j (omega arith) }, p.targets_room, p.eligible_room)
