-- The line at a place of the printed day is the line of the user at that place, and its fields are told one by one. Assumes nothing.
use mathlib.Core.Bool.{Bool, cond, ◌||◌}
use mathlib.Core.List.{List}
use mathlib.Core.Path.{◌≡◌, ap, ap₂, sym, ◌∙◌}
use Prim.Native.Nat.{ℕ, ◌<◌}
use native.Mathlib.Omega.{arith}
use lib.ListN.{get_or-map, get_or, length}
use Rattle.rules.specs.Areas.{Prices}
use Rattle.rules.specs.Book as model
use Rattle.rules.specs.Book.{Book, nobody}
use Rattle.rules.specs.Levels.{Limits, afternoon_level, called_in, shipper}
use Rattle.rules.specs.Day.{State, Line, lines, line, state, printed_level}
use Rattle.book_records.specs.declared.User.{User}
use Rattle.book_records.specs.User.{alone, as_user, as_amounts}
use Rattle.book_format.specs.Book.{book_of, users_of}
use Rattle.book_format.proofs.Passed.{length-users_of}
use Rattle.run_reduction.proofs.Steps.{accepted_day}
use Rattle.risk_user.proofs.Rules.{called_own, level_own, state_own}
use Rattle.book_format.specs.Places.{UserIn}
use Rattle.risk_user.specs.UserAt.{DayOf, flagged_at, level_of_place}
use Rattle.risk_user.specs.States.{state_by}
use Rattle.day_lines.specs.Lines.{LineAsked, line_in}

-- it is that of the user at the place
pub line_in_lem : (limits : Limits) (s : List ℕ) (place : ℕ) → line limits (book_of s) (get_or (users_of s) place nobody) ≡ line_in limits (book_of s) place
unfolding line_in lines book_of
line_in_lem limits s place = sym (get_or-map (line limits (book_of s)) (users_of s) place nobody)

-- a line of id, state, level and positions is a user's where id and positions are its record's, the state is, and the level is the afternoon's, or 0 of a clearing house
pub line_of : (limits : Limits) (b : Book) (r : User) (u : model.User) → as_user r ≡ alone u → {z : State} {level printed : ℕ}
    → z ≡ state limits b u → level ≡ afternoon_level limits b u → printed ≡ cond (shipper (as_user r)) level 0
    → ◌≡◌ {A = Line} (record { id = r.id; state = z; level = printed; position = as_amounts r.position }) (line limits b u)
unfolding line printed_level as_user alone shipper
line_of limits b r u e {z} {level} {printed} hs hl hp =
    let id_is : r.id ≡ u.party.id = ap (λ (x : model.User). x.party.id) e in
    let position_is : as_amounts r.position ≡ u.position = ap (λ (x : model.User). x.position) e in
    let printed_is : printed ≡ cond (shipper u) (afternoon_level limits b u) 0 = hp ∙ ap₂ (λ (c : Bool) (n : ℕ). cond c n 0) (ap shipper e) hl in
    rw (hs, printed_is, id_is, position_is)

-- ---- what a line is told from

module _ {limits : Limits} {f : Prices} {s sums ps : List ℕ} {place : ℕ} {below : Bool} (p : LineAsked limits f s sums ps place below) where
  member : place < length (users_of s)
  member = omega (arith, length-users_of s, p.inside)

  pub line_day : DayOf limits f s
  line_day = accepted_day p.risk.opened p.risk.prices_are

  pub line_user : UserIn s place
  line_user = record { form = p.risk.opened.accepted.held.form; inside = p.inside }

  -- the level is the user's
  pub line_level : {level : ℕ} → level ≡ level_of_place limits f (users_of s) sums ps place → level ≡ afternoon_level limits (book_of s) (get_or (users_of s) place nobody)
  unfolding book_of
  line_level h =
      h ∙ ap (λ (g : Prices). level_of_place limits g (users_of s) sums ps place) p.risk.prices_are ∙ level_own (book_of s) p.risk.sums_are.twelve p.positions place member limits

  -- and the state
  pub line_state : {level : ℕ} {called : Bool} {z : State} → level ≡ level_of_place limits f (users_of s) sums ps place → called ≡ (flagged_at limits f (users_of s) ps place || below)
      → z ≡ state_by limits (get_or (users_of s) place nobody) level called → z ≡ state limits (book_of s) (get_or (users_of s) place nobody)
  unfolding book_of
  line_state {level} {called} h c z =
      let u = get_or (users_of s) place nobody in
      let called_is : called ≡ called_in limits (book_of s) u
      = called_own (book_of s) p.risk.sums_are.twelve p.positions place member limits (c ∙ ap (λ (g : Prices). flagged_at limits g (users_of s) ps place || below) p.risk.prices_are) p.below_is in
      z ∙ state_own limits (book_of s) u (line_level h) called_is
