-- `reduce_listed`: the user's part of the lists is cut as in a run, what it loses is taken off in the bytes, and noted in a log that is given. Assumes nothing.
use Rattle.base.specs.Basics.{◌≡◌, refl, sym, ap, ◌∙◌, true, arith, get_or, not-false, not-true}
use Rattle.book_format.specs.Book.{book_of, count_of_users, users_of}
use Rattle.log_format.proofs.Read.{fits_facts}
use Rattle.log_lent.specs.Lent.{room_in}
use Rattle.rules.specs.Book.{nobody}
use Rattle.rules.specs.Calls.{Answer, answer_of_cuts}
use Rattle.rules.specs.Reduction.{cuts}
use Rattle.run_reduction.proofs.Filled.{no_cuts}
use Rattle.run_reduction.proofs.Steps.{part_few, part_rises, reducible, run_prices, sales_in}
use Rattle.call_reduction.specs.Call.{room_asked}
use Rattle.call_reduction.proofs.Cuts.{own_cuttable, own_full, own_reduced, own_refused, user_reached, user_run}
use Rattle.call_reduction.proofs.Entry.{noted_refused, own_notable, own_noted}
use Rattle.call_reduction.proofs.Ways.{room_free, room_full}
use Rattle.call_reduction.proofs.reduce_listed.Goals as goal
use Rattle.call_reduction.proofs.reduce_listed.Goals.{After-user_count-n, Else-not-has_room}

-- the number of users
users-are : (c : goal.After-user_count-n) → c.user_count-n.result ≡ count_of_users c.args.book.now
users-are c = c.user_count-n.ensures

-- there is room for the entry
free : (c : goal.Else-not-has_room) → let a = c.args in room_in a.with_log a.log.now ≡ true
free c = sym c.has_room.ensures ∙ not-false _ c.if-not-has_room.false-raw

pub any_left-requires : goal.any_left-requires
any_left-requires c = (part_few (user_run c.requires.user_of c.requires.listed) c.requires.user_of.inside, c.requires.listed.room.standing_room)

pub returns-then-not-any_left : goal.returns-then-not-any_left
returns-then-not-any_left c = let a = c.args in
    let left = c.any_left in record {
      gives = own_refused c.requires.user_of c.requires.listed (room_asked a.with_log a.log.now) a.asked.0 left.ensures c.if-not-any_left.true refl;
      log_after = noted_refused a.with_log (cuts (book_of a.book.now) (get_or (users_of a.book.now) a.place nobody) a.asked.0) a.book.now a.book.now a.log.now (λ z. omega (arith, z)) refl;
    }

pub has_room-requires : goal.has_room-requires
has_room-requires c = λ e. (fits_facts c.args.log.now c.args.book.now (c.requires.t e)).size

pub returns-then-not-has_room : goal.returns-then-not-has_room
returns-then-not-has_room c = let a = c.args in
    let left = c.any_left in record {
      gives = own_full c.requires.user_of c.requires.listed (room_asked a.with_log a.log.now) a.asked.0 left.ensures c.if-not-any_left.false
          (room_full a.log.now a.with_log (sym c.has_room.ensures ∙ not-true _ c.if-not-has_room.true-raw)) refl;
      log_after = noted_refused a.with_log (cuts (book_of a.book.now) (get_or (users_of a.book.now) a.place nobody) a.asked.0) a.book.now a.book.now a.log.now (λ z. omega (arith, z)) refl;
    }

pub reduce-tally-requires : goal.reduce-tally-requires
reduce-tally-requires c = let q = user_run c.requires.user_of c.requires.listed in
    let h = user_reached c.requires.user_of c.requires.listed in
    let k = c.requires.user_of.inside in
    record { in_range = (run_prices q, sales_in q k h, reducible q k h); no_cuts = (no_cuts _ _ (part_rises q k) (part_few q k), refl) }

pub user_count-n-requires : goal.user_count-n-requires
user_count-n-requires c = omega (arith, c.requires.user_of.book.accepted.held.form.head)

pub apply-requires : goal.apply-requires
apply-requires c = let a = c.args in
    record { book_in = (c.requires.user_of.book, own_cuttable c.requires.user_of c.requires.listed (room_asked a.with_log a.log.now) a.asked.0 _ _ c.reduce-tally.ensures.cuts_after refl); n_value = users-are (goal.at.apply-requires c).After-user_count-n }

pub note-requires : goal.note-requires
note-requires c = let a = c.args in
    own_notable c.requires.user_of c.requires.listed (room_asked a.with_log a.log.now) a.asked.0 _ _ c.reduce-tally.ensures.cuts_after refl
    c.requires.t (free (goal.at.note-requires c).Else-not-has_room) c.apply.auto.book

pub returns : goal.returns
unfolding answer_of_cuts
returns c = let a = c.args in
    let left = c.any_left in
    let last = room_asked a.with_log a.log.now in record {
      gives = own_reduced c.requires.user_of c.requires.listed last a.asked.0 _ _ c.reduce-tally.ensures.cuts_after refl left.ensures c.if-not-any_left.false
          (room_free a.log.now a.with_log (free (goal.at.returns c).Else-not-has_room)) c.reduce-tally.ensures.result_value c.apply.ensures c.of_cuts.ensures;
      log_after = own_noted c.requires.user_of c.requires.listed last a.asked.0 _ _ c.reduce-tally.ensures.cuts_after refl a.with_log (λ j. (c.slice_known-2-1.given j).fits)
          c.requires.t (free (goal.at.returns c).Else-not-has_room) c.note.ensures
          (ap (λ (x : Answer). x.number) c.of_cuts.ensures);
    }
