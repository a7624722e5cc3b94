-- `show` is refused with the number of the entry, or gives the record where the found user stands. Assumes nothing.
use Rattle.std.proofs.Common.{◌≡◌, sym, refl, arith, [], ℕ, ◌+◌, ◌-◌, ◌≤◌, length}
use Rattle.refusals.proofs.Numbers.{handed_on, refused-nonzero}
use Rattle.rules.specs.Queries.{about_query}
use Rattle.book_format.proofs.Places.{record_lies}
use Rattle.book_format.specs.Book.{book_of}
use Rattle.call_entry.proofs.Calls.{found_user}
use Rattle.call_show.proofs.Ways.{show_found, show_refused}
use Rattle.call_show.proofs.show.Goals as goal
use Rattle.call_show.proofs.show.Goals.{After-users_size-size}

pub returns-in_err-entry : goal.returns-in_err-entry
unfolding about_query
returns-in_err-entry c = let s = c.args.book.now in
    let id = c.args.id in
    let asked = c.in_err-entry.ensures.asked in
    let some = refused-nonzero c.in_err-entry.field-0.0 in
    rw (handed_on c.from_residual.ensures.1) record {
      shown_after = record { asked = asked; shows = sym (show_refused s id (λ n. []) _ _ asked some) };
      part_after = record { block = refl; offset = rw (show_refused s id {R = ℕ} (λ n. 0) _ _ asked some) (omega arith) };
    }

-- the record lies in the book
lies : (c : goal.After-users_size-size) → c.user_offset-a.result + c.users_size-size.result ≤ length c.args.book.now
lies c = omega (arith, c.user_offset-a.ensures.0, c.users_size-size.ensures.value, record_lies (found_user c.in_ok-entry.ensures.found.1))

pub returns : goal.returns
unfolding about_query book_of
returns c = let s = c.args.book.now in
    let id = c.args.id in
    let f = c.in_ok-entry.ensures.found in
    let a = c.user_offset-a.result in
    let size = c.users_size-size.result in
    let k : a + size - a ≡ size = omega arith in
    let o = c.user_offset-a.ensures.0 in record {
      shown_after = record {
        asked = c.in_ok-entry.ensures.asked;
        shows = rw (f.0, show_found s id (λ n. []) _ refl f.1, ← f.1.stands, k, o, c.users_size-size.ensures.value);
      };
      part_after = record { block = refl; offset = rw (f.0, show_found s id {R = ℕ} (λ n. 0) _ refl f.1, ← f.1.stands) (omega (arith, o)) };
    }

pub overflow_add-result : goal.overflow_add-result
overflow_add-result c = omega (arith, lies c, c.ranges)

pub slice_bounds-result-end : goal.slice_bounds-result-end
slice_bounds-result-end c = omega (arith, lies c)

pub user_offset-a-requires : goal.user_offset-a-requires
user_offset-a-requires c = found_user c.in_ok-entry.ensures.found.1
