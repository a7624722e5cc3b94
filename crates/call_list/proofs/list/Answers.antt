-- `list` hands on a refusal of the opening questions; else it lists the ids of the book's users and posts the lines. Assumes nothing.
use Rattle.base.specs.Basics.{◌≡◌, refl, arith}
use Rattle.std.proofs.lemmas.Result.{IfOk-at_ok}
use Rattle.refusals.proofs.Numbers.{handed_on, refused-nonzero}
use Rattle.refusals.specs.Refusal.{number_of}
use Rattle.book_format.specs.Questions.{book_number}
use Rattle.book_format.proofs.Passed.{passed}
use Rattle.call_list.proofs.Turns.{listed_posted, listed_refused}
use Rattle.call_list.specs.Lines.{Even}
use Rattle.call_list.proofs.list.Goals as goal
use Rattle.call_list.proofs.list.Goals.{In_ok-opened}

pub returns-in_err-opened : goal.returns-in_err-opened
returns-in_err-opened c = let e = c.in_err-opened.field-0.0 in
    rw (c.in_err-opened.was, handed_on c.from_residual.ensures.1) (listed_refused (number_of e) (refused-nonzero e))

-- the book passes its questions
passes : (c : goal.In_ok-opened) → book_number c.args.book.now ≡ 0
passes c = IfOk-at_ok (λ limits. book_number c.args.book.now ≡ 0) c.in_ok-opened.was c.requires.book_value

pub user_count-n-requires : goal.user_count-n-requires
user_count-n-requires c = omega (arith, (passed c.args.book.now (passes (goal.at.user_count-n-requires c).In_ok-opened)).form.head)

pub users_offset-at-requires : goal.users_offset-at-requires
users_offset-at-requires c = (passed c.args.book.now (passes (goal.at.users_offset-at-requires c).In_ok-opened)).form.head

pub users_size-size-requires : goal.users_size-size-requires
users_size-size-requires c = (passed c.args.book.now (passes (goal.at.users_size-size-requires c).In_ok-opened)).form.head

pub fill_ids-requires : goal.fill_ids-requires
fill_ids-requires c = (passes (goal.at.fill_ids-requires c).In_ok-opened, c.user_count-n.ensures, c.users_offset-at.ensures.value, c.users_size-size.ensures.value, refl)

pub fill_guesses-requires : goal.fill_guesses-requires
fill_guesses-requires c = (c.fill_ids.ensures.padded, omega (arith, (passed c.args.book.now (passes (goal.at.fill_guesses-requires c).In_ok-opened)).form.some, c.fill_ids.ensures.count), refl)

pub post_lines-requires : goal.post_lines-requires
post_lines-requires c = let a = c.args in record { known = c.fill_ids.ensures; even = IfOk-at_ok (λ limits. Even a.ids.now a.areas.now a.amounts.now a.places.now) c.in_ok-opened.was c.requires.even; guesses = c.fill_guesses.ensures }

pub returns : goal.returns
returns c = rw c.in_ok-opened.was (listed_posted 0 refl c.post_lines.ensures)
