-- `give_back`: the trades passed have risen, and what is left to settle gives the whole. Assumes nothing.
use Rattle.base.specs.Basics.{◌≡◌, sym, ap, ◌∙◌, refl, ℕ, ◌+◌, ◌*◌, ◌<◌, arith, drop, get_or, length}
use Rattle.book_format.proofs.Passed.{length-trades_of}
use Rattle.book_format.specs.Book.{book_of}
use Rattle.fields.proofs.Records.{length-records_of}
use Rattle.fields.specs.Field.{field}
use Rattle.log_questions.proofs.Cuts.{cut_field}
use Rattle.log_questions.specs.Form.{cuts_from}
use Rattle.log_withdrawal.proofs.Back.{back_here, given_end, given_more, given_start}
use Rattle.log_withdrawal.proofs.give_back.Goals as goal
use Rattle.log_withdrawal.proofs.give_back.Goals.{After-get_u32-cut, Start}

-- as many trades as cuts
trades-are : (c : goal.Start) → length (book_of c.args.book.now).trades ≡ c.args.m
unfolding book_of
trades-are c = length-trades_of c.args.book.now ∙ sym c.requires.book_in.2

cuts_are : (c : goal.Start) → length (cuts_from c.args.m 0 c.args.entry.now) ≡ length (book_of c.args.book.now).trades
cuts_are c = length-records_of 4 (field 4 0) c.args.m (drop 0 c.args.entry.now) ∙ sym (trades-are c)

few : (c : goal.Start) → c.args.m < 257
few c = omega (arith, c.requires.book_in.2, c.requires.book_in.0.accepted.held.form.trades)

-- the cut that was read
cut-is : (c : goal.After-get_u32-cut) → c.get_u32-cut.result ≡ get_or (cuts_from c.args.m 0 c.args.entry.now) c.loop-k.k 0
cut-is c = let k = c.loop-k.k in
    let none : 4 * k ≡ 0 + 4 * k = omega arith in
    c.get_u32-cut.ensures ∙ ap (λ (n : ℕ). field 4 n c.args.entry.now) none ∙ sym (cut_field c.args.m 0 k c.args.entry.now c.loop-k-test.true)

pub loop-k-init : goal.loop-k-init
loop-k-init c = (given_start c.requires.book_in.0 (cuts_from c.args.m 0 c.args.entry.now) c.requires.in_bounds.1 (cuts_are (goal.at.loop-k-init c).Start), refl)

pub give_back_at-requires : goal.give_back_at-requires
give_back_at-requires c = back_here c.requires.book_in.0 (cuts_from c.args.m 0 c.args.entry.now) c.requires.in_bounds.1 (cuts_are (goal.at.give_back_at-requires c).Start) c.loop-k.invariant.0
    (omega (arith, c.loop-k-test.true, trades-are (goal.at.give_back_at-requires c).Start)) c.index-seller.ensures.0
    c.index-buyer.ensures.0 (cut-is (goal.at.give_back_at-requires c).After-get_u32-cut) c.requires.book_in.1

pub loop-k-preserved : goal.loop-k-preserved
loop-k-preserved c = (
  given_more c.requires.book_in.0 (cuts_from c.args.m 0 c.args.entry.now) c.requires.in_bounds.1 (cuts_are (goal.at.loop-k-preserved c).Start) c.loop-k.invariant.0
      (omega (arith, c.loop-k-test.true, trades-are (goal.at.loop-k-preserved c).Start)) c.index-seller.ensures.0
      c.index-buyer.ensures.0 (cut-is (goal.at.loop-k-preserved c).After-get_u32-cut) c.give_back_at.ensures,
  omega (arith, c.give_back_at.auto.book, c.loop-k.invariant.1),
)

pub returns : goal.returns
returns c = given_end c.requires.book_in.0 (cuts_from c.args.m 0 c.args.entry.now) c.requires.in_bounds.1 (cuts_are (goal.at.returns c).Start) c.loop-k.invariant.0 (omega (arith, c.loop-k-test.false, trades-are (goal.at.returns c).Start))

pub overflow_mul-k : goal.overflow_mul-k
overflow_mul-k c = omega (arith, few (goal.at.overflow_mul-k c).Start)

pub get_u32-cut-requires : goal.get_u32-cut-requires
get_u32-cut-requires c = omega (arith, few (goal.at.get_u32-cut-requires c).Start, c.requires.in_bounds.0)

pub bounds-sellers-k : goal.bounds-sellers-k
bounds-sellers-k c = omega (arith, few (goal.at.bounds-sellers-k c).Start)

pub bounds-buyers-k : goal.bounds-buyers-k
bounds-buyers-k c = omega (arith, few (goal.at.bounds-buyers-k c).Start)

pub shape_of-book : goal.shape_of-book
shape_of-book c = c.loop-k.invariant.1
