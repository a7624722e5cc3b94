-- `write` asks the version, the counts and the part's length, then the bytes that it would write, and writes only where all are answered by yes. Assumes nothing.
use Rattle.base.specs.Basics.{◌≡◌, sym, ap, ap₂, ◌∙◌, Bool, true, false, ◌&&◌, eqb, length, eq-eqb, ne_eqb}
use Rattle.refusals.proofs.Numbers.{handed_on, refused-nonzero}
use Rattle.rules.specs.Questions.{version_known}
use Rattle.book_format.specs.Book.{length_by}
use Rattle.book_tables.specs.Book.{as_book}
use Rattle.book_value.proofs.PartWritten.{written_2, written_3, written_refused, written_0, in_counts}
use Rattle.book_value.specs.Written.{counts_in_range}
use Rattle.book_value.proofs.write.Goals as goal
use Rattle.book_value.proofs.write.Goals.{After-book_length-len, Else-not-counted, Else-not-is_known, Else-out-len}

version : (c : goal.Else-not-is_known) → version_known c.args.b.version ≡ true
version c = sym c.is_known.ensures ∙ c.if-not-is_known.false

counted : (c : goal.Else-not-counted) → counts_in_range c.args.b.user_count c.args.b.trade_count ≡ true
unfolding counts_in_range
counted c = c.if-not-counted.false

-- the length that version and counts ask for
asked-length : (c : goal.After-book_length-len) → let b = c.args.b in c.book_length-len.result ≡ length_by b.version b.user_count b.trade_count
asked-length c = c.book_length-len.ensures

-- counts in range, and the part of the length that they ask for
sized : (c : goal.Else-out-len)
    → let a = c.args in
    (counts_in_range a.b.user_count a.b.trade_count && eqb (length a.out.now) (length_by a.b.version a.b.user_count a.b.trade_count)) ≡ true
sized c = let a = c.args in
    ap₂ (λ (x y : Bool). x && y) (counted (goal.at.Else-out-len c).Else-not-counted) (eq-eqb (length a.out.now) _ (c.if-out-len.false ∙ asked-length (goal.at.Else-out-len c).After-book_length-len))

pub returns-then-not-is_known : goal.returns-then-not-is_known
unfolding as_book
returns-then-not-is_known c = let a = c.args in
    written_2 a.b.user_count a.b.trade_count (as_book a.b) a.out.now (sym c.is_known.ensures ∙ c.if-not-is_known.true)

pub returns-then-not-counted : goal.returns-then-not-counted
unfolding counts_in_range as_book
returns-then-not-counted c = let a = c.args in
    let e : counts_in_range a.b.user_count a.b.trade_count ≡ false = c.if-not-counted.true in
    written_3 a.b.user_count a.b.trade_count (as_book a.b) a.out.now (version (goal.at.returns-then-not-counted c).Else-not-is_known) (ap (λ (x : Bool). x && eqb (length a.out.now) (length_by a.b.version a.b.user_count a.b.trade_count)) e)

pub returns-then-out-len : goal.returns-then-out-len
unfolding as_book
returns-then-out-len c = let a = c.args in
    written_3 a.b.user_count a.b.trade_count (as_book a.b) a.out.now (version (goal.at.returns-then-out-len c).Else-not-is_known)
    (ap₂ (λ (x y : Bool). x && y) (counted (goal.at.returns-then-out-len c).Else-not-counted) (ne_eqb (length a.out.now) _ (λ e. c.if-out-len.true (e ∙ sym (asked-length (goal.at.returns-then-out-len c).After-book_length-len)))))

pub ask_written-requires : goal.ask_written-requires
ask_written-requires c = (in_counts c.args.b (version (goal.at.ask_written-requires c).Else-not-is_known) (counted (goal.at.ask_written-requires c).Else-not-counted), asked-length (goal.at.ask_written-requires c).After-book_length-len)

pub returns-in_err-ask_written : goal.returns-in_err-ask_written
unfolding as_book
returns-in_err-ask_written c = let a = c.args in
    rw (handed_on c.from_residual.ensures.1)
    (written_refused a.b.user_count a.b.trade_count (as_book a.b) a.out.now (version (goal.at.returns-in_err-ask_written c).Else-not-is_known) (sized (goal.at.returns-in_err-ask_written c).Else-out-len) _ c.in_err-ask_written.ensures (refused-nonzero _))

pub write_book-requires : goal.write_book-requires
write_book-requires c = let k = in_counts c.args.b (version (goal.at.write_book-requires c).Else-not-is_known) (counted (goal.at.write_book-requires c).Else-not-counted) in
    (k.users, k.trades, c.if-out-len.false ∙ asked-length (goal.at.write_book-requires c).After-book_length-len)

pub returns : goal.returns
unfolding as_book
returns c = let a = c.args in
    written_0 a.b.user_count a.b.trade_count (as_book a.b) a.out.now (version (goal.at.returns c).Else-not-is_known) (sized (goal.at.returns c).Else-out-len) (sym c.in_ok-ask_written.ensures) _ c.write_book.ensures.bytes
