-- `write` asks the version, the counts and the part's length, then the fields of the image, and writes only where all are answered by yes. Assumes nothing.
use Rattle.base.specs.Basics.{◌≡◌, sym, ap, ap₂, ◌∙◌, Bool, true, false, ◌&&◌, ℕ, eqb, length, eq-eqb, ne_eqb}
use Rattle.base.proofs.Tests.{holds}
use Rattle.refusals.proofs.Numbers.{handed_on, refused-nonzero}
use Rattle.rules.specs.Questions.{version_known}
use Rattle.book_format.specs.Book.{count_of_users, count_of_trades, book_of, length_by}
use Rattle.book_value.specs.Written.{counts_in_range}
use Rattle.book_value.proofs.PartWritten.{written_2, written_3, written_refused, written_0}
use Rattle.book_image.specs.ImageBook.{image_book, CountsOf}
use Rattle.book_image.proofs.Fields.{counts_of}
use Rattle.book_image.proofs.write.Goals as goal
use Rattle.book_image.proofs.write.Goals.{After-is_known, Else-not-counted, Else-not-is_known, Else-out-len, Then-not-counted}

-- the version
known : {answer : Bool} (c : goal.After-is_known)
    → c.is_known.result ≡ answer → version_known (image_book c.args.image.now).header.version ≡ answer
unfolding image_book book_of
known {answer} c e = ap version_known (sym c.version-version.ensures) ∙ sym c.is_known.ensures ∙ e

version : (c : goal.Else-not-is_known) → version_known (image_book c.args.image.now).header.version ≡ true
version c = known (goal.at.Else-not-is_known c).After-is_known c.if-not-is_known.false

-- the counts and the length that they ask for
sizes : {answer : Bool} (c : goal.After-is_known)
    → let a = c.args in
    let n = c.user_count-n.result in
    let m = c.trade_count-m.result in
    (counts_in_range n m && eqb (length a.out.now) (length_by c.version-version.result n m)) ≡ answer
    → (counts_in_range (count_of_users a.image.now) (count_of_trades a.image.now) && eqb (length a.out.now)
    (length_by (image_book a.image.now).header.version (count_of_users a.image.now) (count_of_trades a.image.now))) ≡ answer
unfolding image_book book_of
sizes {answer} c e = rw (← c.version-version.ensures, ← c.user_count-n.ensures, ← c.trade_count-m.ensures) e

counted : (c : goal.Else-not-counted)
    → counts_in_range c.user_count-n.result c.trade_count-m.result ≡ true
unfolding counts_in_range
counted c = c.if-not-counted.false

uncounted : (c : goal.Then-not-counted)
    → counts_in_range c.user_count-n.result c.trade_count-m.result ≡ false
unfolding counts_in_range
uncounted c = c.if-not-counted.true

counts : (c : goal.Else-not-counted)
    → CountsOf c.args.image.now c.user_count-n.result c.trade_count-m.result
counts c = counts_of c.requires c.user_count-n.ensures c.trade_count-m.ensures (counted c)

-- the part is of the length that version and counts ask for
whole : (c : goal.Else-out-len)
    → length c.args.out.now ≡ length_by c.version-version.result c.user_count-n.result c.trade_count-m.result
whole c = c.if-out-len.false ∙ c.book_length-len.ensures

sized : (c : goal.Else-out-len)
    → let a = c.args in
    (counts_in_range (count_of_users a.image.now) (count_of_trades a.image.now) && eqb (length a.out.now)
    (length_by (image_book a.image.now).header.version (count_of_users a.image.now) (count_of_trades a.image.now))) ≡ true
sized c = sizes (goal.at.Else-out-len c).After-is_known (ap₂ (λ (x y : Bool). x && y) (counted (goal.at.Else-out-len c).Else-not-counted) (eq-eqb (length c.args.out.now) _ (whole c)))

pub returns-then-not-is_known : goal.returns-then-not-is_known
returns-then-not-is_known c = let a = c.args in
    written_2 (count_of_users a.image.now) (count_of_trades a.image.now) (image_book a.image.now) a.out.now (known (goal.at.returns-then-not-is_known c).After-is_known c.if-not-is_known.true)

pub returns-then-not-counted : goal.returns-then-not-counted
returns-then-not-counted c = let a = c.args in
    let length-asked = length_by c.version-version.result c.user_count-n.result c.trade_count-m.result in
    written_3 (count_of_users a.image.now) (count_of_trades a.image.now) (image_book a.image.now) a.out.now (version (goal.at.returns-then-not-counted c).Else-not-is_known)
    (sizes (goal.at.returns-then-not-counted c).After-is_known (ap (λ (x : Bool). x && eqb (length a.out.now) length-asked) (uncounted c)))

pub returns-then-out-len : goal.returns-then-out-len
returns-then-out-len c = let a = c.args in
    written_3 (count_of_users a.image.now) (count_of_trades a.image.now) (image_book a.image.now) a.out.now (version (goal.at.returns-then-out-len c).Else-not-is_known)
    (sizes (goal.at.returns-then-out-len c).After-is_known (ap₂ (λ (x y : Bool). x && y) (counted (goal.at.returns-then-out-len c).Else-not-counted)
    (ne_eqb (length a.out.now) _ (λ e. c.if-out-len.true (e ∙ sym c.book_length-len.ensures)))))

pub ask_written-requires : goal.ask_written-requires
unfolding image_book book_of
ask_written-requires c = let n = c.user_count-n.result in
    let m = c.trade_count-m.result in
    (counts (goal.at.ask_written-requires c).Else-not-counted, holds (version (goal.at.ask_written-requires c).Else-not-is_known), c.book_length-len.ensures ∙ ap (λ (v : ℕ). length_by v n m) c.version-version.ensures)

pub returns-in_err-ask_written : goal.returns-in_err-ask_written
returns-in_err-ask_written c = let a = c.args in
    rw (handed_on c.from_residual.ensures.1)
    (written_refused (count_of_users a.image.now) (count_of_trades a.image.now) (image_book a.image.now) a.out.now (version (goal.at.returns-in_err-ask_written c).Else-not-is_known)
    (sized (goal.at.returns-in_err-ask_written c).Else-out-len) _ c.in_err-ask_written.ensures (refused-nonzero _))

pub write_fields-requires : goal.write_fields-requires
write_fields-requires c = let n = c.user_count-n.result in
    let m = c.trade_count-m.result in
    (counts (goal.at.write_fields-requires c).Else-not-counted, whole (goal.at.write_fields-requires c).Else-out-len ∙ ap (λ (v : ℕ). length_by v n m) c.version-version.ensures)

pub returns : goal.returns
returns c = let a = c.args in
    written_0 (count_of_users a.image.now) (count_of_trades a.image.now) (image_book a.image.now) a.out.now (version (goal.at.returns c).Else-not-is_known) (sized (goal.at.returns c).Else-out-len)
    (sym c.in_ok-ask_written.ensures) _ c.write_fields.ensures
