-- `convert` asks 23, 21 and 22 after the opening questions, and writes the book over the front of the output. Assumes nothing.
use Rattle.base.specs.Basics.{◌≡◌, sym, ap, ◌∙◌, true, arith, length-take-le}
use Rattle.base.proofs.Tests.{holds}
use Rattle.refusals.specs.Refusal.{number_in}
use Rattle.refusals.proofs.Numbers.{handed_on, refused-nonzero}
use Rattle.rules.specs.Questions.{version_known}
use Rattle.book_format.specs.Book.{book_of}
use Rattle.book_format.specs.Questions.{Formed, book_number}
use Rattle.book_format.proofs.Offsets.{known-lt}
use Rattle.book_format.proofs.Passed.{passed}
use Rattle.outputs.proofs.Ways.{wrote_before}
use Rattle.conversions.specs.Conversion.{about_conversion, conversion_after, converted, kept}
use Rattle.call_conversion.proofs.Ways.{all_written, lost, no_room, unknown}
use Rattle.call_conversion.proofs.convert.Goals as goal
use Rattle.call_conversion.proofs.convert.Goals.{Else-not-is_version, Else-not-keeps, In_ok-opened}

pub returns-in_err-opened : goal.returns-in_err-opened
unfolding conversion_after
returns-in_err-opened c = let a = c.args in
    rw (handed_on c.from_residual.ensures.1, ap number_in c.in_err-opened.was)
    (wrote_before (about_conversion a.version a.book.now a.out.now) (converted a.version a.book.now) a.out.now _ (refused-nonzero _))

-- past the opening questions the book is accepted
opened : (c : goal.In_ok-opened) → number_in c.args.opened ≡ 0
opened c = ap number_in c.in_ok-opened.was

accepted : (c : goal.In_ok-opened) → book_number c.args.book.now ≡ 0
accepted c = c.requires (opened c)

formed : (c : goal.In_ok-opened) → Formed c.args.book.now
formed c = (passed c.args.book.now (accepted c)).form

pub returns-then-not-is_version : goal.returns-then-not-is_version
returns-then-not-is_version c = let a = c.args in
    unknown a.version a.book.now a.out.now (opened (goal.at.returns-then-not-is_version c).In_ok-opened) (sym c.is_version.ensures ∙ c.if-not-is_version.true)

-- the version is one
known : (c : goal.Else-not-is_version) → version_known c.args.version ≡ true
known c = sym c.is_version.ensures ∙ c.if-not-is_version.false

pub overflow_cast-target : goal.overflow_cast-target
overflow_cast-target c = omega (arith, known-lt c.args.version (holds (known c)))

pub keeps-requires : goal.keeps-requires
keeps-requires c = formed (goal.at.keeps-requires c).In_ok-opened

pub returns-then-not-keeps : goal.returns-then-not-keeps
returns-then-not-keeps c = let a = c.args in
    lost a.version a.book.now a.out.now (opened (goal.at.returns-then-not-keeps c).In_ok-opened) (known (goal.at.returns-then-not-keeps c).Else-not-is_version) (sym c.keeps.ensures ∙ c.if-not-keeps.true)

-- and nothing is lost to it
lossless : (c : goal.Else-not-keeps)
    → let a = c.args in
    kept a.version (book_of a.book.now) ≡ true
lossless c = sym c.keeps.ensures ∙ c.if-not-keeps.false

pub length_as-size-requires : goal.length_as-size-requires
length_as-size-requires c = formed (goal.at.length_as-size-requires c).In_ok-opened

pub returns-then-out-size : goal.returns-then-out-size
returns-then-out-size c = let a = c.args in
    no_room a.version a.book.now a.out.now (opened (goal.at.returns-then-out-size c).In_ok-opened) (known (goal.at.returns-then-out-size c).Else-not-is_version) (lossless (goal.at.returns-then-out-size c).Else-not-keeps) (rw (sym c.length_as-size.ensures) c.if-out-size.true)

pub slice_bounds-convert-end-2 : goal.slice_bounds-convert-end-2
slice_bounds-convert-end-2 c = sym (length-take-le _ _ c.if-out-size.false)

pub convert-requires : goal.convert-requires
convert-requires c = (accepted (goal.at.convert-requires c).In_ok-opened, length-take-le _ _ c.if-out-size.false ∙ c.length_as-size.ensures)

pub returns : goal.returns
returns c = let a = c.args in
    all_written a.version a.book.now a.out.now (opened (goal.at.returns c).In_ok-opened) (known (goal.at.returns c).Else-not-is_version) (lossless (goal.at.returns c).Else-not-keeps) c.length_as-size.ensures c.if-out-size.false c.convert.ensures
