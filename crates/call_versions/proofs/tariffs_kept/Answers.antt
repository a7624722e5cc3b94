-- `tariffs_kept` looks at the selling tariffs only where the book has them and the version has none. Assumes nothing.
use Rattle.base.specs.Basics.{◌≡◌, sym, ap, ◌∙◌, true, false, arith, not-true, not-false}
use Rattle.rules.specs.Areas.{selling_in}
use Rattle.book_format.specs.Book.{version_of}
use Rattle.conversions.specs.Conversion.{keeps_tariffs}
use Rattle.call_versions.proofs.Kept.{selling_lies, tariffs_plain, tariffs_some}
use Rattle.call_versions.proofs.tariffs_kept.Goals as goal
use Rattle.call_versions.proofs.tariffs_kept.Goals.{Else-has_selling, Else-not-has_selling}

pub returns-then-has_selling : goal.returns-then-has_selling
unfolding keeps_tariffs
returns-then-has_selling c = rw (sym c.has_selling.ensures ∙ c.if-has_selling.true)

-- the version has no selling tariffs
plain : (c : goal.Else-has_selling) → selling_in c.args.version ≡ false
plain c = sym c.has_selling.ensures ∙ c.if-has_selling.false

pub returns-then-not-has_selling : goal.returns-then-not-has_selling
returns-then-not-has_selling c = let a = c.args in
    tariffs_plain a.version a.s.now (plain (goal.at.returns-then-not-has_selling c).Else-has_selling)
    (ap selling_in (sym c.version.ensures) ∙ sym c.has_selling-2.ensures ∙ not-true _ c.if-not-has_selling.true-raw)

-- the book has them
own : (c : goal.Else-not-has_selling) → selling_in (version_of c.args.s.now) ≡ true
own c = ap selling_in (sym c.version.ensures) ∙ sym c.has_selling-2.ensures ∙ not-false _ c.if-not-has_selling.false-raw

pub get_u32-requires : goal.get_u32-requires
get_u32-requires c = omega (arith, selling_lies c.requires (own c))

pub get_u32-requires-2 : goal.get_u32-requires-2
get_u32-requires-2 c = omega (arith, selling_lies c.requires (own (goal.at.get_u32-requires-2 c).Else-not-has_selling))

pub returns : goal.returns
returns c = let a = c.args in
    rw (c.get_u32-2.ensures, c.get_u32.ensures) (tariffs_some a.version a.s.now (plain (goal.at.returns c).Else-has_selling) (own (goal.at.returns c).Else-not-has_selling))
