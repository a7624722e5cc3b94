-- `selling_at` reads a field that only a header with selling tariffs has. Assumes nothing.
use mathlib.Core.Path.{◌≡◌, sym, ap, ◌∙◌}
use native.Mathlib.Omega.{arith}
use Rattle.rules.specs.Areas.{selling_in}
use Rattle.book_format.specs.Book.{selling_tariff_at, version_of}
use Rattle.book_format.proofs.Offsets.{header_selling}
use Rattle.book_header.proofs.selling_at.Goals as goal
use Rattle.book_header.proofs.selling_at.Goals.{After-has_selling}

pub version-requires : goal.version-requires
version-requires c = c.requires.0.start

-- what was asked is whether the version of the bytes has them
asked : (c : goal.After-has_selling) → c.has_selling.result ≡ selling_in (version_of c.args.s.now)
asked c = c.has_selling.ensures ∙ ap selling_in c.version.ensures

pub get_u32-requires : goal.get_u32-requires
get_u32-requires c = omega (arith, c.requires.0.whole, c.requires.1, header_selling _ (sym (asked (goal.at.get_u32-requires c).After-has_selling) ∙ c.if-has_selling.true))

pub returns-then-has_selling : goal.returns-then-has_selling
unfolding selling_tariff_at
returns-then-has_selling c = rw (sym (asked (goal.at.returns-then-has_selling c).After-has_selling) ∙ c.if-has_selling.true) c.get_u32.ensures

pub returns-else-has_selling : goal.returns-else-has_selling
unfolding selling_tariff_at
returns-else-has_selling c = rw (sym (asked (goal.at.returns-else-has_selling c).After-has_selling) ∙ c.if-has_selling.false)
