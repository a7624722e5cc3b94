-- `write_selling` sets both fields, or none. Assumes nothing.
use mathlib.Core.Bool.{true}
use mathlib.Core.List.{[], ◌∷◌}
use mathlib.Core.Path.{◌≡◌, sym, ap, ◌∙◌}
use Prim.Native.Nat.{◌≤◌}
use lib.ListN.{length}
use native.Mathlib.Omega.{arith}
use lib.Seq.{sets}
use Rattle.fields.specs.Layout.{set_fields}
use Rattle.fields.proofs.Pack.{set_fields-sets}
use Rattle.rules.specs.Areas.{selling_in}
use Rattle.units.specs.Prices.{as_prices}
use Rattle.book_format.specs.Book.{selling_widths}
use Rattle.book_format.proofs.Offsets.{header_selling, selling_none, selling_some}
use borrow.Author.Rules.{rules}
use Rattle.book_header.proofs.write_selling.Goals as goal
use Rattle.book_header.proofs.write_selling.Goals.{Then-has_selling}

-- the version has selling tariffs, so the header has room for them
selling : (c : goal.Then-has_selling) → selling_in c.args.version ≡ true
selling c = sym c.has_selling.ensures ∙ c.if-has_selling.true

room : (c : goal.Then-has_selling) → 40 ≤ length c.args.out.now
room c = omega (arith, c.requires, header_selling _ (selling c))

pub put_u32-requires : goal.put_u32-requires
put_u32-requires c = let l = room (goal.at.put_u32-requires c).Then-has_selling in search rules

pub put_u32-requires-then-has_selling : goal.put_u32-requires-then-has_selling
put_u32-requires-then-has_selling c = let l = room (goal.at.put_u32-requires-then-has_selling c).Then-has_selling in search rules

pub returns-then-has_selling : goal.returns-then-has_selling
unfolding selling_widths set_fields
returns-then-has_selling c = let a = c.args in
    c.put_u32-then-has_selling.ensures
    ∙ rw c.put_u32.ensures
    (set_fields-sets selling_widths 32 (a.prices.s ∷ a.prices.u ∷ []) a.out.now ∙ ap (sets a.out.now 32) (sym (selling_some a.version (as_prices a.prices) (selling (goal.at.returns-then-has_selling c).Then-has_selling))))

pub returns-else-has_selling : goal.returns-else-has_selling
returns-else-has_selling c = let a = c.args in
    sym (ap (sets a.out.now 32) (selling_none a.version (as_prices a.prices) (sym c.has_selling.ensures ∙ c.if-has_selling.false)))
