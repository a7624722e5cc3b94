-- `managers_kept` looks at the managers only where the book has them and the version has none. Assumes nothing.
use Rattle.base.specs.Basics.{◌≡◌, sym, ap, ◌∙◌, true, false, not-true, not-false}
use Rattle.rules.specs.Areas.{managers_in}
use Rattle.book_format.specs.Book.{version_of}
use Rattle.conversions.specs.Conversion.{keeps_managers}
use Rattle.call_versions.proofs.Kept.{managers_lie, managers_plain, managers_some}
use Rattle.call_versions.proofs.managers_kept.Goals as goal
use Rattle.call_versions.proofs.managers_kept.Goals.{Else-has_managers, Else-not-has_managers}

pub returns-then-has_managers : goal.returns-then-has_managers
unfolding keeps_managers
returns-then-has_managers c = rw (sym c.has_managers.ensures ∙ c.if-has_managers.true)

-- the version has no managers
plain : (c : goal.Else-has_managers) → managers_in c.args.version ≡ false
plain c = sym c.has_managers.ensures ∙ c.if-has_managers.false

pub returns-then-not-has_managers : goal.returns-then-not-has_managers
returns-then-not-has_managers c = let a = c.args in
    managers_plain a.version a.s.now (plain (goal.at.returns-then-not-has_managers c).Else-has_managers)
    (ap managers_in (sym c.version.ensures) ∙ sym c.has_managers-2.ensures ∙ not-true _ c.if-not-has_managers.true-raw)

-- the book has them
own : (c : goal.Else-not-has_managers) → managers_in (version_of c.args.s.now) ≡ true
own c = ap managers_in (sym c.version.ensures) ∙ sym c.has_managers-2.ensures ∙ not-false _ c.if-not-has_managers.false-raw

pub unmanaged-requires : goal.unmanaged-requires
unmanaged-requires c = managers_lie c.requires (own (goal.at.unmanaged-requires c).Else-not-has_managers) c.users_offset.ensures.value c.user_count-n.ensures

pub returns : goal.returns
returns c = let a = c.args in
    managers_some a.version a.s.now (plain (goal.at.returns c).Else-has_managers) (own (goal.at.returns c).Else-not-has_managers) c.users_offset.ensures.value c.user_count-n.ensures c.unmanaged.ensures
