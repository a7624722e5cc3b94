-- `stands_for`: by the user's own id, else by its manager in the area, in a version that has managers. Assumes nothing.
use Rattle.base.specs.Basics.{◌≡◌, ◌∙◌, ap, sym, ◌+◌, ◌≤◌, arith, length}
use Rattle.book_format.proofs.Offsets.{user_managed}
use Rattle.book_format.proofs.Places.{record_lies}
use Rattle.book_format.specs.Book.{version_of}
use Rattle.fields.specs.Field.{field}
use Rattle.rules.specs.Areas.{managers_in}
use Rattle.risk_bearers.proofs.Table.{manager_is}
use Rattle.call_told.proofs.Stands.{stands_managed, stands_own, stands_plain}
use Rattle.call_told.proofs.stands_for.Goals as goal
use Rattle.call_told.proofs.stands_for.Goals.{Else-get_u32-id, Else-not-has_managers}

-- the manager's id lies in the record
lies : (c : goal.Else-not-has_managers) → (c.user_offset-a.result + 68 ≤ length c.args.book.now) × (c.args.area ≤ 2)
lies c = let managed = sym c.has_managers.ensures ∙ c.if-not-has_managers.false in
    (omega (arith, record_lies c.requires.0, c.user_offset-a.ensures.0, user_managed (version_of c.args.book.now) (ap managers_in (sym c.version.ensures) ∙ managed)), omega (arith, c.requires.1))

pub returns-then-get_u32-id : goal.returns-then-get_u32-id
returns-then-get_u32-id c = stands_own c.requires.0 c.args.id c.args.area c.user_offset-a.ensures.0 (sym c.get_u32.ensures ∙ c.if-get_u32-id.true)

pub version-requires : goal.version-requires
version-requires c = omega (arith, c.requires.0.form.head)

other : (c : goal.Else-get_u32-id) → field 4 c.user_offset-a.result c.args.book.now ≡ c.args.id → ⊥
other c z = c.if-get_u32-id.false (c.get_u32.ensures ∙ z)

pub returns-then-not-has_managers : goal.returns-then-not-has_managers
returns-then-not-has_managers c = stands_plain c.requires.0 c.args.id c.args.area c.user_offset-a.ensures.0 (other (goal.at.returns-then-not-has_managers c).Else-get_u32-id) (ap managers_in (sym c.version.ensures) ∙ sym c.has_managers.ensures ∙ c.if-not-has_managers.true)

pub returns : goal.returns
returns c = let managed = ap managers_in (sym c.version.ensures) ∙ sym c.has_managers.ensures ∙ c.if-not-has_managers.false in
    stands_managed c.requires.0 c.args.id c.args.area c.user_offset-a.ensures.0 (other (goal.at.returns c).Else-get_u32-id) (c.get_u32-2.ensures ∙ manager_is c.requires.0 managed c.requires.1 c.user_offset-a.ensures.0) c.requires.2

pub user_offset-a-requires : goal.user_offset-a-requires
user_offset-a-requires c = c.requires.0

pub get_u32-requires : goal.get_u32-requires
get_u32-requires c = omega (arith, c.user_offset-a.ensures.1)

pub overflow_mul-area : goal.overflow_mul-area
overflow_mul-area c = let k = lies c in omega (arith, k.0, k.1)

pub overflow_add-area : goal.overflow_add-area
overflow_add-area c = let k = lies c in omega (arith, k.0, k.1)

pub overflow_add-a : goal.overflow_add-a
overflow_add-a c = let k = lies c in omega (arith, k.0, k.1)

pub get_u32-requires-2 : goal.get_u32-requires-2
get_u32-requires-2 c = let k = lies c in omega (arith, k.0, k.1)
