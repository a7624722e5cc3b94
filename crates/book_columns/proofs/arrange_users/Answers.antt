-- `arrange_users`: the widths are those of the version's fields. Assumes nothing.
use Rattle.base.specs.Basics.{◌≡◌, refl, sym, ap, ◌∙◌, true, false, ℕ, ◌*◌, rules}
use Rattle.fields.specs.Layout.{size}
use Rattle.rules.specs.Areas.{managers_in}
use Rattle.book_records.specs.User.{amount_widths, manager_widths, record_size, user_widths}
use Rattle.book_format.specs.Book.{size_of_user}
use Rattle.book_format.proofs.Offsets.{user_managed, user_plain}
use Rattle.book_columns.specs.Form.{user_fields}
use Rattle.book_columns.proofs.arrange_users.Goals as goal
use Rattle.book_columns.proofs.arrange_users.Goals.{Else-has_managers, Then-has_managers}

managed : (c : goal.Then-has_managers) → managers_in c.args.version ≡ true
managed c = sym c.has_managers.ensures ∙ c.if-has_managers.true

plain : (c : goal.Else-has_managers) → managers_in c.args.version ≡ false
plain c = sym c.has_managers.ensures ∙ c.if-has_managers.false

pub arrange-requires : goal.arrange-requires
unfolding size
arrange-requires c = let a = c.args in
    let u : size_of_user a.version * a.n ≡ 68 * a.n = ap (λ (k : ℕ). k * a.n) (user_managed a.version (managed (goal.at.arrange-requires c).Then-has_managers)) in
    record { narrow = search rules; fields = refl; source = search rules; target = search rules }

pub returns-then-has_managers : goal.returns-then-has_managers
unfolding user_fields size_of_user record_size user_widths manager_widths amount_widths
returns-then-has_managers c = rw (managed (goal.at.returns-then-has_managers c).Then-has_managers) c.arrange.ensures

pub arrange-requires-else-has_managers : goal.arrange-requires-else-has_managers
unfolding size
arrange-requires-else-has_managers c = let a = c.args in
    let u : size_of_user a.version * a.n ≡ 56 * a.n = ap (λ (k : ℕ). k * a.n) (user_plain a.version (plain (goal.at.arrange-requires-else-has_managers c).Else-has_managers)) in
    record { narrow = search rules; fields = refl; source = search rules; target = search rules }

pub returns-else-has_managers : goal.returns-else-has_managers
unfolding user_fields size_of_user record_size user_widths amount_widths
returns-else-has_managers c = rw (plain (goal.at.returns-else-has_managers c).Else-has_managers) c.arrange-else-has_managers.ensures
