-- `no_record`: the blank user, and managers of 0. Assumes nothing.
use Rattle.base.specs.Basics.{◌≡◌, ◌∙◌, ap, ℕ}
use Rattle.book_tables.specs.declared.Managers.{Managers}
use Rattle.book_tables.specs.Record.{blank_record}
use Rattle.book_tables.proofs.no_record.Goals as goal

none : (m : Managers) → (m.pvb ≡ 0) × ((m.tvb ≡ 0) × (m.avb ≡ 0)) → m ≡ record { pvb = 0; tvb = 0; avb = 0 }
none m e =
    ap (λ (x : ℕ). record { pvb = x; tvb = m.tvb; avb = m.avb }) e.0
    ∙ ap (λ (x : ℕ). record { pvb = 0; tvb = x; avb = m.avb }) e.1.0
    ∙ ap (λ (x : ℕ). record { pvb = 0; tvb = 0; avb = x }) e.1.1

pub returns : goal.returns
unfolding blank_record
returns c = rw (c.no_user.ensures, none c.default.result c.default.ensures)
