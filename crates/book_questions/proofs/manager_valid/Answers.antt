-- `manager_valid`: by the fields of the user and of the one whose id its manager has. Assumes nothing.
use Rattle.base.specs.Basics.{◌∙◌, refl}
use Rattle.book_parties.proofs.Guesses.{found_below}
use Rattle.book_questions.proofs.Managers.{given_known, given_none, given_unknown, id_read, manager_read, role_read}
use Rattle.book_questions.proofs.manager_valid.Goals as goal

pub returns-then-id-eq0 : goal.returns-then-id-eq0
returns-then-id-eq0 c = let a = c.args in
    given_none c.requires.0 a.place a.area (c.get_u32-id.ensures ∙ manager_read a.s.now a.n a.place c.requires.1 a.area c.requires.2) c.if-id-eq0.true

pub returns-in_default : goal.returns-in_default
returns-in_default c = let a = c.args in
    given_unknown c.requires.0 a.place a.area (c.get_u32-id.ensures ∙ manager_read a.s.now a.n a.place c.requires.1 a.area c.requires.2) c.if-id-eq0.false
    c.in_default.ensures refl

pub returns : goal.returns
returns c = let a = c.args in
    let s = a.s.now in
    let found = c.in-Some.ensures in
    let there = found_below found refl in
    given_known c.requires.0 a.place a.area (c.get_u32-id.ensures ∙ manager_read s a.n a.place c.requires.1 a.area c.requires.2) c.if-id-eq0.false
    found refl
    (c.get_u32-own.ensures ∙ id_read s a.n a.place c.requires.1)
    (c.get_u8-role.ensures ∙ role_read s a.n a.place c.requires.1)
    (c.get_u8-manager_role.ensures ∙ role_read s a.n c.in-Some.manager there)
    (c.get_u32-managed.ensures ∙ manager_read s a.n c.in-Some.manager there a.area c.requires.2)
