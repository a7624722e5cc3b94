-- `form` asks the questions of the book and 26 first. Assumes nothing.
use Rattle.call_rights.specs.Acting.{as_party}
use Rattle.rights.proofs.Operator.{stored_by_lem}
use Rattle.daybook.proofs.Opened.{entered_pass}
use Rattle.daybook.proofs.storage.form.Goals as goal

pub form-requires : goal.form-requires
form-requires c = entered_pass _ _ _ _ c.ask-entered.ensures.value

pub returns : goal.returns
returns c = let a = c.args in
    stored_by_lem (as_party a.party) a.book.now a.out.now c.ask-entered.ensures.value c.form.ensures
