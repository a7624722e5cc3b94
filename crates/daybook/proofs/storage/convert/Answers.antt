-- `convert` asks the questions of the book and 26 first. Assumes nothing.
use Rattle.call_rights.specs.Acting.{as_party}
use Rattle.conversions.proofs.Acting.{conversion_by_lem}
use Rattle.daybook.proofs.Opened.{entered_pass}
use Rattle.daybook.proofs.storage.convert.Goals as goal

pub convert-requires : goal.convert-requires
convert-requires c = entered_pass _ _ _ _ c.ask-entered.ensures.value

pub returns : goal.returns
returns c = let a = c.args in
    conversion_by_lem (as_party a.party) a.version a.book.now a.out.now c.ask-entered.ensures.value c.convert.ensures
