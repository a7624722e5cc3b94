-- `day_print::open`: a book that passes its questions is opened with today's figures. Assumes nothing.
use Rattle.std.proofs.Common.{sym, ◌∙◌}
use Rattle.book_questions.proofs.Asked.{book_opened}
use Rattle.day_print.proofs.open.Goals as goal

pub returns-clause-opened : goal.returns-clause-opened
returns-clause-opened c = let told = c.in_ok-ask.ensures in
    book_opened told.asked_of (λ j. (c.type_inv.book j).fits) (sym told.asked_of.number) (c.ask.auto.sellers ∙ c.requires.0) (c.ask.auto.buyers ∙ c.requires.1) told.summed
    c.today.ensures.limits_in_range
