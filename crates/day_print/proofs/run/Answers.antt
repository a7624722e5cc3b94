-- `day_print::run` runs after the questions of the book, with today's figures. Assumes nothing.
use Rattle.day_print.proofs.run.Goals as goal

pub returns : goal.returns
returns c = rw (c.open-opened.ensures.asked, c.open-opened.ensures.figures) at c.run.ensures.called
