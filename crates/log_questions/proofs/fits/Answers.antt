-- `fits` asks part after part, and the next only where the last is as it should be. Assumes nothing.
use Rattle.base.specs.Basics.{refl, sym, ◌∙◌, not-false}
use Rattle.log_format.specs.Fits.{log_fits}
use Rattle.log_questions.proofs.Form.{formed_facts}
use Rattle.log_questions.specs.Form.{LogFormed}
use Rattle.log_questions.proofs.fits.Goals as goal
use Rattle.log_questions.proofs.fits.Goals.{Else-not-is_formed}

formed : (c : goal.Else-not-is_formed) → LogFormed c.args.log.now
formed c = formed_facts _ (sym c.is_formed.ensures ∙ not-false _ c.if-not-is_formed.false-raw)

pub returns-then-not-is_formed : goal.returns-then-not-is_formed
unfolding log_fits
returns-then-not-is_formed c = rw (sym (sym c.if-not-is_formed.true ∙ c.is_formed.ensures))

pub returns-then-not-holds_book : goal.returns-then-not-holds_book
unfolding log_fits
returns-then-not-holds_book c = rw (sym (sym c.if-not-is_formed.false ∙ c.is_formed.ensures), sym (sym c.if-not-holds_book.true ∙ c.holds_book.ensures))

pub returns : goal.returns
unfolding log_fits
returns c = rw (sym (sym c.if-not-is_formed.false ∙ c.is_formed.ensures), sym (sym c.if-not-holds_book.false ∙ c.holds_book.ensures))
    c.is_used_as_told.ensures

pub holds_book-requires : goal.holds_book-requires
holds_book-requires c = formed c

pub is_used_as_told-requires : goal.is_used_as_told-requires
is_used_as_told-requires c = record { log_formed = (formed (goal.at.is_used_as_told-requires c).Else-not-is_formed, c.requires); sums_value = refl }
