-- `position_in`: four bytes of the record, with their sign. Assumes nothing.
use Rattle.rules.specs.Signed.{signed_of}
use Rattle.fields.specs.Field.{field}
use Rattle.book_format.proofs.Places.{position_read}
use Rattle.base.specs.Basics.{ap, ◌∙◌, ℕ}
use Rattle.run_positions.proofs.position_in.Goals as goal

pub returns : goal.returns
returns c = c.of_bits.ensures ∙ ap (signed_of 32) (c.get_u32.ensures ∙ ap (λ (i : ℕ). field 4 i c.args.book.now) c.position_offset-at.ensures.0) ∙ position_read c.requires.0 c.requires.1
