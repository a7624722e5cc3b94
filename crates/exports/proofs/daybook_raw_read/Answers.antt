-- `daybook_raw_read` leaves an image of another length, and passes one of 9,512 bytes on. Assumes nothing.
use Rattle.base.specs.Basics.{◌∙◌}
use Rattle.exports.proofs.Lent.{refused, stored}
use Rattle.exports.proofs.daybook_raw_read.Goals as goal

pub returns-then-image-ne-IMAGE_SIZE : goal.returns-then-image-ne-IMAGE_SIZE
returns-then-image-ne-IMAGE_SIZE c = refused 9512 c.args.image.now _ _ _ c.if-image-ne-IMAGE_SIZE.true

pub returns : goal.returns
returns c = let read = (rw c.from.ensures at c.read_image.ensures) in stored 9512 _ _ _ _ _ _ c.if-image-ne-IMAGE_SIZE.false (c.number_of.ensures ∙ read.asked) read.fields
