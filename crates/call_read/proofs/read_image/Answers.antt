-- `read_image` reads the book for the operator; for another it leaves an image of 0, and asks. Assumes nothing.
use Rattle.call_read.proofs.Ways.{image_operator, image_shipper}
use Rattle.call_read.proofs.read_image.Goals as goal

pub returns-in-Operator : goal.returns-in-Operator
returns-in-Operator c = rw c.in-Operator.is (image_operator c.read.ensures)

pub returns-in-Shipper : goal.returns-in-Shipper
returns-in-Shipper c = rw c.in-Shipper.is (image_shipper _ c.in-Shipper.field-0 c.requires (rw c.in-Shipper.is at c.ask.ensures.value) (c.fill.ensures.after (λ y e. e)))
