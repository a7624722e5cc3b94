-- Document 02, ask 9: a book read into an image by an acting party. "All else is the operator's": a shipper may have its own record, not the book. Assumes nothing.
use Rattle.std.specs.Prelude.{◌≡◌}
use Rattle.base.specs.Basics.{List, ℕ, replicate}
use Rattle.book_image.specs.Image.{image_of, image_size}
use Rattle.rights.specs.Acting.{entering_number}
use Rattle.rights.specs.Party.{Party, operators}
use Rattle.rules.specs.Questions.{after}

-- a refusal returns "every other field 0"
unfoldable pub image_by : Party → List ℕ → List ℕ
image_by actor s = after (entering_number actor operators s) (λ n. replicate image_size 0) (image_of s)

-- the number of the questions 1 to 7 and 26, and the whole image
pub record ImageReadBy (actor : Party) (s : List ℕ) (number : ℕ) (image : List ℕ) : Type 0 where
  pub asked : number ≡ entering_number actor operators s
  pub fields : image ≡ image_by actor s
