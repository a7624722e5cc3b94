-- The operator reads an image of what the questions of the book admit; who is not the operator has an image of 0. Assumes nothing.
use Rattle.base.specs.Basics.{◌≡◌, ◌∙◌, ap, sym, List, ℕ, arith, length, replicate}
use Rattle.book_format.specs.Questions.{book_number}
use Rattle.book_image.specs.Image.{ImageRead, image_of, image_size, read_image}
use Rattle.rights.proofs.Operator.{operator_asked}
use Rattle.rights.specs.Acting.{entering_number}
use Rattle.rights.specs.Party.{may_do, operator, operators, right_number, shipper_of}
use Rattle.call_read.specs.Image.{ImageReadBy, image_by}
use Rattle.rules.specs.Questions.{after}
use Rattle.laws.proofs.Refusals.{after_nonzero, second_zero}

-- a shipper's number is never 0
shipper_number : (s : List ℕ) (id : ℕ) → entering_number (shipper_of id) operators s ≡ 0 → ⊥
unfolding entering_number right_number may_do
shipper_number s id z =
    let right = second_zero (book_number s) 26 z in
    omega (arith, right)

pub image_operator : {s : List ℕ} {number : ℕ} {image : List ℕ} → ImageRead s number image → ImageReadBy operator s number image
unfolding image_by read_image book_number
image_operator {s} o =
    let h = sym (operator_asked operators s) in
    record {
      asked = o.asked ∙ h;
      fields = o.fields ∙ ap (λ (n : ℕ). after n (λ m. replicate image_size 0) (image_of s)) h;
    }

pub image_shipper : {s : List ℕ} {number : ℕ} (lent : List ℕ) {image : List ℕ} (id : ℕ) → length lent ≡ image_size → number ≡ entering_number (shipper_of id) operators s
    → image ≡ replicate (length lent) 0 → ImageReadBy (shipper_of id) s number image
unfolding image_by
image_shipper {s} lent id l e k =
    record { asked = e; fields = k ∙ ap (λ (m : ℕ). replicate m 0) l ∙ sym (after_nonzero (λ i. replicate image_size 0) (image_of s) (shipper_number s id)) }
