-- What the operator reads is what the questions of the book alone admit. Assumes nothing.
use Rattle.base.specs.Basics.{◌≡◌, ◌∙◌, ap, List, ℕ, replicate}
use Rattle.book_format.specs.Questions.{book_number}
use Rattle.book_image.specs.Image.{image_of, image_size, read_image}
use Rattle.book_tables.specs.declared.Book.{Book}
use Rattle.book_value.specs.Opened.{Opened}
use Rattle.call_read.specs.Image.{image_by}
use Rattle.exports.specs.Answers.{ReadInto}
use Rattle.exports.specs.Lent.{Stored, by_length, wrong_length}
use Rattle.rights.proofs.Operator.{operator_asked}
use Rattle.rights.specs.Party.{operator, operators}
use Rattle.rights.specs.Read.{ReadBy}
use Rattle.rules.specs.Questions.{after}

pub operator_opened : {s : List ℕ} {n : ℕ} {b : Book} → ReadBy operator s n b → Opened s n b
operator_opened {s} o = record { asked = o.asked ∙ operator_asked operators s; book = o.book; blank = o.blank }

operator_image : (s : List ℕ) → image_by operator s ≡ read_image s
unfolding image_by read_image book_number
operator_image s = ap (λ (n : ℕ). after n (λ k. replicate image_size 0) (image_of s)) (operator_asked operators s)

pub operator_read : (s : List ℕ) {lent : List ℕ} {n : ℕ} {image : List ℕ} → ReadInto operator s lent n image → Stored image_size lent (book_number s) (read_image s) n image
operator_read s {lent} o =
    record {
      number = o.number ∙ ap (λ (k : ℕ). by_length image_size lent k wrong_length) (operator_asked operators s);
      part = o.part ∙ ap (λ (i : List ℕ). by_length image_size lent i lent) (operator_image s);
    }
