-- `ask_written`: the longest book has as many bytes as an image. Assumes nothing.
use Rattle.base.specs.Basics.{arith}
use Rattle.book_format.specs.Book.{version_of}
use Rattle.book_format.proofs.Offsets.{header_range, length_by_lem, size_most}
use Rattle.book_image.proofs.ask_written.Goals as goal

pub ask_in-requires : goal.ask_in-requires
ask_in-requires c = let a = c.args in
    let v = version_of a.image.now in
    (c.requires.0, c.requires.1, c.requires.2, omega (arith, c.requires.0.few, c.requires.0.many, c.requires.2, length_by_lem v a.n a.m, size_most v a.n 64 c.requires.0.few, header_range v))
