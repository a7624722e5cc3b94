-- `start` writes a log that holds the book, and makes all entries 0. Assumes nothing.
use Rattle.base.specs.Basics.{ap, ◌∙◌, ◌*◌}
use Rattle.log_entries.proofs.Parts.{start_long, start_full, start_done}
use Rattle.log_entries.specs.Entries.{cleared}
use Rattle.log_entries.proofs.start.Goals as goal

pub returns-then-book-gt9512 : goal.returns-then-book-gt9512
returns-then-book-gt9512 c = record { value = (start_full c.args.log.now c.args.book.now c.if-log-ne271668.false c.if-book-gt9512.true).0; log_after = (start_full c.args.log.now c.args.book.now c.if-log-ne271668.false c.if-book-gt9512.true).1 }

pub returns : goal.returns
returns c = record {
  value = (start_done c.args.log.now c.args.book.now c.if-log-ne271668.false
      c.if-book-gt9512.false
      (c.drop_entries.ensures ∙ ap (cleared 9524 (1024 * 256)) c.seal.ensures)).0;
  log_after = (start_done c.args.log.now c.args.book.now c.if-log-ne271668.false
      c.if-book-gt9512.false
      (c.drop_entries.ensures ∙ ap (cleared 9524 (1024 * 256)) c.seal.ensures)).1;
}

pub returns-then-log-ne271668 : goal.returns-then-log-ne271668
returns-then-log-ne271668 c = record { value = (start_long c.args.log.now c.args.book.now c.if-log-ne271668.true).0; log_after = (start_long c.args.log.now c.args.book.now c.if-log-ne271668.true).1 }
