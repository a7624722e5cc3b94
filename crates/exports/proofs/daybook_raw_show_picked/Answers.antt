-- `daybook_raw_show_picked` copies the shown part of the picked book to the front of 68 zeros, and leaves a part of another length as it is. Assumes nothing.
use Rattle.exports.specs.Answers.{is_yes}
use Rattle.exports.proofs.Lent.{refused}
use Rattle.exports.proofs.Shown.{shown_length, copied}
use Rattle.exports.proofs.daybook_raw_show_picked.Goals as goal

pub returns-then-record-ne-RECORD_SIZE : goal.returns-then-record-ne-RECORD_SIZE
returns-then-record-ne-RECORD_SIZE c = refused 68 c.args.record.now _ _ _ c.if-record-ne-RECORD_SIZE.true

pub copy_part-requires : goal.copy_part-requires
unfolding is_yes
copy_part-requires c = let handed = (rw (c.from.ensures, c.lent_store-store.ensures) at c.show_picked-shown.ensures) in rw (handed.shows, c.if-record-ne-RECORD_SIZE.false) (shown_length _ _ _)

pub returns : goal.returns
unfolding is_yes
returns c = let handed = (rw (c.from.ensures, c.lent_store-store.ensures) at c.show_picked-shown.ensures) in
    rw c.copy_part.ensures.number (copied _ _ _ _ _ _ _ _ c.if-record-ne-RECORD_SIZE.false handed c.copy_part.ensures.bytes)
