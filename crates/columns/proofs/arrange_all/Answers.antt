-- The field ends in the record, and its column in the bytes; which of the two is read and which is written, `back` says.
use Rattle.std.proofs.Common.{◌∙◌, arith}
use Rattle.columns.proofs.Turns.{arranging_start, arranging_end, back_movable, back_turn, forth_movable, forth_turn, column_room, field_room}
use Rattle.columns.proofs.arrange_all.Goals as goal
use Rattle.columns.proofs.arrange_all.Goals.{then-back, else-back}

pub loop-w-init : goal.loop-w-init
loop-w-init c = arranging_start c.args.back c.requires

pub move_column-requires : goal.move_column-requires
move_column-requires c = back_movable c.requires c.loop-w.invariant c.loop-w-test.true c.from-width.ensures c.if-back.true

pub move_column-requires-else-back : goal.move_column-requires-else-back
move_column-requires-else-back c = forth_movable c.requires c.loop-w.invariant c.loop-w-test.true c.from-width.ensures c.if-back.false

pub overflow_add-at : goal.overflow_add-at
overflow_add-at c = omega (arith, field_room c.loop-w.invariant.here c.loop-w-test.true c.from-width.ensures)

pub overflow_mul-begin : goal.overflow_mul-begin
overflow_mul-begin c = omega (arith, column_room c.loop-w.invariant.here c.loop-w-test.true c.from-width.ensures)

pub overflow_add-begin : goal.overflow_add-begin
overflow_add-begin c = omega (arith, column_room c.loop-w.invariant.here c.loop-w-test.true c.from-width.ensures)

pub loop-w-preserved : goal.loop-w-preserved
loop-w-preserved c =
    elim c.if-back.branch [
      | then-back w ↦ back_turn c.requires c.loop-w.invariant c.loop-w-test.true c.from-width.ensures w.if-back.true (w.out-is ∙ w.move_column.ensures)
      | else-back w ↦ forth_turn c.requires c.loop-w.invariant c.loop-w-test.true c.from-width.ensures w.if-back.false (w.out-is ∙ w.move_column-else-back.ensures)
    ]

pub returns : goal.returns
returns c = arranging_end c.args.back c.requires c.loop-w.invariant c.loop-w-test.false
