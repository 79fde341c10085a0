use Rattle.std.proofs.Common.{ℕ, ◌+◌, ◌++◌, drop, get_or}
use Rattle.rules.specs.Program.{item, column}
use Rattle.rules.proofs.Facts.Writing.{column_more, column_end}
use Rattle.text.proofs.Facts.Puts.{Left, left_more, left_room, left_none}
use Rattle.text.proofs.writer.Writer.put_column.Goals.{In-loop-value}
use Rattle.text.proofs.writer.Writer.put_column.Goals as goal

-- the next line
module _ (c : In-loop-value) where
  abbrev value : ℕ
  value = get_or c.args.values.now c.loop-value.value-index 0

  turn : Left c.args.self.now (column c.args.values.now) c.loop-value.self (item value 10 ++ column (drop (c.loop-value.value-index + 1) c.args.values.now))
  turn = rw (column_more c.args.values.now c.loop-value.value-index c.loop-value-test.true) at c.loop-value.invariant

pub put_item-requires : goal.put_item-requires
put_item-requires c = let s = (goal.at.put_item-requires c).In-loop-value in left_room (item (value s) 10) _ (turn s)

pub loop-value-preserved : goal.loop-value-preserved
loop-value-preserved c = let s = (goal.at.loop-value-preserved c).In-loop-value in left_more {bs = item (value s) 10} (turn s) c.put_item.ensures

pub returns : goal.returns
returns c = left_none (rw (column_end c.args.values.now c.loop-value.value-index c.loop-value-test.false) at c.loop-value.invariant)
