use Rattle.std.proofs.Common.{List, ℕ, ◌++◌, length}
use Rattle.rules.specs.Program.{lines, operations_header}
use Rattle.text.specs.Writing.{operations}
use Rattle.text.proofs.Facts.Puts.{Left, operations_left, left_room, left_more, left_last}
use Rattle.text.proofs.writer.Writer.put_operations.Goals.{After-count_unplaced-unplaced, After-put_header}
use Rattle.text.proofs.writer.Writer.put_operations.Goals as goal

-- what is left to write: at first, and after the header
module _ (c : After-count_unplaced-unplaced) where
  abbrev header : List ℕ
  header = operations_header (length c.args.orders.now) c.count_unplaced-unplaced.result

  abbrev body : List ℕ
  body = lines 0 c.args.orders.now c.args.marks.now

  begin : Left c.args.self.now (operations c.args.orders.now c.args.marks.now) c.args.self.now (header ++ body)
  begin = operations_left c.args.self.now c.args.orders.now c.args.marks.now _ c.count_unplaced-unplaced.ensures c.requires.room

module _ (c : After-put_header) where
  after : Left c.args.self.now (operations c.args.orders.now c.args.marks.now) c.put_header.new.self (lines 0 c.args.orders.now c.args.marks.now)
  after =
      left_more {bs = operations_header (length c.args.orders.now) c.count_unplaced-unplaced.result}
      (operations_left c.args.self.now c.args.orders.now c.args.marks.now _ c.count_unplaced-unplaced.ensures c.requires.room)
      c.put_header.ensures

pub put_header-requires : goal.put_header-requires
put_header-requires c =
    let b = (goal.at.put_header-requires c).After-count_unplaced-unplaced in
    left_room (header b) (body b) (begin b)

pub put_lines-requires-clause-room : goal.put_lines-requires-clause-room
put_lines-requires-clause-room c = (after (goal.at.put_lines-requires-clause-room c).After-put_header).left.room

pub returns : goal.returns
returns c = left_last (after (goal.at.returns c).After-put_header) c.put_lines.ensures
