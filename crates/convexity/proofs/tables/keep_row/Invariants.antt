use Rattle.std.proofs.Common.{take}
use Rattle.convexity.specs.Tables.{Kept}
use Rattle.convexity.proofs.tables.keep_row.Given as goal

abbrev pub invariant-loop-item : goal.invariant-loop-item
invariant-loop-item l = Kept l.flags l.q (take l.item-index l.row) l.initial.table l.to l.table
