use Rattle.std.proofs.Common.{map, take}
use Rattle.rules.specs.Inner.Rows.{Put, row_of}
use Rattle.rules.specs.Lists.{concat}
use Rattle.indexed_coproduct.proofs.flatmap.copy_rows.Given as goal

abbrev pub invariant-loop-p : goal.invariant-loop-p
invariant-loop-p l = Put l.at (concat (map (row_of l.table.offsets.now l.table.entries.now) (take l.p l.list))) l.initial.vals l.vals l.to
