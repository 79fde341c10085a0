use Rattle.std.proofs.Common.{drop}
use Rattle.rules.specs.Program.{column}
use Rattle.text.proofs.Facts.Puts.{Left}
use Rattle.text.proofs.writer.Writer.put_column.Given as goal

abbrev pub invariant-loop-value : goal.invariant-loop-value
invariant-loop-value l = Left l.initial.self (column l.values) l.self (column (drop l.value-index l.values))
