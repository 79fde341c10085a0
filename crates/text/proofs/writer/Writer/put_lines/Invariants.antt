use Rattle.std.proofs.Common.{drop}
use Rattle.rules.specs.Program.{lines}
use Rattle.text.proofs.Facts.Puts.{Left}
use Rattle.text.proofs.writer.Writer.put_lines.Given as goal

abbrev pub invariant-loop-e : goal.invariant-loop-e
invariant-loop-e l = Left l.initial.self (lines 0 l.orders l.marks) l.self (lines l.e (drop l.e l.orders) (drop l.e l.marks))
