use Rattle.rules.proofs.Facts.Operating.{Firsts}
use Rattle.operation.proofs.Inputs.first_smallest.Given as goal

abbrev pub invariant-loop-i : goal.invariant-loop-i
invariant-loop-i l = Firsts l.self l.best l.i
