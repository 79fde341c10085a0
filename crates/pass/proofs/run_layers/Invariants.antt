use Rattle.rules.proofs.Facts.Running.{RanUpTo}
use Rattle.rules.specs.Lent.{drawing_of}
use Rattle.pass.proofs.run_layers.Given as goal

abbrev pub invariant-loop-i : goal.invariant-loop-i
invariant-loop-i l = RanUpTo (drawing_of l.d) l.i l.initial.ws l.ws
