use Rattle.rules.proofs.Facts.Running.{Storing}
use Rattle.rules.specs.Lent.{drawing_of}
use Rattle.pass.proofs.store_layer.Given as goal

abbrev pub invariant-loop-q : goal.invariant-loop-q
invariant-loop-q l = Storing (drawing_of l.d) l.lo l.hi l.initial.ws l.ws l.q
