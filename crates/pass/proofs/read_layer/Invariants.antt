use Rattle.rules.specs.Inner.Running.{ReadUpTo}
use Rattle.rules.specs.Lent.{drawing_of}
use Rattle.pass.proofs.read_layer.Given as goal

abbrev pub invariant-loop-p : goal.invariant-loop-p
invariant-loop-p l = ReadUpTo (drawing_of l.d) l.lo l.p l.initial.ws l.ws
