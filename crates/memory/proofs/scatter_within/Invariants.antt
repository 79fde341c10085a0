use Rattle.rules.proofs.Facts.Evaluating.{Scattering}
use Rattle.memory.proofs.scatter_within.Given as goal

abbrev pub invariant-loop-i : goal.invariant-loop-i
invariant-loop-i l = Scattering l.base l.n l.from l.places l.initial.ws l.ws l.i
