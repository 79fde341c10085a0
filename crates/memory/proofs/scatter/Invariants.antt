use Rattle.std.proofs.Common.{◌≡◌, drop}
use Rattle.rules.specs.Evaluation.{store_all}
use Rattle.memory.proofs.scatter.Given as goal

abbrev pub invariant-loop-i : goal.invariant-loop-i
invariant-loop-i l = store_all (drop l.i l.places) (drop l.i l.values) l.memory ≡ store_all l.places l.values l.initial.memory
