use Rattle.std.proofs.Common.{◌≡◌, true, ℕ, ◌<◌}
use Rattle.rules.specs.Inner.Evaluating.{suits_by}
use Rattle.eval.proofs.all_suit.Given as goal

abbrev pub invariant-loop-e : goal.invariant-loop-e
invariant-loop-e l = (k : ℕ) → k < l.e → suits_by l.d.drawing.ops.now l.d.drawing.sources.lengths.now l.d.drawing.targets.lengths.now k ≡ true
