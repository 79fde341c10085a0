use Rattle.std.proofs.Common.{◌≤◌}
use Rattle.run_texts.proofs.number.Given as goal

abbrev pub invariant-loop-digit : goal.invariant-loop-digit
invariant-loop-digit l = l.n ≤ 65537
