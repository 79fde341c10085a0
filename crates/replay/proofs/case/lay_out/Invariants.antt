use Rattle.std.proofs.Common.{◌≤◌, length}
use Rattle.replay.proofs.case.lay_out.Given as goal

abbrev pub invariant-loop-end : goal.invariant-loop-end
invariant-loop-end l = l.to ≤ length l.words
