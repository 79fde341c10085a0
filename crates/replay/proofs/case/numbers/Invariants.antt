use Rattle.std.proofs.Common.{◌≤◌, length}
use Rattle.replay.proofs.case.numbers.Given as goal

abbrev pub invariant-loop-byte : goal.invariant-loop-byte
invariant-loop-byte l = l.count ≤ length l.into
