use Rattle.std.proofs.Common.{take}
use Rattle.convexity.specs.Walk.{Followed}
use Rattle.convexity.proofs.walk.follow.Given as goal

abbrev pub invariant-loop-item : goal.invariant-loop-item
invariant-loop-item l = Followed (take l.item-index l.row) l.tail l.initial.marks l.initial.queue l.len l.marks l.queue
