use Rattle.std.proofs.Common.{◌-◌, length}
use Rattle.rules.specs.Inner.Table.{successors}
use Rattle.convexity.specs.Walk.{Searching}
use Rattle.convexity.proofs.walk.walk.Given as goal

abbrev pub invariant-loop-v : goal.invariant-loop-v
invariant-loop-v l = Searching (successors l.full.count l.full.words.now) (successors l.unselected.count l.unselected.words.now) l.w l.v-index 0 l.tail l.marks l.queue

abbrev pub invariant-loop-head : goal.invariant-loop-head
invariant-loop-head l = Searching (successors l.full.count l.full.words.now) (successors l.unselected.count l.unselected.words.now) l.w (length l.w) l.head l.tail l.marks l.queue

abbrev pub decreases-loop-head : goal.decreases-loop-head
decreases-loop-head l = length l.queue - l.head
