use Rattle.std.proofs.Common.{[], ◌≤◌, ◌-◌, length}
use Rattle.rules.specs.Inner.Table.{successors}
use Rattle.rules.specs.Inner.Walk.{Standing}
use Rattle.graph.proofs.kahn.kahn.Given as goal

abbrev pub invariant-loop-head : goal.invariant-loop-head
invariant-loop-head l = (l.head ≤ l.tail) × Standing (successors (length l.fn.degrees) l.table) (length l.fn.degrees) l.head l.tail [] 0 l.degrees l.queue l.depths

abbrev pub decreases-loop-head : goal.decreases-loop-head
decreases-loop-head l = length l.fn.degrees - l.head
