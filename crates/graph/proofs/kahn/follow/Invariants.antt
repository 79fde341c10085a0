use Rattle.std.proofs.Common.{◌<◌, ◌+◌, ◌≡◌, length, get_or, drop}
use Rattle.rules.specs.Inner.Table.{successors}
use Rattle.rules.specs.Inner.Walk.{Standing}
use Rattle.graph.proofs.kahn.follow.Given as goal

abbrev pub invariant-loop-s : goal.invariant-loop-s
invariant-loop-s l = (l.last < length l.fn.degrees) × (l.left ≡ get_or l.degrees l.last 0) × (l.depth ≡ get_or l.depths l.last 0)
    × Standing (successors (length l.fn.degrees) l.table) (length l.fn.degrees) (l.head + 1) l.len (drop l.s-index l.listed) l.far l.degrees l.queue l.depths
