use Rattle.std.proofs.Common.{◌-◌}
use Rattle.rules.specs.Inner.Table.{successors}
use Rattle.rules.specs.Inner.Walk.{Standing}
use Rattle.rules.specs.Inner.Words.{up_from}
use Rattle.graph.proofs.kahn.begin.Given as goal

abbrev pub invariant-loop-i : goal.invariant-loop-i
invariant-loop-i l = Standing (successors l.k l.table) l.k 0 l.tail (up_from l.i (l.k - l.i)) 0 l.degrees l.queue l.depths
