use Rattle.rules.proofs.Facts.Standing.{stands_last}
use Rattle.graph.proofs.kahn.kahn.Goals as goal

pub returns : goal.returns
returns c = stands_last c.args.table.now c.loop-head.invariant.1 c.loop-head.invariant.0 c.loop-head-test.false
