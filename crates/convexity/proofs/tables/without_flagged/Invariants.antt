use Rattle.std.proofs.Common.{◌+◌, ◌≤◌, get_or}
use Rattle.convexity.specs.Tables.{Rowed, unflagged}
use Rattle.convexity.proofs.tables.without_flagged.Given as goal

abbrev pub invariant-loop-v : goal.invariant-loop-v
invariant-loop-v l = (l.q ≤ l.n + 1 + get_or l.full.words.now l.v 0) × Rowed (unflagged l.flags l.full.count l.full.words.now) l.n l.v l.q l.table
