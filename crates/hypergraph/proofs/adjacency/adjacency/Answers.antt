use Rattle.rules.proofs.Facts.RowsCalls.{rows_handed}
use Rattle.hypergraph.proofs.adjacency.adjacency.Goals as goal

pub returns-in_err-d : goal.returns-in_err-d
returns-in_err-d c = rows_handed _ _ _ _ _ _ c.accept.ensures.refusal c.in_err-d.was c.from_residual.ensures.1
