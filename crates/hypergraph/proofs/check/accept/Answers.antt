use Rattle.rules.proofs.Facts.Fine.{check_drawing_fine}
use Rattle.hypergraph.proofs.check.accept.Goals as goal

-- a drawing that passed the checks is accepted
pub invariant_of-result : goal.invariant_of-result
invariant_of-result c = record { accepted = (check_drawing_fine c.check_drawing.ensures).0 c.in_ok-check_drawing.was }
