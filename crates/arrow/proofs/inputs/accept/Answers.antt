use Rattle.rules.specs.Lent.{drawing_of, maps_of}
use Rattle.rules.specs.Drawing.{Accepted, AcceptedMaps}
use Rattle.rules.proofs.Facts.Refusing.{fine_none}
use Rattle.rules.proofs.Facts.ArrowInputs.{inputs_accepted}
use Rattle.arrow.proofs.inputs.accept.Goals.{In_ok-check_arrow_inputs}
use Rattle.arrow.proofs.inputs.accept.Goals as goal

-- what passed the checks is valid
module _ (c : In_ok-check_arrow_inputs) where
  accepted : Accepted (drawing_of c.args.c.now) × Accepted (drawing_of c.args.d.now) × AcceptedMaps (maps_of c.args.f.now)
  accepted = inputs_accepted _ _ _ (fine_none c.check_arrow_inputs.result c.check_arrow_inputs.ensures c.in_ok-check_arrow_inputs.was)

-- Each drawing's fact is found among both, so that one in the other's place is refused where the promise says which is which.
pub invariant_of-result : goal.invariant_of-result
invariant_of-result c =
    let a = accepted (goal.at.invariant_of-result c).In_ok-check_arrow_inputs in
    record { source_accepted = search (a.0, a.1); target_accepted = search (a.0, a.1); accepted = a.2 }
