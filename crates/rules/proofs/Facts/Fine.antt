-- WHAT FINE MEANS: a check answers fine exactly if what it was lent is valid, and validation exactly if the maps are natural too.
use Rattle.std.specs.Prelude.{ℕ, ◌↔◌, ◌≡◌, refl}
use Rattle.std.proofs.Common.{sym, ap, ◌∙◌}
use Rattle.rules.specs.Drawing.{Drawing, Maps, Boundary, Accepted, AcceptedMaps, AcceptedBoundary, node_count}
use Rattle.rules.specs.Maps.{Natural}
use Rattle.rules.specs.Refusals.{refusal_of}
use Rattle.rules.specs.Promises.{CheckDrawing, CheckMaps, CheckBoundary, Validate}
use Rattle.rules.proofs.Facts.Refusing.{number-some}
use Rattle.rules.proofs.Facts.Accepts.{accepted_iff, maps_iff, boundary_iff}
use Rattle.rules.proofs.Facts.ArrowInputs.{validate_iff}
use Rattle.std.specs.Prelude.{Result, Ok, Err}
use Rattle.rules.specs.declared.Refusal.{Refusal}

-- an answer without a number
pub none_fine : (r : Result Unit Refusal) → refusal_of r ≡ 0 → r ≡ Ok tt
none_fine (Ok tt) e = refl
none_fine (Err why) e = absurd (number-some why e)

-- an answer whose number is k, where k is 0 exactly if P holds
fine_iff : {P : Type 0} {k : ℕ} (r : Result Unit Refusal) → refusal_of r ≡ k → (k ≡ 0) ↔ P → (r ≡ Ok tt) ↔ P
fine_iff r e i = (λ q. i.0 (sym e ∙ ap refusal_of q), λ p. none_fine r (e ∙ i.1 p))

pub check_drawing_fine : {d : Drawing} {r : Result Unit Refusal} → CheckDrawing d r → (r ≡ Ok tt) ↔ Accepted d
check_drawing_fine {d} {r} p = fine_iff r p.refusal (accepted_iff d)

pub check_maps_fine : {f : Maps} {r : Result Unit Refusal} → CheckMaps f r → (r ≡ Ok tt) ↔ AcceptedMaps f
check_maps_fine {f} {r} p = fine_iff r p.refusal (maps_iff f)

pub check_boundary_fine : {d : Drawing} {b : Boundary} {r : Result Unit Refusal} → CheckBoundary d b r → (r ≡ Ok tt) ↔ (Accepted d × AcceptedBoundary (node_count d) b)
check_boundary_fine {d} {b} {r} p = fine_iff r p.refusal (boundary_iff d b)

pub validate_fine : {c d : Drawing} {f : Maps} {r : Result Unit Refusal} → Validate c d f r → (r ≡ Ok tt) ↔ (Accepted c × Accepted d × AcceptedMaps f × Natural c d f)
validate_fine {c} {d} {f} {r} p = fine_iff r p.refusal (validate_iff c d f)
