-- DEMAND 3, over the calls: `is_convex_subgraph` on a group and `is_acyclic` on the folded drawing answer the same.
use Rattle.std.specs.Prelude.{ℕ, ◌≤◌, List, ◌↔◌, ◌≡◌, length, Bool}
use Rattle.std.proofs.Common.{sym, ◌∙◌}
use Rattle.rules.specs.Drawing.{Drawing, Maps, Accepted, AcceptedMaps}
use Rattle.rules.specs.Refusals.{refusal_of, workspace_need}
use Rattle.rules.specs.Promises.{IsConvexSubgraph, IsAcyclic}
use Rattle.rules.specs.Fold.{fold}
use Rattle.rules.specs.Maps.{nodes_of, ops_of, Natural, Monomorphism, Convex}
use Rattle.rules.specs.Analysis.{Acyclic}
use Rattle.rules.proofs.Facts.Rooms.{acyclic_enough}
use Rattle.rules.proofs.Facts.Accepts.{accepted_iff}
use Rattle.rules.proofs.Facts.ArrowInputs.{convex_enough, accepted_inputs}
use Rattle.rules.proofs.Facts.Determined.{verdict_same}
use Rattle.rules.proofs.Facts.FoldDraw.{fold_theorem}
use Rattle.rules.proofs.Facts.FoldFits.{fold_fits}
use Rattle.std.specs.Prelude.{Result}
use Rattle.rules.specs.declared.Refusal.{Refusal}

-- Valid drawings and maps; natural, injective maps; a target without cycles; W words for each call: then neither call is refused, and
-- whatever meets their promises, the two verdicts are the same.
pub demand-3 : {c d : Drawing} {f : Maps} → Accepted c → Accepted d → AcceptedMaps f → Natural c d f → Monomorphism f → Acyclic d
    → {ws ws' vs vs' : List ℕ} → workspace_need d ≤ length ws → workspace_need (fold d (nodes_of f) (ops_of f)) ≤ length vs
    → {r q : Result Bool Refusal} → IsConvexSubgraph c d f ws ws' r → IsAcyclic (fold d (nodes_of f) (ops_of f)) vs vs' q
    → (refusal_of r ≡ 0) × (refusal_of q ≡ 0) × (r ≡ q)
demand-3 {c} {d} {f} ac ad am natural injective no_cycle {ws} {vs = vs} room room' {r} {q} convex acyclic = (
  taken,
  taken',
  verdict_same r q (taken ∙ sym taken') (λ y. same.0 (convex.yes y)) (λ n a. convex.no n (same.1 a)) acyclic.yes acyclic.no,
)
  where
    folded : Drawing
    folded = fold d (nodes_of f) (ops_of f)

    same : Convex c d f ↔ Acyclic folded
    same = fold_theorem ac ad natural injective no_cycle

    taken : refusal_of r ≡ 0
    taken = convex.refusal ∙ convex_enough c d f (length ws) (accepted_inputs c d f ac ad am) room

    taken' : refusal_of q ≡ 0
    taken' = acyclic.refusal ∙ acyclic_enough folded ((accepted_iff folded).1 (fold_fits ad am natural)) (length vs) room'
