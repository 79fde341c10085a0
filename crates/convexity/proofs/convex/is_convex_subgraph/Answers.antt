use Rattle.std.proofs.Common.{ap, sym, ◌≡◌, ◌∙◌}
use Rattle.rules.specs.Lent.{drawing_of, maps_of}
use Rattle.rules.specs.Refusals.{refusal_of, workspace_need}
use Rattle.rules.specs.Inner.Arrow.{arrow_inputs_refusal}
use Rattle.rules.proofs.Facts.ConvexDecides.{convex_handed, convex_no_room, convex_decided}
use Rattle.convexity.proofs.convex.is_convex_subgraph.Goals.{After-workspace_need-words}
use Rattle.convexity.proofs.convex.is_convex_subgraph.Goals as goal

-- the inputs are valid
module _ (c : After-workspace_need-words) where
  fine : arrow_inputs_refusal (drawing_of c.args.c.now) (drawing_of c.args.d.now) (maps_of c.args.f.now) ≡ 0
  fine = sym c.accept.ensures.refusal ∙ ap refusal_of c.in_ok-f.was

  words : c.workspace_need-words.result ≡ workspace_need (drawing_of c.args.d.now)
  words = rw c.in_ok-f.ensures.same.1 at c.workspace_need-words.ensures

pub returns-in_err-f : goal.returns-in_err-f
returns-in_err-f c = convex_handed _ _ _ _ c.accept.ensures.refusal c.in_err-f.was c.from_residual.ensures.1

pub returns-then-ws-words : goal.returns-then-ws-words
returns-then-ws-words c = let a = (goal.at.returns-then-ws-words c).After-workspace_need-words in convex_no_room _ _ _ _ _ (words a) (fine a) c.if-ws-words.true

pub returns : goal.returns
returns c =
    let a = (goal.at.returns c).After-workspace_need-words in
    let same = c.in_ok-f.ensures.same in
    convex_decided _ _ _ _ _ _ _ (words a) (fine a) c.if-ws-words.false (rw (same.0, same.1, same.2) at c.decide.ensures)
