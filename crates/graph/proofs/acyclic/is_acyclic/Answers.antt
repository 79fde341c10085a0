use Rattle.std.proofs.Common.{◌≡◌}
use Rattle.rules.specs.Lent.{drawing_of}
use Rattle.rules.specs.Drawing.{Drawing}
use Rattle.rules.specs.Calls.{drawing_refusal}
use Rattle.rules.proofs.Facts.Accepts.{accepted_iff}
use Rattle.rules.proofs.Facts.Acyclic.{acyclic_handed, acyclic_short, acyclic_decided}
use Rattle.graph.proofs.acyclic.is_acyclic.Goals.{In_ok-d}
use Rattle.graph.proofs.acyclic.is_acyclic.Goals as goal

-- the drawing passed the checks
module _ (c : In_ok-d) where
  abbrev d : Drawing
  d = drawing_of c.in_ok-d.d.drawing

  fine : drawing_refusal d ≡ 0
  fine = (accepted_iff d).1 c.in_ok-d.d.accepted

pub returns-in_err-d : goal.returns-in_err-d
returns-in_err-d c = acyclic_handed _ c.accept.ensures.refusal c.in_err-d.was c.from_residual.ensures.1

pub returns-then-ws-words : goal.returns-then-ws-words
returns-then-ws-words c =
    rw c.in_ok-d.ensures.same at
    (acyclic_short _ c.args.ws.now c.workspace_need-words.result c.workspace_need-words.ensures (fine (goal.at.returns-then-ws-words c).In_ok-d) c.if-ws-words.true)

pub returns : goal.returns
returns c =
    rw c.in_ok-d.ensures.same at
    (acyclic_decided _ c.args.ws.now c.workspace_need-words.result c.workspace_need-words.ensures c.decide.new.ws c.decide.result (fine (goal.at.returns c).In_ok-d) c.if-ws-words.false c.decide.ensures)
