use Rattle.std.proofs.Common.{◌≡◌, ◌≤◌, ◌∙◌, refl, length, length-take-le}
use Rattle.rules.specs.Drawing.{Drawing}
use Rattle.rules.specs.Lent.{drawing_of}
use Rattle.rules.specs.Calls.{drawing_refusal}
use Rattle.rules.specs.Refusals.{workspace_need}
use Rattle.rules.proofs.Facts.Accepts.{accepted_iff}
use Rattle.rules.proofs.Facts.RowsCalls.{rows_refused, rows_fine, rows_done}
use Rattle.rules.proofs.Facts.Rooms.{rooms_three}
use Rattle.rules.proofs.Facts.ConverseTable.{lengths_put}
use Rattle.hypergraph.proofs.converse.write_converse.Goals.{Start, Else-lens-n}
use Rattle.hypergraph.proofs.converse.write_converse.Goals as goal

module _ (s : Start) where
  abbrev d : Drawing
  d = drawing_of s.args.d.now.drawing

  fine : drawing_refusal d ≡ 0
  fine = (accepted_iff d).1 s.args.d.now.accepted

-- the rooms fit
module _ (c : Else-lens-n) where
  fits : (length c.args.d.now.drawing.nodes.now ≤ length c.args.lens.now) × (length c.args.lists.now.values.now ≤ length c.args.vals.now) × (c.workspace_need-words.result ≤ length c.args.ws.now)
  fits = rooms_three {need₁ = length c.args.d.now.drawing.nodes.now} {room₁ = length c.args.lens.now} {need₂ = length c.args.lists.now.values.now} {room₂ = length c.args.vals.now} {words = c.workspace_need-words.result} {room = length c.args.ws.now} c.if-lens-n.false

pub returns-then-lens-n : goal.returns-then-lens-n
returns-then-lens-n c =
    rows_refused (d (goal.at.returns-then-lens-n c).Start) _ _ _ _ _ _ _ _ _ _ c.workspace_need-words.result _ (fine (goal.at.returns-then-lens-n c).Start) c.workspace_need-words.ensures refl c.if-lens-n.true

pub returns : goal.returns
returns c =
    let room = fits (goal.at.returns c).Else-lens-n in
    let n = length c.args.d.now.drawing.nodes.now in
    let long : length c.bincount.new.t ≡ n = c.bincount.auto.t ∙ length-take-le n c.args.lens.now room.0 in
    let counted = lengths_put n c.args.lists.now.lengths.now c.args.lists.now.values.now c.args.lens.now c.bincount.new.t c.requires.listed.total room.0 c.bincount.ensures in
    rw c.workspace_need-words.ensures
    (rows_fine (d (goal.at.returns c).Start) _ _ _ _ _ _ _ _ _ _ (fine (goal.at.returns c).Start)
    (rows_done _ _ _ _ _ _ (workspace_need (d (goal.at.returns c).Start)) _ _ _ _ _ _ _ (rw c.workspace_need-words.ensures at c.if-lens-n.false) (record { lengths = counted; entries = rw long at c.write_entries.ensures.0 })
    (rw (c.write_entries.ensures.1, c.workspace_need-words.ensures, length-take-le (workspace_need (d (goal.at.returns c).Start)) c.args.ws.now (rw c.workspace_need-words.ensures at room.2)))))
