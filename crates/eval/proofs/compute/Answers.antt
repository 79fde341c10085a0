use Rattle.std.proofs.Common.{arith, ◌∙◌, ◌+◌, ◌-◌, ◌*◌}
use Rattle.rules.proofs.Facts.EvalCall.{computed}
use Rattle.rules.specs.Drawing.{Drawing, Boundary, node_count, op_count}
use Rattle.rules.specs.Lent.{drawing_of, boundary_of}
use Rattle.eval.proofs.compute.Goals.{Start}
use Rattle.eval.proofs.compute.Goals as goal

module _ (s : Start) where
  abbrev d : Drawing
  d = drawing_of s.args.page.now.drawing.drawing

  abbrev b : Boundary
  b = boundary_of s.args.page.now.boundary

pub returns : goal.returns
returns c = let m = op_count (d (goal.at.returns c).Start) in
    (c.run_layers.ensures.long ∙ c.load.ensures.long, computed (d (goal.at.returns c).Start) (b (goal.at.returns c).Start) c.args.page.now.values.now c.args.ws.now c.load.new.ws c.run_layers.new.ws c.gather.new.out c.load.ensures c.run_layers.ensures (6 * m + 1 + node_count (d (goal.at.returns c).Start) - (6 * m + 1)) (omega arith) c.gather.ensures)
