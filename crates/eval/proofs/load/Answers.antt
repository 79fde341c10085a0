use Rattle.std.proofs.Common.{arith, ◌+◌, ◌-◌, ◌*◌}
use Rattle.rules.proofs.Facts.EvalCall.{loaded}
use Rattle.rules.specs.Drawing.{Drawing, Boundary, node_count, op_count}
use Rattle.rules.specs.Lent.{drawing_of, boundary_of}
use Rattle.eval.proofs.load.Goals.{Start}
use Rattle.eval.proofs.load.Goals as goal

module _ (s : Start) where
  abbrev d : Drawing
  d = drawing_of s.args.page.now.drawing.drawing

  abbrev b : Boundary
  b = boundary_of s.args.page.now.boundary

pub returns : goal.returns
returns c = let m = op_count (d (goal.at.returns c).Start) in
    loaded (d (goal.at.returns c).Start) (b (goal.at.returns c).Start) c.args.page.now.values.now c.args.ws.now c.prepare.new.ws c.prepare.ensures (6 * m + 1 + node_count (d (goal.at.returns c).Start) - (6 * m + 1)) c.scatter.new.memory (omega arith) c.scatter.ensures
