use Rattle.std.proofs.Common.{arith, ◌+◌, ◌-◌, ◌*◌}
use Rattle.rules.proofs.Facts.EvalCall.{prepared_at}
use Rattle.rules.specs.Drawing.{Drawing, node_count, op_count}
use Rattle.rules.specs.Lent.{drawing_of}
use Rattle.eval.proofs.prepare.Goals.{Start}
use Rattle.eval.proofs.prepare.Goals as goal

module _ (s : Start) where
  abbrev d : Drawing
  d = drawing_of s.args.d.now.drawing

pub returns : goal.returns
returns c = let m = op_count (d (goal.at.returns c).Start) in
    prepared_at (d (goal.at.returns c).Start) c.args.ws.now c.args.d.now.accepted c.requires.ws_len c.requires.layering c.requires.suited
    (4 * m + 1 + m - (4 * m + 1)) (4 * m + 1 + m) (4 * m + 1 + m + m - (4 * m + 1 + m)) (4 * m + 1 + m + m) (4 * m + 1 + m + m + node_count (d (goal.at.returns c).Start) - (4 * m + 1 + m + m))
    c.starts.new.t c.starts-2.new.t c.fill.new.self
    (omega arith) (omega arith) (omega arith) (omega arith) (omega arith) c.starts.auto.t c.starts-2.auto.t
    c.starts.ensures.each c.starts-2.ensures.each (c.fill.ensures.after (λ y e. e))
