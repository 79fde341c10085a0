use Rattle.std.proofs.Common.{arith, ◌<◌}
use Rattle.rules.specs.Lent.{drawing_of}
use Rattle.rules.proofs.Facts.Running.{read_next, read_runs, operation_low}
use Rattle.rules.specs.Inner.Running.{Runs, operation_at}
use Rattle.rules.specs.Drawing.{Drawing, op_count}
use Rattle.pass.proofs.read_layer.Goals.{In-loop-p, Start}
use Rattle.pass.proofs.read_layer.Goals as goal

module _ (s : Start) where
  abbrev d : Drawing
  d = drawing_of s.args.d.now

module _ (c : In-loop-p) where
  abbrev d-2 : Drawing
  d-2 = drawing_of c.args.d.now

  runs : Runs d-2 c.loop-p.ws
  runs = read_runs d-2 c.args.lo c.loop-p.p c.args.ws.now c.loop-p.ws c.requires.runs c.loop-p.invariant

  low : operation_at d-2 c.loop-p.ws c.loop-p.p < op_count d-2
  low = operation_low d-2 c.loop-p.ws runs c.loop-p.p (omega arith)

pub read_one-requires-clause-e_in_bounds : goal.read_one-requires-clause-e_in_bounds
read_one-requires-clause-e_in_bounds c = low (goal.at.read_one-requires-clause-e_in_bounds c).In-loop-p

pub loop-p-preserved : goal.loop-p-preserved
loop-p-preserved c = read_next (d (goal.at.loop-p-preserved c).Start) c.args.ws.now c.requires.runs c.args.lo c.loop-p.p (omega arith) c.loop-p.ws c.read_one.new.ws c.loop-p.invariant c.read_one.ensures
