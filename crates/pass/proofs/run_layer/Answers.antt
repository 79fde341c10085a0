use Rattle.rules.proofs.Facts.Running.{read_runs, read_ready, read_stored}
use Rattle.rules.specs.Lent.{drawing_of}
use Rattle.rules.specs.Drawing.{Drawing}
use Rattle.pass.proofs.run_layer.Goals.{Start}
use Rattle.pass.proofs.run_layer.Goals as goal

module _ (s : Start) where
  abbrev d : Drawing
  d = drawing_of s.args.d.now

pub store_layer-requires-clause-runs : goal.store_layer-requires-clause-runs
store_layer-requires-clause-runs c = read_runs (d (goal.at.store_layer-requires-clause-runs c).Start) c.args.lo c.args.hi c.args.ws.now c.read_layer.new.ws c.requires.runs c.read_layer.ensures

pub store_layer-requires-clause-by_index : goal.store_layer-requires-clause-by_index
store_layer-requires-clause-by_index c = read_ready (d (goal.at.store_layer-requires-clause-by_index c).Start) c.args.lo c.args.hi c.args.ws.now c.read_layer.new.ws c.requires.lo_le_hi.1 c.read_layer.ensures

pub returns : goal.returns
returns c = read_stored (d (goal.at.returns c).Start) c.args.lo c.args.hi c.args.ws.now c.read_layer.new.ws c.store_layer.new.ws c.requires.lo_le_hi.0 c.requires.lo_le_hi.1 c.read_layer.ensures c.store_layer.ensures
