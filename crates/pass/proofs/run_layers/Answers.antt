use Rattle.std.proofs.Common.{get_or, refl, arith, ◌+◌, ◌*◌, ◌≤◌, ◌<◌}
use Rattle.rules.specs.Lent.{drawing_of}
use Rattle.rules.proofs.Facts.Running.{ran_runs, ran_next, ran_end, offsets_rise}
use Rattle.rules.specs.Inner.Running.{Runs}
use Rattle.rules.specs.Drawing.{Drawing, op_count}
use Rattle.pass.proofs.run_layers.Goals.{In-loop-i, Start}
use Rattle.pass.proofs.run_layers.Goals as goal

module _ (s : Start) where
  abbrev d : Drawing
  d = drawing_of s.args.d.now

module _ (c : In-loop-i) where
  abbrev d-2 : Drawing
  d-2 = drawing_of c.args.d.now

  runs : Runs d-2 c.loop-i.ws
  runs = ran_runs d-2 c.args.ws.now c.requires c.loop-i.ws c.loop-i.i c.loop-i.invariant

  -- said apart, so that a loop with another end is refused for what it leaves out and not for how its test is written
  low : c.loop-i.i < op_count d-2
  low = omega (arith, c.loop-i-test.true)

  rise : (get_or c.loop-i.ws (3 * op_count d-2 + c.loop-i.i) 0 ≤ get_or c.loop-i.ws (3 * op_count d-2 + c.loop-i.i + 1) 0) × (get_or c.loop-i.ws (3 * op_count d-2 + c.loop-i.i + 1) 0 ≤ op_count d-2)
  rise = offsets_rise d-2 c.loop-i.ws runs c.loop-i.i low

pub run_layer-requires-clause-runs : goal.run_layer-requires-clause-runs
run_layer-requires-clause-runs c = runs (goal.at.run_layer-requires-clause-runs c).In-loop-i

pub run_layer-requires-clause-lo_le_hi : goal.run_layer-requires-clause-lo_le_hi
run_layer-requires-clause-lo_le_hi c = rise (goal.at.run_layer-requires-clause-lo_le_hi c).In-loop-i

pub loop-i-preserved : goal.loop-i-preserved
loop-i-preserved c = ran_next (d (goal.at.loop-i-preserved c).Start) c.args.ws.now c.requires c.loop-i.ws c.loop-i.i c.loop-i.invariant c.run_layer.new.ws _ _ (low (goal.at.loop-i-preserved c).In-loop-i) refl refl c.run_layer.ensures

pub returns : goal.returns
returns c = ran_end (d (goal.at.returns c).Start) c.args.ws.now c.requires c.loop-i.ws c.loop-i.i c.loop-i.invariant (omega (arith, c.loop-i-test.false))
