use Rattle.std.proofs.Common.{arith, ℕ, ◌<◌}
use Rattle.rules.specs.Lent.{drawing_of}
use Rattle.rules.proofs.Facts.Running.{storing_begin, storing_front, storing_next, storing_end, runs_kept, operation_low}
use Rattle.rules.specs.Inner.Running.{Runs, operation_at}
use Rattle.rules.specs.Drawing.{Drawing, op_count}
use Rattle.pass.proofs.store_layer.Goals.{In-loop-q, Start}
use Rattle.pass.proofs.store_layer.Goals as goal

module _ (s : Start) where
  abbrev d : Drawing
  d = drawing_of s.args.d.now

module _ (c : In-loop-q) where
  abbrev d-2 : Drawing
  d-2 = drawing_of c.args.d.now

  runs : Runs d-2 c.loop-q.ws
  runs = runs_kept d-2 c.args.ws.now c.loop-q.ws c.loop-q.invariant.long (storing_front d-2 c.args.ws.now c.requires.runs c.args.lo c.args.hi c.requires.lo_le_hi.0 c.requires.lo_le_hi.1 c.loop-q.ws c.loop-q.q c.loop-q.invariant) c.requires.runs

  low : (q : ℕ) → q < op_count d-2 → operation_at d-2 c.loop-q.ws q < op_count d-2
  low = operation_low d-2 c.loop-q.ws runs

pub loop-q-init : goal.loop-q-init
loop-q-init c = storing_begin (d (goal.at.loop-q-init c).Start) c.args.ws.now c.requires.runs c.args.lo c.args.hi c.requires.lo_le_hi.0 c.requires.lo_le_hi.1

pub store_one-requires-clause-runs : goal.store_one-requires-clause-runs
store_one-requires-clause-runs c = runs (goal.at.store_one-requires-clause-runs c).In-loop-q

pub store_one-requires-clause-e_in_bounds : goal.store_one-requires-clause-e_in_bounds
store_one-requires-clause-e_in_bounds c = low (goal.at.store_one-requires-clause-e_in_bounds c).In-loop-q _ (omega arith)

pub loop-q-preserved : goal.loop-q-preserved
loop-q-preserved c =
    storing_next (d (goal.at.loop-q-preserved c).Start) c.args.ws.now c.requires.runs c.args.lo c.args.hi c.requires.lo_le_hi.0 c.requires.lo_le_hi.1 c.loop-q.ws c.loop-q.q c.loop-q.invariant (omega arith) (omega arith) c.requires.by_index c.store_one.new.ws c.store_one.ensures

pub returns : goal.returns
returns c =
    storing_end (d (goal.at.returns c).Start) c.args.ws.now c.requires.runs c.args.lo c.args.hi c.requires.lo_le_hi.0 c.requires.lo_le_hi.1 c.loop-q.ws c.loop-q.q c.loop-q.invariant (omega arith)
