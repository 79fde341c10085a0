use Rattle.std.proofs.Common.{ℕ, ◌+◌, ◌≡◌, ◌∙◌, arith, length, drop, length-take-le}
use Rattle.rules.proofs.Facts.Acyclic.{parts_tell}
use Rattle.graph.proofs.acyclic.walk.Goals.{After-split_at_mut-queue}
use Rattle.graph.proofs.acyclic.walk.Goals as goal

-- the workspace is shared out
module _ (c : After-split_at_mut-queue) where
  abbrev k : ℕ
  k = length c.args.d.now.drawing.nodes.now + length c.args.d.now.drawing.ops.now

  table_long : length c.split_at_mut-table.result.0.now ≡ k + 1 + length c.args.d.now.drawing.sources.values.now + length c.args.d.now.drawing.targets.values.now
  table_long = c.split_at_mut-table.ensures.front_len

  degrees_long : length c.split_at_mut-degrees.result.0.now ≡ k
  degrees_long = c.split_at_mut-degrees.ensures.front_len

  queue_long : length c.split_at_mut-queue.result.0.now ≡ k
  queue_long = c.split_at_mut-queue.ensures.front_len

pub returns : goal.returns
returns c =
    let s = (goal.at.returns c).After-split_at_mut-queue in
    parts_tell c.kahn.new.queue (drop (k s) c.split_at_mut-queue.result.1.now) c.args.d.now.accepted c.incidence.ensures
    (c.incidence.auto.t ∙ table_long s) (c.kahn.auto.degrees ∙ degrees_long s) (c.kahn.auto.queue ∙ queue_long s) (c.kahn.auto.depths ∙ length-take-le (k s) c.split_at_mut-queue.result.1.now (omega (arith, c.requires.ws_len)))
    (rw (degrees_long s) at c.kahn.ensures)
