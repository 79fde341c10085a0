use Rattle.std.proofs.Common.{rules, ℕ, ◌<◌, ◌≡◌, arith, length, replicate}
use Rattle.rules.specs.Lent.{drawing_of}
use Rattle.rules.specs.Refusals.{workspace_need}
use Rattle.convexity.proofs.Roads.{road_pair, road_decided, each-low}
use Rattle.rules.specs.Lists.{◌∈◌}
use Rattle.convexity.proofs.road.has_road.Goals.{After-walk}
use Rattle.convexity.proofs.road.has_road.Goals as goal

pub walk-requires-clause-pair : goal.walk-requires-clause-pair
walk-requires-clause-pair c = (road_pair c.args.d.now.accepted c.tables.ensures, c.requires.by_index.0)

-- nodes and operations have marks; that those of the nodes are looked up, `returns` says
module _ (c : After-walk) where
  node-low : (v : ℕ) → v ∈ c.args.f.now.w.entries.now → v < length c.walk.new.marks
  node-low v m = omega (arith, c.requires.by_index.0 v m, c.walk.auto.marks, c.tables.auto.flags, c.split_at_mut-marks.ensures.front_len)

  op-low : (v : ℕ) → v ∈ c.args.f.now.x.entries.now → v < length c.walk.new.marks
  op-low v m = omega (arith, c.requires.by_index.1.below v m, c.walk.auto.marks, c.tables.auto.flags, c.split_at_mut-marks.ensures.front_len)

pub any_marked-found-requires : goal.any_marked-found-requires
any_marked-found-requires c = let a = (goal.at.any_marked-found-requires c).After-walk in each-low _ _ (λ v m. search (node-low a, op-low a))

pub returns : goal.returns
returns c =
    let cleared : c.fill.new.self ≡ replicate (workspace_need (drawing_of c.args.d.now.drawing)) 0 = search rules in
    road_decided c.args.d.now.accepted c.tables.ensures c.args.f.now.w.entries.now c.requires.by_index.0 c.walk.ensures c.any_marked-found.ensures cleared
