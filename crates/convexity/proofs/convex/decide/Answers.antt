use Rattle.std.proofs.Common.{rules, arith, ◌≡◌, replicate}
use Rattle.rules.specs.Lent.{drawing_of, maps_of}
use Rattle.rules.specs.Maps.{Natural}
use Rattle.rules.specs.Refusals.{workspace_need}
use Rattle.rules.specs.Calls.{natural_refusal}
use Rattle.rules.proofs.Facts.ConvexDecides.{unnatural_no, natural_group, refused_some, refused_none}
use Rattle.rules.proofs.Facts.Naturality.{natural_iff}
use Rattle.convexity.proofs.convex.decide.Goals.{Else-is_err}
use Rattle.convexity.proofs.convex.decide.Goals as goal

-- the maps are natural
module _ (c : Else-is_err) where
  fine : natural_refusal (drawing_of c.args.f.now.source.now) (drawing_of c.args.f.now.target.now) (maps_of c.args.f.now.maps.now) ≡ 0
  fine = refused_none c.naturality.result c.naturality.ensures (search rules)

  natural : Natural (drawing_of c.args.f.now.source.now) (drawing_of c.args.f.now.target.now) (maps_of c.args.f.now.maps.now)
  natural = (natural_iff _ _ _).0 fine

pub returns-then-is_err : goal.returns-then-is_err
returns-then-is_err c =
    let cleared : c.fill.new.self ≡ replicate (workspace_need (drawing_of c.args.f.now.target.now)) 0 = search rules in
    unnatural_no _ _ _ (refused_some c.naturality.result c.naturality.ensures (search rules)) cleared

pub decide_natural-requires-clause-by_index : goal.decide_natural-requires-clause-by_index
decide_natural-requires-clause-by_index c =
    let a = c.args.f.now.accepted in
    let n = natural (goal.at.decide_natural-requires-clause-by_index c).Else-is_err in (
      λ v m. omega (arith, a.node_map.below v m, n.w_target),
      a.node_map.few_entries,
      record { few = a.op_map.few_entries; below = λ e m. omega (arith, a.op_map.below e m, n.x_target) },
    )

pub returns : goal.returns
returns c = natural_group _ _ _ (fine (goal.at.returns c).Else-is_err) _ _ c.decide_natural.ensures
