use Rattle.std.proofs.Common.{ℕ, ◌+◌, ◌-◌, ◌*◌, arith, List, ◌≡◌, length, get_or, take, drop}
use Rattle.rules.specs.Lent.{drawing_of}
use Rattle.rules.specs.Drawing.{Drawing, targets_of}
use Rattle.rules.specs.Inner.Running.{outputs_at}
use Rattle.rules.proofs.Facts.Running.{Sizes, sizes, part_slice, scatter_asks, scattered_one}
use Rattle.pass.proofs.store_one.Goals.{Start}
use Rattle.pass.proofs.store_one.Goals as goal

module _ (s : Start) where
  abbrev d : Drawing
  d = drawing_of s.args.d.now

  known : Sizes d s.args.ws.now s.args.e
  known = sizes d s.args.ws.now s.requires.runs s.args.e s.requires.e_in_bounds

  abbrev target_start : ℕ
  target_start = get_or s.args.ws.now (5 * length s.args.d.now.ops.now + 1 + s.args.e) 0

  abbrev places : List ℕ
  places = take (target_start + get_or s.args.d.now.targets.lengths.now s.args.e 0 - target_start) (drop target_start s.args.d.now.targets.values.now)

  places-are : places ≡ targets_of d s.args.e
  places-are = part_slice s.args.d.now.targets.lengths.now s.args.d.now.targets.values.now s.args.e target_start known.target_start

  abbrev from : ℕ
  from = 6 * length s.args.d.now.ops.now + 1 + length s.args.d.now.nodes.now + target_start

  from_is : from ≡ outputs_at d s.args.e
  from_is = omega (arith, known)

pub slice_bounds-scatter_within-end : goal.slice_bounds-scatter_within-end
slice_bounds-scatter_within-end c = omega (arith, known (goal.at.slice_bounds-scatter_within-end c).Start)

pub scatter_within-requires : goal.scatter_within-requires
scatter_within-requires c =
    scatter_asks (d (goal.at.scatter_within-requires c).Start) c.args.ws.now c.requires.runs c.args.e c.requires.e_in_bounds (places (goal.at.scatter_within-requires c).Start) (from (goal.at.scatter_within-requires c).Start) (places-are (goal.at.scatter_within-requires c).Start) (from_is (goal.at.scatter_within-requires c).Start)

pub returns : goal.returns
returns c =
    scattered_one (d (goal.at.returns c).Start) c.args.ws.now c.requires.runs c.args.e c.requires.e_in_bounds (places (goal.at.returns c).Start) (from (goal.at.returns c).Start) c.scatter_within.new.ws (places-are (goal.at.returns c).Start) (from_is (goal.at.returns c).Start) c.scatter_within.ensures
