use Rattle.std.proofs.Common.{ℕ, ◌+◌, ◌-◌, ◌*◌, arith, List, ◌≡◌, length, get_or, take, drop}
use Rattle.rules.specs.Lent.{drawing_of}
use Rattle.rules.specs.Drawing.{Drawing, sources_of}
use Rattle.rules.specs.Inner.Running.{outputs_at}
use Rattle.rules.proofs.Facts.Running.{Sizes, sizes, part_slice, work_asks, reads_one}
use Rattle.pass.proofs.read_one.Goals.{Start}
use Rattle.pass.proofs.read_one.Goals as goal

module _ (s : Start) where
  abbrev d : Drawing
  d = drawing_of s.args.d.now

  known : Sizes d s.args.ws.now s.args.e
  known = sizes d s.args.ws.now s.requires.runs s.args.e s.requires.e_in_bounds

  abbrev source_start : ℕ
  source_start = get_or s.args.ws.now (4 * length s.args.d.now.ops.now + 1 + s.args.e) 0

  abbrev target_start : ℕ
  target_start = get_or s.args.ws.now (5 * length s.args.d.now.ops.now + 1 + s.args.e) 0

  abbrev places : List ℕ
  places = take (source_start + get_or s.args.d.now.sources.lengths.now s.args.e 0 - source_start) (drop source_start s.args.d.now.sources.values.now)

  places-are : places ≡ sources_of d s.args.e
  places-are = part_slice s.args.d.now.sources.lengths.now s.args.d.now.sources.values.now s.args.e source_start known.source_start

  abbrev from : ℕ
  from = 6 * length s.args.d.now.ops.now + 1 + length s.args.d.now.nodes.now + target_start

  from_is : from ≡ outputs_at d s.args.e
  from_is = omega (arith, known)

pub slice_bounds-work-end : goal.slice_bounds-work-end
slice_bounds-work-end c = omega (arith, known (goal.at.slice_bounds-work-end c).Start)

pub work-requires-clause-by_index : goal.work-requires-clause-by_index
work-requires-clause-by_index c = (work_asks (d (goal.at.work-requires-clause-by_index c).Start) c.args.ws.now c.requires.runs c.args.e c.requires.e_in_bounds (places (goal.at.work-requires-clause-by_index c).Start) (from (goal.at.work-requires-clause-by_index c).Start) (places-are (goal.at.work-requires-clause-by_index c).Start) (from_is (goal.at.work-requires-clause-by_index c).Start)).0

pub work-requires-clause-outs_value : goal.work-requires-clause-outs_value
work-requires-clause-outs_value c = (work_asks (d (goal.at.work-requires-clause-outs_value c).Start) c.args.ws.now c.requires.runs c.args.e c.requires.e_in_bounds (places (goal.at.work-requires-clause-outs_value c).Start) (from (goal.at.work-requires-clause-outs_value c).Start) (places-are (goal.at.work-requires-clause-outs_value c).Start) (from_is (goal.at.work-requires-clause-outs_value c).Start)).1

pub returns : goal.returns
returns c =
    reads_one (d (goal.at.returns c).Start) c.args.ws.now c.requires.runs c.args.e c.requires.e_in_bounds (places (goal.at.returns c).Start) (from (goal.at.returns c).Start) c.work.new.ws (places-are (goal.at.returns c).Start) (from_is (goal.at.returns c).Start) c.work.ensures
