use Rattle.std.proofs.Common.{ℕ, ◌<◌, arith, ◌≡◌, length, get_or, take}
use Rattle.rules.specs.Lists.{sum}
use Rattle.rules.proofs.Facts.Member.{get_or-∈, ∈-part}
use Rattle.arrow.proofs.naturality.list_carried.Goals.{Start}
use Rattle.arrow.proofs.naturality.list_carried.Goals as goal

module _ (s : Start) where
  abbrev image : ℕ
  image = get_or s.args.f.now.x.entries.now s.args.e 0

  image-low : image < length s.args.d.now.lengths.now
  image-low = s.requires.carrying.images image (get_or-∈ s.args.f.now.x.entries.now s.args.e s.requires.e_in_bounds.0)

  begins : get_or s.args.starts.now image 0 ≡ sum (take image s.args.d.now.lengths.now)
  begins = s.requires.starting.each image image-low

pub bounds-starts-image : goal.bounds-starts-image
bounds-starts-image c = omega (arith, image-low (goal.at.bounds-starts-image c).Start, c.requires.starting.long)

pub part-requires : goal.part-requires
part-requires c = let s = (goal.at.part-requires c).Start in (image-low s, begins s, c.requires.carrying.total)

pub same_through-requires : goal.same_through-requires
same_through-requires c = λ u m. c.requires.carrying.lists.below u (∈-part c.args.c.now.lengths.now c.args.c.now.values.now c.args.e (rw c.part-list.ensures at m))
