use Rattle.std.proofs.Common.{rules, ◌≤◌, ◌+◌, ◌∙◌, refl, arith, take, get_or}
use Rattle.rules.specs.Lists.{sum}
use Rattle.text.proofs.Facts.Parts.{sum_is, sum_before, section_inside, part_is}
use Rattle.text.proofs.reader.section.Goals.{Start}
use Rattle.text.proofs.reader.section.Goals as goal

-- the section ends within the numbers
module _ (s : Start) where
  inside : sum (take s.args.k s.args.counts.now) + get_or s.args.counts.now s.args.k 0 ≤ sum s.args.counts.now
  inside = section_inside s.args.counts.now s.args.k s.requires.0

pub total-start-requires : goal.total-start-requires
total-start-requires c = omega (arith, sum_is (take c.args.k c.args.counts.now), sum_before c.args.counts.now c.args.k (omega arith))

pub overflow_add-end : goal.overflow_add-end
overflow_add-end c = omega (arith, inside (goal.at.overflow_add-end c).Start, sum_is (take c.args.k c.args.counts.now))

pub offset_bounds-numbers-start : goal.offset_bounds-numbers-start
offset_bounds-numbers-start c = omega (arith, inside (goal.at.offset_bounds-numbers-start c).Start, sum_is (take c.args.k c.args.counts.now))

pub slice_bounds-result-end : goal.slice_bounds-result-end
slice_bounds-result-end c =
    let h = inside (goal.at.slice_bounds-result-end c).Start in
    let e = sum_is (take c.args.k c.args.counts.now) in
    search rules

pub returns : goal.returns
returns c =
    part_is c.args.counts.now c.args.numbers.now c.args.k c.total-start.result _ c.requires.0 (c.total-start.ensures ∙ sum_is (take c.args.k c.args.counts.now)) refl
