use Rattle.std.proofs.Common.{ℕ, arith, Bool, sym, ◌∙◌, length, below_more}
use Rattle.rules.specs.Inner.Arrow.{carried_list}
use Rattle.rules.proofs.Facts.Parts.{part_next, part-ends}
use Rattle.rules.proofs.Facts.SameLists.{all-below, not-all}
use Rattle.arrow.proofs.naturality.lists_carried.Goals.{Start}
use Rattle.arrow.proofs.naturality.lists_carried.Goals as goal

module _ (s : Start) where
  abbrev carried : ℕ → Bool
  carried = carried_list s.args.f.now.w.entries.now s.args.f.now.x.entries.now s.args.c.now.lengths.now s.args.c.now.values.now s.args.d.now.lengths.now s.args.d.now.values.now

pub returns-then-not-list_carried : goal.returns-then-not-list_carried
returns-then-not-list_carried c =
    sym (not-all (carried (goal.at.returns-then-not-list_carried c).Start) (length c.args.f.now.x.entries.now) c.loop-e.e c.loop-e-test.true (sym c.list_carried.ensures ∙ c.if-not-list_carried.true))

pub overflow_add-from : goal.overflow_add-from
overflow_add-from c =
    let lists = c.requires.lists in
    omega (arith, part-ends c.args.c.now.lengths.now c.args.c.now.values.now c.loop-e.e c.loop-e.from c.loop-e.invariant.0 lists.total (omega (arith, lists.count, c.loop-e-test.true)), lists.room)

pub loop-e-preserved : goal.loop-e-preserved
loop-e-preserved c =
    (part_next c.args.c.now.lengths.now c.loop-e.e c.loop-e.from c.loop-e.invariant.0, below_more _ _ c.loop-e.invariant.1 (sym c.list_carried.ensures ∙ c.if-not-list_carried.false))

pub returns : goal.returns
returns c = sym (all-below (carried (goal.at.returns c).Start) (length c.args.f.now.x.entries.now) (λ i h. c.loop-e.invariant.1 i (omega (arith, c.loop-e-test.false))))
