use Rattle.std.proofs.Common.{ℕ, ◌-◌, ◌+◌, max, ◌≡◌, ◌∷◌, arith, length, get_or}
use Rattle.rules.specs.Inner.Table.{successors}
use Rattle.rules.specs.Inner.Walk.{Standing}
use Rattle.rules.specs.Inner.Words.{up_from}
use Rattle.rules.proofs.Facts.Counts.{up_from_more, up_from_over}
use Rattle.rules.proofs.Facts.Standing.{items_low, stands_first, listed_some, room_behind, follow_stands}
use Rattle.graph.proofs.kahn.begin.Goals.{In-loop-i}
use Rattle.graph.proofs.kahn.begin.Goals as goal

module _ (c : In-loop-i) where
  abbrev i : ℕ
  i = c.loop-i.i

  abbrev k : ℕ
  k = length c.args.degrees.now

  -- item i is the next that the root lists
  next : Standing (successors k c.args.table.now) k 0 c.loop-i.tail (i ∷ up_from (i + 1) (k - (i + 1))) 0 c.loop-i.degrees c.loop-i.queue c.loop-i.depths
  next = rw (up_from_more i k c.loop-i-test.true) at c.loop-i.invariant

pub count_values-requires-clause-by_index : goal.count_values-requires-clause-by_index
count_values-requires-clause-by_index c = λ v m. omega (arith, items_low c.requires.table.0 _ _ (omega arith) v m, c.fill.ensures.len)

pub loop-i-init : goal.loop-i-init
loop-i-init c =
    let q : length c.args.degrees.now - 0 ≡ length c.args.degrees.now = omega arith in
    rw q (stands_first c.requires.table.0 (c.fill.ensures.after (λ y e. e)) c.count_values.ensures c.requires.lengths.0 (rw c.requires.lengths.1 at (c.fill-2.ensures.after (λ y e. e))))

pub overflow_sub-left : goal.overflow_sub-left
overflow_sub-left c = listed_some (next (goal.at.overflow_sub-left c).In-loop-i)

pub release-tail-requires : goal.release-tail-requires
release-tail-requires c =
    let w = next (goal.at.release-tail-requires c).In-loop-i in
    (omega (arith, w.walk.degrees), omega (arith, room_behind w, w.long), omega (arith, w.walk.depths))

pub loop-i-preserved : goal.loop-i-preserved
loop-i-preserved c =
    let e = c.release-tail.ensures in
    let q : max (get_or c.loop-i.depths c.loop-i.i 0) 0 ≡ get_or c.loop-i.depths c.loop-i.i 0 = omega arith in
    rw (e.0, e.1, e.2, e.3) (rw q at (follow_stands (next (goal.at.loop-i-preserved c).In-loop-i)))

pub returns : goal.returns
returns c = rw (up_from_over c.loop-i.i (length c.args.degrees.now) c.loop-i-test.false) at c.loop-i.invariant
