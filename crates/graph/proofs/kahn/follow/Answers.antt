use Rattle.std.proofs.Common.{ℕ, ◌≤◌, ◌<◌, ◌-◌, ◌+◌, max, ◌≡◌, refl, sym, ◌∷◌, arith, length, get_or, drop, drop_of_length-le, get_or-set_same}
use Rattle.rules.specs.Inner.Table.{successors}
use Rattle.rules.specs.Inner.Walk.{Standing}
use Rattle.rules.proofs.Facts.Counts.{drop_more}
use Rattle.rules.proofs.Facts.Standing.{hand_low, hand_shallow, taken, stands_still, listed_low, listed_some, room_behind, follow_stands}
use Rattle.rules.proofs.Facts.Tables.{table_row}
use Rattle.graph.proofs.kahn.follow.Goals.{In-loop-s, Start}
use Rattle.graph.proofs.kahn.follow.Goals as goal

-- the item in hand
module _ (s : Start) where
  abbrev i : ℕ
  i = get_or s.args.queue.now s.args.head 0

  low : i < length s.args.degrees.now
  low = hand_low s.requires.table.0 s.requires.standing.0 s.requires.standing.1

  low_depth : i < length s.args.depths.now
  low_depth = omega (arith, low, s.requires.standing.0.walk.depths)

  shallow : get_or s.args.depths.now i 0 ≤ length s.args.degrees.now
  shallow = hand_shallow s.requires.table.0 s.requires.standing.0 s.requires.standing.1

-- the item that is listed
module _ (c : In-loop-s) where
  abbrev k : ℕ
  k = length c.args.degrees.now

  abbrev x : ℕ
  x = get_or c.row-listed.result.now c.loop-s.s-index 0

  abbrev far : ℕ
  far = get_or c.args.depths.now (get_or c.args.queue.now c.args.head 0) 0 + 1

  next : Standing (successors k c.args.table.now) k (c.args.head + 1) c.loop-s.len (x ∷ drop (c.loop-s.s-index + 1) c.row-listed.result.now) far c.loop-s.degrees c.loop-s.queue c.loop-s.depths
  next = rw (drop_more c.row-listed.result.now c.loop-s.s-index c.loop-s-test.true) at c.loop-s.invariant.3

  x_low : x < length c.loop-s.degrees
  x_low = omega (arith, listed_low next, next.walk.degrees)

  x_low_depth : x < length c.loop-s.depths
  x_low_depth = omega (arith, listed_low next, next.walk.depths)

pub bounds-depths-i : goal.bounds-depths-i
bounds-depths-i c = low_depth (goal.at.bounds-depths-i c).Start

pub row-listed-requires : goal.row-listed-requires
row-listed-requires c = table_row c.requires.table.0 _ (low (goal.at.row-listed-requires c).Start)

pub overflow_add-far : goal.overflow_add-far
overflow_add-far c = omega (arith, shallow (goal.at.overflow_add-far c).Start, c.requires.table.0.last, c.requires.table.1)

pub bounds-degrees-i : goal.bounds-degrees-i
bounds-degrees-i c = low (goal.at.bounds-degrees-i c).Start

pub bounds-depths-i-2 : goal.bounds-depths-i-2
bounds-depths-i-2 c = low_depth (goal.at.bounds-depths-i-2 c).Start

pub loop-s-init : goal.loop-s-init
loop-s-init c =
    (low (goal.at.loop-s-init c).Start, refl, refl, rw c.row-listed.ensures (taken c.requires.table.0 c.requires.standing.0 c.requires.standing.1))

pub known-left-requires : goal.known-left-requires
known-left-requires c = (x_low (goal.at.known-left-requires c).In-loop-s, c.loop-s.invariant.1)

pub overflow_sub-left : goal.overflow_sub-left
overflow_sub-left c = rw c.known-left.ensures (listed_some (next (goal.at.overflow_sub-left c).In-loop-s))

pub known-requires : goal.known-requires
known-requires c = (x_low_depth (goal.at.known-requires c).In-loop-s, c.loop-s.invariant.2)

pub release-len-requires : goal.release-len-requires
release-len-requires c =
    let o = (goal.at.release-len-requires c).In-loop-s in
    (x_low o, omega (arith, room_behind (next o), (next o).long), x_low_depth o)

pub loop-s-preserved : goal.loop-s-preserved
loop-s-preserved c =
    let o = (goal.at.loop-s-preserved c).In-loop-s in
    let e = c.release-len.ensures in
    let f : c.larger-depth.result ≡ max (get_or c.loop-s.depths (x o) 0) (far o) = rw (← c.known.ensures) c.larger-depth.ensures in
    (omega (arith, x_low o, c.release-len.auto.degrees), rw e.0 (sym (get_or-set_same c.loop-s.degrees (x o) (c.known-left.result - 1) 0 (x_low o))), rw e.2 (sym (get_or-set_same c.loop-s.depths (x o) c.larger-depth.result 0 (x_low_depth o))), rw (e.0, e.1, e.2, e.3, f, c.known-left.ensures) (follow_stands (next o)))

pub returns : goal.returns
returns c = stands_still (rw (drop_of_length-le c.row-listed.result.now {i = c.loop-s.s-index} (omega arith)) at c.loop-s.invariant.3)
