use Rattle.std.proofs.Common.{ℕ, ◌<◌, arith, length, get_or}
use Rattle.rules.proofs.Facts.Member.{get_or-∈}
use Rattle.convexity.proofs.Walking.{reach_old, reach_new, reach_room, followed_none, followed_more}
use Rattle.convexity.proofs.walk.follow.Goals.{In-loop-item, then-marks-mark-eq0, else-marks-mark-eq0}
use Rattle.convexity.proofs.walk.follow.Goals as goal

-- the item in hand
module _ (c : In-loop-item) where
  abbrev j : ℕ
  j = get_or c.args.row.now c.loop-item.item-index 0

  low : j < length c.loop-item.queue
  low = omega (arith, c.requires.by_index j (get_or-∈ c.args.row.now c.loop-item.item-index c.loop-item-test.true), c.loop-item.auto.queue)

  marked-low : j < length c.loop-item.marks
  marked-low = omega (arith, low, c.loop-item.invariant.held.marked.long)

pub loop-item-init : goal.loop-item-init
loop-item-init c = followed_none c.args.row.now c.requires.held.0

pub bounds-marks-mark : goal.bounds-marks-mark
bounds-marks-mark c = marked-low (goal.at.bounds-marks-mark c).In-loop-item

pub bounds-marks-mark-then-marks-mark-eq0 : goal.bounds-marks-mark-then-marks-mark-eq0
bounds-marks-mark-then-marks-mark-eq0 c = marked-low (goal.at.bounds-marks-mark-then-marks-mark-eq0 c).In-loop-item

pub bounds-queue-len : goal.bounds-queue-len
bounds-queue-len c = let i = (goal.at.bounds-queue-len c).In-loop-item in reach_room c.loop-item.invariant.held (j i) (low i) c.if-marks-mark-eq0.true

pub loop-item-preserved : goal.loop-item-preserved
loop-item-preserved c =
    let i = (goal.at.loop-item-preserved c).In-loop-item in
    let held = c.loop-item.invariant.held in
    followed_more c.args.row.now c.loop-item.item-index c.loop-item-test.true c.loop-item.invariant
    (elim c.if-marks-mark-eq0.branch [
      | then-marks-mark-eq0 w ↦ rw (w.len-is, w.marks-is, w.queue-is) (reach_new held (j i) (low i) w.if-marks-mark-eq0.true c.args.via c.requires.held.1)
      | else-marks-mark-eq0 w ↦ rw (w.len-is, w.marks-is, w.queue-is) (reach_old held (j i) (omega (arith, w.if-marks-mark-eq0.false)))
    ])
