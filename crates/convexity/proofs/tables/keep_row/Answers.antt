use Rattle.std.proofs.Common.{◌<◌, arith, get_or, length, length-take-le}
use Rattle.rules.proofs.Facts.Member.{get_or-∈}
use Rattle.convexity.proofs.Filtering.{kept-none, kept-one, passed_one, kept_more, kept_few}
use Rattle.convexity.proofs.tables.keep_row.Goals.{In-loop-item, then-flags-item-eq0, else-flags-item-eq0}
use Rattle.convexity.proofs.tables.keep_row.Goals as goal

-- there is room for the item in hand
module _ (c : In-loop-item) where
  room : c.loop-item.to < length c.loop-item.table
  room =
      omega (
        arith,
        kept_few c.loop-item.invariant,
        length-take-le c.loop-item.item-index c.args.row.now (omega (arith, c.loop-item-test.true)),
        c.loop-item-test.true,
        c.requires.room,
        c.loop-item.auto.table,
      )

pub loop-item-init : goal.loop-item-init
loop-item-init c = kept-none c.args.flags.now c.args.q c.args.row.now c.args.table.now

pub bounds-flags-item : goal.bounds-flags-item
bounds-flags-item c = c.requires.by_index _ (get_or-∈ c.args.row.now c.loop-item.item-index c.loop-item-test.true)

pub bounds-table-to : goal.bounds-table-to
bounds-table-to c = room (goal.at.bounds-table-to c).In-loop-item

pub loop-item-preserved : goal.loop-item-preserved
loop-item-preserved c =
    let item = get_or c.args.row.now c.loop-item.item-index 0 in
    kept_more c.args.row.now c.loop-item.item-index c.loop-item-test.true c.loop-item.invariant
    (elim c.if-flags-item-eq0.branch [
      | then-flags-item-eq0 w ↦
          rw (w.to-is, w.table-is) (kept-one c.args.flags.now c.loop-item.to item c.loop-item.table (room (goal.at.loop-item-preserved c).In-loop-item) w.if-flags-item-eq0.true)
      | else-flags-item-eq0 w ↦ rw (w.to-is, w.table-is) (passed_one c.args.flags.now c.loop-item.to item c.loop-item.table w.if-flags-item-eq0.false)
    ])
