use Rattle.std.proofs.Common.{◌<◌, ◌≤◌, ◌+◌, ◌≡◌, ap, arith, get_or, length, length-set}
use Rattle.rules.specs.Lists.{those}
use Rattle.rules.specs.Inner.Selected.{clear}
use Rattle.convexity.proofs.Filtering.{kept_few, rowed_more, filtered, row_room, items_most}
use Rattle.rules.proofs.Facts.Tables.{table_row}
use Rattle.convexity.proofs.tables.without_flagged.Goals.{At-loop-v, After-row}
use Rattle.convexity.proofs.tables.without_flagged.Goals as goal

module _ (c : At-loop-v) where
  long : length c.loop-v.table ≡ length c.args.table.now
  long = omega (arith, c.loop-v.auto.table, length-set c.args.table.now 0 0)

-- the row in hand
module _ (c : After-row) where
  low : c.loop-v.v < c.args.full.count
  low = omega (arith, c.loop-v-test.true, c.requires.full.1)

  room : c.loop-v.q + length c.row.result.now ≤ c.args.n + 1 + get_or c.args.full.words.now (c.loop-v.v + 1) 0
  room = rw c.row.ensures (row_room c.requires.full.0 c.loop-v.v low c.args.n c.loop-v.q c.loop-v.invariant.0)

  fits : c.args.n + 1 + get_or c.args.full.words.now (c.loop-v.v + 1) 0 ≤ length c.loop-v.table
  fits = omega (arith, items_most c.requires.full.0 (c.loop-v.v + 1) (omega (arith, low)), c.requires.room.1, c.loop-v.auto.table, length-set c.args.table.now 0 0)

pub row-requires : goal.row-requires
row-requires c = table_row c.requires.full.0 c.loop-v.v (omega (arith, c.loop-v-test.true, c.requires.full.1))

pub keep_row-q-requires-clause-room : goal.keep_row-q-requires-clause-room
keep_row-q-requires-clause-room c = let a = (goal.at.keep_row-q-requires-clause-room c).After-row in omega (arith, room a, fits a)

pub overflow_cast-table : goal.overflow_cast-table
overflow_cast-table c =
    let a = (goal.at.overflow_cast-table c).After-row in
    omega (arith, kept_few c.keep_row-q.ensures, room a, items_most c.requires.full.0 (c.loop-v.v + 1) (omega (arith, low a)), c.requires.full.2)

pub loop-v-preserved : goal.loop-v-preserved
loop-v-preserved c =
    let a = (goal.at.loop-v-preserved c).After-row in (
      omega (arith, kept_few c.keep_row-q.ensures, room a),
      rowed_more c.row.result.now c.loop-v.invariant.1 c.loop-v-test.true (omega (arith, room a, fits a)) c.keep_row-q.auto.table c.keep_row-q.ensures
          (ap (those (clear c.args.flags.now)) c.row.ensures),
    )

pub returns : goal.returns
returns c =
    let all-rows : c.loop-v.v ≡ c.args.n = omega (arith, c.loop-v-test.false, c.loop-v.auto.v-end) in
    filtered (rw all-rows at c.loop-v.invariant.1)
    (omega (arith, c.loop-v.invariant.0, all-rows, items_most c.requires.full.0 c.loop-v.v (omega (arith, all-rows, c.requires.full.1)), c.requires.room.1, long (goal.at.returns c).At-loop-v))
