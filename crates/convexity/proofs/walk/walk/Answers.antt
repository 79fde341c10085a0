use Rattle.std.proofs.Common.{rules, ℕ, ◌<◌, ◌≡◌, ◌∙◌, sym, arith, get_or, length, replicate}
use Rattle.rules.specs.Inner.Search.{Row}
use Rattle.rules.proofs.Facts.Member.{get_or-∈}
use Rattle.convexity.proofs.Walking.{searching_first, searching_seed, searching_step, searching_last, head_low}
use Rattle.rules.proofs.Facts.Tables.{table_row}
use Rattle.convexity.proofs.walk.walk.Goals.{In-loop-v, In-loop-head}
use Rattle.convexity.proofs.walk.walk.Goals as goal

-- the next item of w
module _ (c : In-loop-v) where
  abbrev v : ℕ
  v = get_or c.args.w.now c.loop-v.v-index 0

  low : v < c.args.unselected.count
  low = c.requires.pair.1 v (get_or-∈ c.args.w.now c.loop-v.v-index c.loop-v-test.true)

  -- v has a row in either table; that it is the row of the unselected operations which is followed, `loop-v-preserved` says
  other_row : Row c.args.unselected.count c.args.unselected.words.now v
  other_row = c.requires.pair.0.rows v low

  full-row : Row c.args.full.count c.args.full.words.now v
  full-row = table_row c.requires.pair.0.later v (omega (arith, low, c.requires.pair.0.few))

-- the item at the queue's head
module _ (c : In-loop-head) where
  abbrev i : ℕ
  i = get_or c.loop-head.queue c.loop-head.head 0

  i-low : i < c.args.full.count
  i-low = omega (arith, head_low c.loop-head.invariant c.loop-head-test.true, c.loop-head.auto.queue, c.requires.room.1)

pub loop-v-init : goal.loop-v-init
loop-v-init c =
    let clear : c.fill.new.self ≡ replicate (length c.args.marks.now) 0 = search rules in
    searching_first _ _ c.args.w.now clear (c.requires.room.0 ∙ sym c.requires.room.1)

pub leaving-row-requires : goal.leaving-row-requires
leaving-row-requires c = let a = (goal.at.leaving-row-requires c).In-loop-v in search (other_row a, full-row a)

pub overflow_add-v : goal.overflow_add-v
overflow_add-v c = omega (arith, low (goal.at.overflow_add-v c).In-loop-v, c.requires.pair.0.few, c.requires.room.2)

pub loop-v-preserved : goal.loop-v-preserved
loop-v-preserved c = searching_seed c.loop-v.invariant c.loop-v-test.true (rw c.leaving-row.ensures at c.follow-tail.ensures)

pub leaving-row-requires-in-loop-head : goal.leaving-row-requires-in-loop-head
leaving-row-requires-in-loop-head c =
    let a = (goal.at.leaving-row-requires-in-loop-head c).In-loop-head in
    table_row c.requires.pair.0.later _ (omega (arith, i-low a, c.loop-head-test.true, c.loop-head.invariant.held.within, c.loop-head.auto.queue, c.requires.room.1))

pub overflow_add-i : goal.overflow_add-i
overflow_add-i c = omega (arith, i-low (goal.at.overflow_add-i c).In-loop-head, c.requires.room.2)

pub loop-head-preserved : goal.loop-head-preserved
loop-head-preserved c = searching_step c.loop-head.invariant c.loop-head-test.true (rw c.leaving-row-in-loop-head.ensures at c.follow-tail-in-loop-head.ensures)

pub returns : goal.returns
returns c = searching_last c.loop-head.invariant (omega (arith, c.loop-head-test.false))
