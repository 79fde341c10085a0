use Rattle.std.proofs.Common.{ℕ, ◌+◌, ◌≤◌, ◌≡◌, List, map, ◌++◌, arith, length, get_or, take, length-append}
use Rattle.rules.proofs.Facts.Flat.{put_more, rows_more, rows_within}
use Rattle.rules.specs.Inner.Rows.{row_of}
use Rattle.rules.specs.Lists.{concat}
use Rattle.rules.proofs.Facts.Member.{get_or-∈}
use Rattle.indexed_coproduct.proofs.flatmap.copy_rows.Goals.{In-loop-p}
use Rattle.indexed_coproduct.proofs.flatmap.copy_rows.Goals as goal

module _ (c : In-loop-p) where
  abbrev list : List ℕ
  list = c.args.list.now

  abbrev row : ℕ → List ℕ
  row = row_of c.args.table.now.offsets.now c.args.table.now.entries.now

  abbrev p : ℕ
  p = c.loop-p.p

  abbrev x : ℕ
  x = get_or list p 0

  -- what is put next, and that it has room
  more : concat (map row (take (p + 1) list)) ≡ concat (map row (take p list)) ++ row x
  more = rows_more row list p c.loop-p-test.true

  room : c.args.at + (length (concat (map row (take p list))) + length (row x)) ≤ length c.args.vals.now
  room = rw (← length-append, ← more) (omega (arith, rows_within row list (p + 1), c.requires.list_in_bounds))

  before : c.args.at + length (concat (map row (take p list))) ≤ length c.args.vals.now
  before = omega (arith, room)

-- The row that is named is that of this turn's number: each answer works it out, so that a row of another number is refused for what is put.
pub loop-p-preserved : goal.loop-p-preserved
loop-p-preserved c =
    let at = (goal.at.loop-p-preserved c).In-loop-p in
    let named : c.row.result.now ≡ row at (x at) = grind (arith, c.row.ensures) in
    rw (more at) (put_more (before at) c.loop-p.invariant (rw named at c.put-to.ensures))

pub row-requires : goal.row-requires
row-requires c = (c.requires.sections.0, c.requires.sections.1 _ (get_or-∈ c.args.list.now _ (omega (arith, c.loop-p-test.true))))

pub put-to-requires : goal.put-to-requires
put-to-requires c =
    let at = (goal.at.put-to-requires c).In-loop-p in
    let named : c.row.result.now ≡ row at (x at) = grind (arith, c.row.ensures) in
    rw named (omega (arith, room at, c.loop-p.invariant.behind, c.loop-p.auto.vals))
