use Rattle.std.proofs.Common.{ℕ, ◌+◌, List, ◌++◌, arith, drop, get_or}
use Rattle.rules.specs.Program.{line, lines}
use Rattle.rules.proofs.Facts.Writing.{lines_more, lines_end}
use Rattle.text.proofs.Facts.Puts.{Left, left_more, left_room, left_none}
use Rattle.text.proofs.writer.Writer.put_lines.Goals.{In-loop-e}
use Rattle.text.proofs.writer.Writer.put_lines.Goals as goal

-- the next line
module _ (c : In-loop-e) where
  abbrev e : ℕ
  e = c.loop-e.e

  abbrev os : List ℕ
  os = c.args.orders.now

  abbrev ms : List ℕ
  ms = c.args.marks.now

  abbrev this : List ℕ
  this = line e (get_or os e 0) (get_or ms e 0)

  turn : Left c.args.self.now (lines 0 os ms) c.loop-e.self (this ++ lines (e + 1) (drop (e + 1) os) (drop (e + 1) ms))
  turn = rw (lines_more os e ms c.loop-e-test.true (omega (arith, c.requires.few))) at c.loop-e.invariant

pub put_line-requires : goal.put_line-requires
put_line-requires c = let s = (goal.at.put_line-requires c).In-loop-e in left_room (this s) _ (turn s)

pub loop-e-preserved : goal.loop-e-preserved
loop-e-preserved c = let s = (goal.at.loop-e-preserved c).In-loop-e in left_more {bs = this s} (turn s) c.put_line.ensures

pub returns : goal.returns
returns c = left_none (rw (lines_end c.args.orders.now c.loop-e.e c.args.marks.now c.loop-e-test.false) at c.loop-e.invariant)
