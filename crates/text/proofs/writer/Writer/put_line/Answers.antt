use Rattle.rules.specs.Program.{item}
use Rattle.text.proofs.Facts.Puts.{wrote_then}
use Rattle.text.proofs.writer.Writer.put_line.Goals as goal

-- one store behind the other
pub returns : goal.returns
returns c =
    wrote_then {xs = item c.args.e 32} c.put_item.ensures (wrote_then {xs = item c.args.order 32} c.put_item-2.ensures c.put_item-3.ensures)
