use Rattle.std.proofs.Common.{length}
use Rattle.rules.specs.Chars.{bytes}
use Rattle.rules.specs.Program.{item}
use Rattle.text.proofs.Facts.Puts.{wrote_then}
use Rattle.text.proofs.writer.Writer.put_values.Goals as goal

-- one store behind the other
pub returns : goal.returns
returns c =
    wrote_then {xs = bytes "values "} c.put_bytes.ensures (wrote_then {xs = item (length c.args.values.now) 10} c.put_item.ensures c.put_column.ensures)
