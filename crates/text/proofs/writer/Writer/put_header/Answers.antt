use Rattle.rules.specs.Chars.{bytes}
use Rattle.rules.specs.Program.{item}
use Rattle.text.proofs.Facts.Puts.{wrote_then}
use Rattle.text.proofs.writer.Writer.put_header.Goals as goal

-- one store behind the other
pub returns : goal.returns
returns c =
    wrote_then {xs = bytes "operations "} c.put_bytes.ensures
    (wrote_then {xs = item c.args.m 32} c.put_item.ensures
    (wrote_then {xs = bytes "unplaced "} c.put_bytes-2.ensures c.put_item-2.ensures))
