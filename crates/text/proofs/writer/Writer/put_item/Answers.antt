use Rattle.text.proofs.Facts.Puts.{wrote_then}
use Rattle.text.proofs.writer.Writer.put_item.Goals as goal

-- one store behind the other
pub returns : goal.returns
returns c = wrote_then c.put_number.ensures c.put_byte.ensures
