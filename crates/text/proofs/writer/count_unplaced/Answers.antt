use Rattle.std.proofs.Common.{rules}
use Rattle.text.proofs.Facts.Puts.{unplaced_is}
use Rattle.text.proofs.writer.count_unplaced.Goals as goal

pub returns : goal.returns
returns c = rw (← unplaced_is c.args.marks.now) (search rules)
