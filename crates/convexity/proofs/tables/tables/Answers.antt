use Rattle.std.proofs.Common.{◌∙◌}
use Rattle.convexity.proofs.Filtering.{two_tables}
use Rattle.convexity.proofs.tables.tables.Goals as goal

pub returns : goal.returns
returns c = two_tables c.args.d.now.accepted c.incidence.ensures c.select.ensures (rw (c.select.auto.flags ∙ c.requires.room.2) at c.without_flagged.ensures)
