use Rattle.std.proofs.Common.{rules, ℕ, ◌+◌, ◌≡◌, ◌∙◌, arith, length, drop, length-take-le}
use Rattle.rules.proofs.Facts.ConverseTable.{entries_put}
use Rattle.hypergraph.proofs.converse.write_entries.Goals.{After-converse_counted}
use Rattle.hypergraph.proofs.converse.write_entries.Goals as goal

-- the table stands in front of the workspace
module _ (c : After-converse_counted) where
  abbrev table : ℕ
  table = length c.args.listed.now + 1 + length c.args.lists.now.values.now

  long : length c.converse_counted.new.t ≡ table
  long = c.converse_counted.auto.t ∙ length-take-le table c.args.ws.now (omega (arith, c.requires.room))

pub returns : goal.returns
returns c = (
  entries_put (length c.args.listed.now) c.args.lists.now.lengths.now c.args.lists.now.values.now c.converse_counted.new.t (drop (table (goal.at.returns c).After-converse_counted) c.args.ws.now) c.copy.new.t c.args.vals.now c.converse_counted.ensures (long (goal.at.returns c).After-converse_counted) c.copy.ensures,
  search rules,
)
