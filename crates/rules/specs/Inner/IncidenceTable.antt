-- The table of a drawing's incidence graph, and how it comes about in a lent part.
use Rattle.std.specs.Prelude.{ℕ, ◌+◌, ◌≤◌, ◌<◌, List, ◌≡◌, length, get_or, take}
use Rattle.rules.specs.Lists.{sum}
use Rattle.rules.specs.Drawing.{Drawing}
use Rattle.rules.specs.Inner.Words.{below}
use Rattle.rules.specs.Inner.Incidence.{incidence, items}
use Rattle.rules.specs.Inner.Table.{Table, successors}

-- the offsets of n nodes and the starts of the operations' rows, while the nodes' rows are still empty
pub record Offsets (n : ℕ) (sv tl t : List ℕ) : Type 0 where
  pub nodes : (v : ℕ) → v < n → get_or t v 0 ≡ below (v + 1) sv
  pub ops : (e : ℕ) → e ≤ length tl → get_or t (n + e) 0 ≡ length sv + sum (take e tl)

-- t is the table of d's incidence graph
pub record Incident (d : Drawing) (t : List ℕ) : Type 0 where
  pub table : Table (items d) t
  pub rows : (i : ℕ) → i < items d → successors (items d) t i ≡ incidence d i

-- its length
abbrev pub table_length : Drawing → ℕ
table_length d = items d + 1 + length d.source_values + length d.target_values
