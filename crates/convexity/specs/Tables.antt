-- How the two tables of the walk come about.
use Rattle.std.specs.Prelude.{ℕ, ◌+◌, ◌<◌, ◌≤◌, ◌≡◌, List, ◌++◌, length, get_or, take, drop}
use Rattle.rules.specs.Lists.{those, row_entries}
use Rattle.rules.specs.Drawing.{Drawing, node_count}
use Rattle.rules.specs.Inner.IncidenceTable.{Incident}
use Rattle.rules.specs.Inner.Table.{successors}
use Rattle.rules.specs.Inner.Search.{Row}
use Rattle.rules.specs.Inner.Selected.{clear, unselected}
use Rattle.std.specs.Prelude.{Bool, true, false}
use Rattle.rules.specs.Lists.{◌∈◌}

-- the items of a row whose flags, F, are 0 are put behind the first q words of a table
pub record Kept (F : List ℕ) (q : ℕ) (row t : List ℕ) (q' : ℕ) (t' : List ℕ) : Type 0 where
  pub size : q' ≡ q + length (those (clear F) row)
  pub front : take q' t' ≡ take q t ++ those (clear F) row

-- the rows of a table of k, without the items that are flagged
abbrev pub unflagged : List ℕ → ℕ → List ℕ → ℕ → List ℕ
unflagged F k t v = those (clear F) (successors k t v)

-- of a table of n rows the first v are there, and the next item goes to word q
pub record Rowed (rows : ℕ → List ℕ) (n v q : ℕ) (t : List ℕ) : Type 0 where
  pub offsets : (u : ℕ) → u ≤ v → get_or t u 0 ≡ length (row_entries rows u)
  pub size : q ≡ n + 1 + length (row_entries rows v)
  pub items : drop (n + 1) (take q t) ≡ row_entries rows v

-- all are there
pub record Filtered (row : ℕ → List ℕ) (n : ℕ) (t : List ℕ) : Type 0 where
  pub inside : (v : ℕ) → v < n → Row n t v
  pub rows : (v : ℕ) → v < n → successors n t v ≡ row v

-- how many words the table of the nodes' rows has: n + 1 offsets, and room for as many items as the full one has
abbrev pub other_length : Drawing → ℕ
other_length d = node_count d + 1 + (length d.source_values + length d.target_values)

-- both tables of a drawing whose operations x are selected
pub record TwoTables (d : Drawing) (x t u : List ℕ) : Type 0 where
  pub full : Incident d t
  pub inside : (v : ℕ) → v < node_count d → Row (node_count d) u v
  pub rows : (v : ℕ) → v < node_count d → successors (node_count d) u v ≡ unselected d x v

-- has some entry of a list a mark?
pub record AnyMarked (M l : List ℕ) (r : Bool) : Type 0 where
  pub yes : r ≡ true → (v : ℕ) × (v ∈ l) × (0 < get_or M v 0)
  pub no : r ≡ false → (v : ℕ) → v ∈ l → get_or M v 0 ≡ 0
