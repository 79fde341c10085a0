-- What a walk of a drawing's incidence graph tells, and the decision whether the drawing is acyclic, in a workspace of W words.
use Rattle.std.specs.Prelude.{ℕ, ◌+◌, ◌/◌, ◌<◌, Bool, true, false, List, ◌↔◌, ◌≡◌, get_or, replicate}
use Rattle.rules.specs.Drawing.{Drawing, node_count, op_count}
use Rattle.rules.specs.Graph.{OnOrBehindCycle, Order}
use Rattle.rules.specs.Analysis.{Acyclic, op_next}
use Rattle.rules.specs.Refusals.{workspace_need}
use Rattle.rules.specs.Inner.Incidence.{items}
use Rattle.rules.specs.Inner.IncidenceTable.{table_length}

-- where the walk leaves the operations' degrees and depths
abbrev pub op_degrees : Drawing → ℕ
op_degrees d = table_length d + node_count d

abbrev pub op_depths : Drawing → ℕ
op_depths d = table_length d + items d + items d + node_count d

-- what these, and the number of placed items, tell
pub record Told (d : Drawing) (ws : List ℕ) (placed : ℕ) : Type 0 where
  pub acyclic : (placed ≡ items d) ↔ Acyclic d
  pub marks : (e : ℕ) → e < op_count d → (0 < get_or ws (op_degrees d + e) 0) ↔ OnOrBehindCycle (op_next d) e
  pub orders : (e : ℕ) → e < op_count d → get_or ws (op_degrees d + e) 0 ≡ 0 → Order (op_next d) e (get_or ws (op_depths d + e) 0 / 2)

pub record Decided (d : Drawing) (ws' : List ℕ) (r : Bool) : Type 0 where
  pub yes : r ≡ true → Acyclic d
  pub no : r ≡ false → ¬ Acyclic d
  pub clear : ws' ≡ replicate (workspace_need d) 0
