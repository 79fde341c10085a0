-- A drawing's incidence graph: node v is item v, operation e is item n + e. A node leads to each operation that lists it as a source,
-- an operation to each node that it lists as a target, once for each listing.
use Rattle.std.specs.Prelude.{ℕ, ◌+◌, ◌-◌, cond, List, map, ltb}
use Rattle.rules.specs.Drawing.{Drawing, node_count, op_count, targets_of}
use Rattle.rules.specs.Analysis.{leaving}

abbrev pub items : Drawing → ℕ
items d = node_count d + op_count d

unfoldable pub incidence : Drawing → ℕ → List ℕ
incidence d i = cond (ltb i (node_count d)) (map (λ e. node_count d + e) (leaving d i)) (targets_of d (i - node_count d))
