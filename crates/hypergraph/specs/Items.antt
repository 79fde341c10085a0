-- The two adjacencies of a drawing by what they lead from, and to.
use Rattle.std.specs.Prelude.{ℕ, List}
use Rattle.rules.specs.Drawing.{Drawing, node_count, op_count}
use Rattle.rules.specs.Analysis.{node_next, op_next}
use Rattle.hypergraph.specs.declared.adjacency.Items.{Items}
use Rattle.hypergraph.specs.declared.adjacency.Items.TheVariants.{Nodes, Operations}

-- the rows, and how many there are
abbrev pub next_of : Items → Drawing → ℕ → List ℕ
next_of Nodes d = node_next d
next_of Operations d = op_next d

abbrev pub count_of : Items → Drawing → ℕ
count_of Nodes d = node_count d
count_of Operations d = op_count d
