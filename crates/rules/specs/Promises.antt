-- What the public calls promise: for each its answer, every output and the workspace, refusals included.
-- A name with ' is what a lent list holds on return; without, what it held on entry.
use Rattle.std.specs.Prelude.{ℕ, Bool, List, ◌≡◌, length, true, false}
use Rattle.rules.specs.Lists.{row_lengths, row_entries}
use Rattle.rules.specs.Drawing.{Drawing, Maps, Boundary, Accepted, node_count, op_count}
use Rattle.rules.specs.Graph.{Sorted}
use Rattle.rules.specs.Analysis.{leaving, entering, node_next, op_next, Acyclic, orders, marks, layer_of, layer_operations, layer_offsets, sound, layer_part}
use Rattle.rules.specs.Maps.{Monomorphism, Convex}
use Rattle.rules.specs.Refusals.{refusal_of, workspace_need, maps_need, left_over, written}
use Rattle.rules.specs.Evaluation.{evaluated}
use Rattle.rules.specs.Calls.{drawing_refusal, maps_refusal, boundary_refusal, source_converse_refusal, target_converse_refusal, node_adjacency_refusal, op_adjacency_refusal, acyclic_refusal, layer_refusal, layered_refusal, validate_refusal, monomorphism_refusal, convex_refusal, eval_refusal}
use Rattle.std.specs.Prelude.{Result, Ok}
use Rattle.rules.specs.declared.Refusal.{Refusal}

-- `check_drawing`, `check_maps`, `check_boundary`
pub record CheckDrawing (d : Drawing) (r : Result Unit Refusal) : Type 0 where
  pub refusal : refusal_of r ≡ drawing_refusal d

pub record CheckMaps (f : Maps) (r : Result Unit Refusal) : Type 0 where
  pub refusal : refusal_of r ≡ maps_refusal f

pub record CheckBoundary (d : Drawing) (b : Boundary) (r : Result Unit Refusal) : Type 0 where
  pub refusal : refusal_of r ≡ boundary_refusal d b

-- A call that writes k rows as a length list and a values list, with W words of workspace.
pub record WritesRows (rows : ℕ → List ℕ) (k refused words : ℕ) (lens lens' vals vals' ws ws' : List ℕ) (r : Result Unit Refusal) : Type 0 where
  pub refusal : refusal_of r ≡ refused
  pub lengths : lens' ≡ written (refusal_of r) (row_lengths rows k) lens
  pub values : vals' ≡ written (refusal_of r) (row_entries rows k) vals
  pub workspace : ws' ≡ left_over (refusal_of r) words ws

-- `source_converse`, `target_converse`
abbrev pub SourceConverse : (d : Drawing) (lens lens' vals vals' ws ws' : List ℕ) (r : Result Unit Refusal) → Type 0
SourceConverse d lens lens' vals vals' ws ws' r =
    WritesRows (leaving d) (node_count d) (source_converse_refusal d (length lens) (length vals) (length ws)) (workspace_need d) lens lens' vals vals' ws ws' r

abbrev pub TargetConverse : (d : Drawing) (lens lens' vals vals' ws ws' : List ℕ) (r : Result Unit Refusal) → Type 0
TargetConverse d lens lens' vals vals' ws ws' r =
    WritesRows (entering d) (node_count d) (target_converse_refusal d (length lens) (length vals) (length ws)) (workspace_need d) lens lens' vals vals' ws ws' r

-- `node_adjacency`, `operation_adjacency`
abbrev pub NodeAdjacency : (d : Drawing) (lens lens' vals vals' ws ws' : List ℕ) (r : Result Unit Refusal) → Type 0
NodeAdjacency d lens lens' vals vals' ws ws' r =
    WritesRows (node_next d) (node_count d) (node_adjacency_refusal d (length lens) (length vals) (length ws)) (workspace_need d) lens lens' vals vals' ws ws' r

abbrev pub OperationAdjacency : (d : Drawing) (lens lens' vals vals' ws ws' : List ℕ) (r : Result Unit Refusal) → Type 0
OperationAdjacency d lens lens' vals vals' ws ws' r =
    WritesRows (op_next d) (op_count d) (op_adjacency_refusal d (length lens) (length vals) (length ws)) (workspace_need d) lens lens' vals vals' ws ws' r

-- `node_adjacency_size`, `operation_adjacency_size`: how many values the two write
pub record RowsSize (d : Drawing) (rows : ℕ → List ℕ) (k : ℕ) (r : Result ℕ Refusal) : Type 0 where
  pub refusal : refusal_of r ≡ drawing_refusal d
  pub size : (entries : ℕ) → r ≡ Ok entries → entries ≡ length (row_entries rows k)

abbrev pub NodeAdjacencySize : (d : Drawing) (r : Result ℕ Refusal) → Type 0
NodeAdjacencySize d r = RowsSize d (node_next d) (node_count d) r

abbrev pub OperationAdjacencySize : (d : Drawing) (r : Result ℕ Refusal) → Type 0
OperationAdjacencySize d r = RowsSize d (op_next d) (op_count d) r

-- `is_acyclic`
pub record IsAcyclic (d : Drawing) (ws ws' : List ℕ) (r : Result Bool Refusal) : Type 0 where
  pub refusal : refusal_of r ≡ acyclic_refusal d (length ws)
  pub yes : r ≡ Ok true → Acyclic d
  pub no : r ≡ Ok false → ¬ Acyclic d
  pub workspace : ws' ≡ left_over (refusal_of r) (workspace_need d) ws

-- `layer`: the orders and the marks, which are those of kahn's rule over operation adjacency
pub record Layer (d : Drawing) (os os' ms ms' ws ws' : List ℕ) (r : Result Unit Refusal) : Type 0 where
  pub refusal : refusal_of r ≡ layer_refusal d (length os) (length ms) (length ws)
  pub orders' : os' ≡ written (refusal_of r) (orders d) os
  pub marks' : ms' ≡ written (refusal_of r) (marks d) ms
  pub rule : r ≡ Ok tt → Sorted (op_next d) (op_count d) (orders d) (marks d)
  pub workspace : ws' ≡ left_over (refusal_of r) (workspace_need d) ws

-- `layered_operations`: the layers one behind the other, where each begins, and the marks
pub record LayeredOperations (d : Drawing) (es es' offs offs' ms ms' ws ws' : List ℕ) (r : Result Unit Refusal) : Type 0 where
  pub refusal : refusal_of r ≡ layered_refusal d (length es) (length offs) (length ms) (length ws)
  pub operations' : es' ≡ written (refusal_of r) (layer_operations (orders d)) es
  pub offsets' : offs' ≡ written (refusal_of r) (layer_offsets (orders d)) offs
  pub marks' : ms' ≡ written (refusal_of r) (marks d) ms
  pub rule : r ≡ Ok tt → Sorted (op_next d) (op_count d) (orders d) (marks d)
  pub workspace : ws' ≡ left_over (refusal_of r) (workspace_need d) ws

-- `offsets_sound`, `layer_at`: on what `layered_operations` wrote, the part is exactly the operations of order i
pub record OffsetsSound (ops offsets : List ℕ) (r : Bool) : Type 0 where
  pub answer : r ≡ sound ops offsets

pub record LayerAt (ops offsets : List ℕ) (i : ℕ) (r : List ℕ) : Type 0 where
  pub answer : r ≡ layer_part ops offsets i
  pub layer : (d : Drawing) → Accepted d → ops ≡ layer_operations (orders d) → offsets ≡ layer_offsets (orders d) → r ≡ layer_of (orders d) i

-- `validate`, from c into d
pub record Validate (c d : Drawing) (f : Maps) (r : Result Unit Refusal) : Type 0 where
  pub refusal : refusal_of r ≡ validate_refusal c d f

-- `is_monomorphism`
pub record IsMonomorphism (f : Maps) (ws ws' : List ℕ) (r : Result Bool Refusal) : Type 0 where
  pub refusal : refusal_of r ≡ monomorphism_refusal f (length ws)
  pub yes : r ≡ Ok true → Monomorphism f
  pub no : r ≡ Ok false → ¬ Monomorphism f
  pub workspace : ws' ≡ left_over (refusal_of r) (maps_need f) ws

-- `is_convex_subgraph`, from c into d
pub record IsConvexSubgraph (c d : Drawing) (f : Maps) (ws ws' : List ℕ) (r : Result Bool Refusal) : Type 0 where
  pub refusal : refusal_of r ≡ convex_refusal c d f (length ws)
  pub yes : r ≡ Ok true → Convex c d f
  pub no : r ≡ Ok false → ¬ Convex c d f
  pub workspace : ws' ≡ left_over (refusal_of r) (workspace_need d) ws

-- `eval`: the values at the outputs once all layers have run
pub record Eval (d : Drawing) (b : Boundary) (values out out' ws ws' : List ℕ) (r : Result Unit Refusal) : Type 0 where
  pub refusal : refusal_of r ≡ eval_refusal d b values (length out) (length ws)
  pub output : out' ≡ written (refusal_of r) (evaluated d b values) out
  pub workspace : ws' ≡ left_over (refusal_of r) (workspace_need d) ws
