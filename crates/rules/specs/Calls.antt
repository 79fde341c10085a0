-- Document 01, 'Order for a call': what each call is refused with, the first of a list. 0: not refused.
-- The order: 1 over everything lent; 2 then 3 of the first drawing, then of the second; 4; 12; 11; 5 to 10; 13; 14.
use Rattle.std.specs.Prelude.{ℕ, ◌+◌, ◌&&◌, List, [], ◌∷◌, length}
use Rattle.rules.specs.Lists.{row_entries}
use Rattle.rules.specs.Drawing.{Drawing, Maps, Boundary, node_count, op_count}
use Rattle.rules.specs.Analysis.{node_next, op_next}
use Rattle.rules.specs.Refusals.{first_of, unless, within, maps_within, boundary_within, values_within, bad_lengths, bad_value, bad_entry, bad_boundary, short_room, workspace_need, maps_need, type_mismatch_w, type_mismatch_x, not_natural_w, not_natural_x, not_natural_s, not_natural_t}
use Rattle.rules.specs.Evaluation.{unplaced_op, wrong_operation}

-- the checks of a drawing, of both maps, of a boundary with its drawing; the sizes of the adjacencies are refused like the first
unfoldable pub drawing_refusal : Drawing → ℕ
drawing_refusal d = first_of (unless (within d) 1 ∷ bad_lengths d ∷ bad_value d ∷ [])

unfoldable pub maps_refusal : Maps → ℕ
maps_refusal f = first_of (unless (maps_within f) 1 ∷ bad_entry f ∷ [])

unfoldable pub boundary_refusal : Drawing → Boundary → ℕ
boundary_refusal d b = first_of (unless (within d && boundary_within b) 1 ∷ bad_lengths d ∷ bad_value d ∷ bad_boundary d b ∷ [])

-- a call on a drawing that is lent two outputs and a workspace; each output as the words that it needs, and those that it has
unfoldable pub two_outputs_refusal : (d : Drawing) (need₁ room₁ need₂ room₂ room : ℕ) → ℕ
two_outputs_refusal d need₁ room₁ need₂ room₂ room =
    first_of (unless (within d) 1 ∷ bad_lengths d ∷ bad_value d ∷ short_room need₁ room₁ ∷ short_room need₂ room₂ ∷ short_room (workspace_need d) room ∷ [])

-- the converses: n lengths, S or T values
abbrev pub source_converse_refusal : (d : Drawing) (lengths_room values_room room : ℕ) → ℕ
source_converse_refusal d lengths_room values_room room = two_outputs_refusal d (node_count d) lengths_room (length d.source_values) values_room room

abbrev pub target_converse_refusal : (d : Drawing) (lengths_room values_room room : ℕ) → ℕ
target_converse_refusal d lengths_room values_room room = two_outputs_refusal d (node_count d) lengths_room (length d.target_values) values_room room

-- the adjacencies: n or m lengths, and as many values as there are
abbrev pub node_adjacency_refusal : (d : Drawing) (lengths_room values_room room : ℕ) → ℕ
node_adjacency_refusal d lengths_room values_room room = two_outputs_refusal d (node_count d) lengths_room (length (row_entries (node_next d) (node_count d))) values_room room

abbrev pub op_adjacency_refusal : (d : Drawing) (lengths_room values_room room : ℕ) → ℕ
op_adjacency_refusal d lengths_room values_room room = two_outputs_refusal d (op_count d) lengths_room (length (row_entries (op_next d) (op_count d))) values_room room

-- `is_acyclic`: no output
unfoldable pub acyclic_refusal : (d : Drawing) (room : ℕ) → ℕ
acyclic_refusal d room = first_of (unless (within d) 1 ∷ bad_lengths d ∷ bad_value d ∷ short_room (workspace_need d) room ∷ [])

-- `layer`: m orders, m marks
abbrev pub layer_refusal : (d : Drawing) (orders_room marks_room room : ℕ) → ℕ
layer_refusal d orders_room marks_room room = two_outputs_refusal d (op_count d) orders_room (op_count d) marks_room room

-- `layered_operations`: m operations, m + 1 offsets, m marks
unfoldable pub layered_refusal : (d : Drawing) (operations_room offsets_room marks_room room : ℕ) → ℕ
layered_refusal d operations_room offsets_room marks_room room =
    first_of
    (unless (within d) 1
    ∷ bad_lengths d
    ∷ bad_value d
    ∷ short_room (op_count d) operations_room
    ∷ short_room (op_count d + 1) offsets_room
    ∷ short_room (op_count d) marks_room
    ∷ short_room (workspace_need d) room
    ∷ [])

-- 5 to 10 alone
unfoldable pub natural_refusal : Drawing → Drawing → Maps → ℕ
natural_refusal c d f =
    first_of (type_mismatch_w c d f ∷ type_mismatch_x c d f ∷ not_natural_w c d f ∷ not_natural_x c d f ∷ not_natural_s c d f ∷ not_natural_t c d f ∷ [])

-- map validation, from c into d: no workspace
unfoldable pub validate_refusal : Drawing → Drawing → Maps → ℕ
validate_refusal c d f =
    first_of
    (unless (within c && within d && maps_within f) 1
    ∷ bad_lengths c
    ∷ bad_value c
    ∷ bad_lengths d
    ∷ bad_value d
    ∷ bad_entry f
    ∷ natural_refusal c d f
    ∷ [])

-- `is_monomorphism`: the two maps and no drawing
unfoldable pub monomorphism_refusal : (f : Maps) (room : ℕ) → ℕ
monomorphism_refusal f room = first_of (unless (maps_within f) 1 ∷ bad_entry f ∷ short_room (maps_need f) room ∷ [])

-- `is_convex_subgraph`: no instead of 5 to 10
unfoldable pub convex_refusal : (c d : Drawing) (f : Maps) (room : ℕ) → ℕ
convex_refusal c d f room =
    first_of
    (unless (within c && within d && maps_within f) 1
    ∷ bad_lengths c
    ∷ bad_value c
    ∷ bad_lengths d
    ∷ bad_value d
    ∷ bad_entry f
    ∷ short_room (workspace_need d) room
    ∷ [])

-- `eval`
unfoldable pub eval_refusal : (d : Drawing) (b : Boundary) (values : List ℕ) (output_room room : ℕ) → ℕ
eval_refusal d b values output_room room =
    first_of
    (unless (within d && boundary_within b && values_within values) 1
    ∷ bad_lengths d
    ∷ bad_value d
    ∷ bad_boundary d b
    ∷ short_room (length b.outputs) output_room
    ∷ short_room (workspace_need d) room
    ∷ unplaced_op d
    ∷ wrong_operation d
    ∷ [])
