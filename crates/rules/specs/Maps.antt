-- Document 01, 'Rules of the analysis': natural, injective and convex maps.
use Rattle.std.specs.Prelude.{ℕ, ◌<◌, List, map, ◌≡◌, length}
use Rattle.rules.specs.Lists.{◌∈◌, at}
use Rattle.rules.specs.Drawing.{Drawing, Maps, node_count, op_count, sources_of, targets_of}
use Rattle.rules.specs.Analysis.{Step}
use Rattle.rules.specs.Graph.{Route, first, links}

-- the selected nodes and operations: the entries of w and of x
abbrev pub nodes_of : Maps → List ℕ
nodes_of f = f.w.entries

abbrev pub ops_of : Maps → List ℕ
ops_of f = f.x.entries

-- Natural, from the drawing c into d: validation gives none of 5 to 10. The first two fields are against 5, the next two against 6, and so on.
-- It speaks of valid maps between valid drawings, as validation looks at 5 to 10 only behind 1 to 4: of an entry that is no node or no
-- operation it says nothing, since `at` gives 0 past the end. Validation is fine exactly if all are valid and the maps natural: `validate_fine`.
pub record Natural (c d : Drawing) (f : Maps) : Type 0 where
  pub w_count : length (nodes_of f) ≡ node_count c
  pub w_target : f.w.target ≡ node_count d
  pub x_count : length (ops_of f) ≡ op_count c
  pub x_target : f.x.target ≡ op_count d
  -- labels are carried
  pub node_labels : map (at d.nodes) (nodes_of f) ≡ c.nodes
  pub op_labels : map (at d.ops) (ops_of f) ≡ c.ops
  -- an operation's list, carried through w, is the list of its image, in order
  pub sources : (e : ℕ) → e < op_count c → sources_of d (at (ops_of f) e) ≡ map (at (nodes_of f)) (sources_of c e)
  pub targets : (e : ℕ) → e < op_count c → targets_of d (at (ops_of f) e) ≡ map (at (nodes_of f)) (targets_of c e)

-- No entry twice.
abbrev pub Injective : List ℕ → Type 0
Injective l = (i j : ℕ) → i < length l → j < length l → at l i ≡ at l j → i ≡ j

-- `is_monomorphism`: no entry twice in w, none twice in x.
pub record Monomorphism (f : Maps) : Type 0 where
  pub nodes : Injective (nodes_of f)
  pub ops : Injective (ops_of f)

-- A road: a directed target path of one or more operations from a selected node to a selected node that begins with an unselected operation.
pub record Road (d : Drawing) (w x : List ℕ) : Type 0 where
  pub leave : ℕ
  pub enter : ℕ
  pub route : Route (Step d) leave enter
  pub leaves : leave ∈ w
  pub enters : enter ∈ w
  pub begins : ¬ (first route ∈ x)

-- Convex: natural, injective, and there is no road.
pub record Convex (c d : Drawing) (f : Maps) : Type 0 where
  pub natural : Natural c d f
  pub injective : Monomorphism f
  pub no_road : ¬ Road d (nodes_of f) (ops_of f)

-- The string diagram rewriting literature instead: every operation on every path between selected nodes is selected.
abbrev pub Between : Drawing → List ℕ → List ℕ → Type 0
Between d w x = (u v : ℕ) (r : Route (Step d) u v) → u ∈ w → v ∈ w → (e : ℕ) → e ∈ links r → e ∈ x

pub record ConvexLiterature (c d : Drawing) (f : Maps) : Type 0 where
  pub natural : Natural c d f
  pub injective : Monomorphism f
  pub between : Between d (nodes_of f) (ops_of f)
