-- Document 01's twelve (P) cases over the calls: any result that meets a call's promise on that input is the one in the table, and none is
-- refused. W words of workspace and room for just what is written are enough. Facts/WorkedCalls proves it.
use Rattle.std.specs.Prelude.{List, [], ◌∷◌, ◌++◌, ◌≡◌, ℕ, ◌≤◌, length, drop, Bool, true, false}
use Rattle.rules.specs.Drawing.{Drawing, Maps, Boundary, maps, boundary}
use Rattle.rules.specs.Maps.{nodes_of, ops_of, Natural, Monomorphism, Road}
use Rattle.rules.specs.Refusals.{workspace_need}
use Rattle.rules.specs.Promises.{IsAcyclic, Layer, LayeredOperations, NodeAdjacency, OperationAdjacency, IsConvexSubgraph, Eval}
use Rattle.rules.specs.Worked.{empty, lone, D, arrow, two_arrows, two_nodes, loop, one_node, four, twice, cross}
use Rattle.std.specs.Prelude.{Result, Ok}
use Rattle.rules.specs.declared.Refusal.{Refusal}

-- every run of `is_acyclic` on d with W words or more says v
abbrev pub SaysAcyclic : Drawing → Result Bool Refusal → Type 0
SaysAcyclic d v = (ws ws' : List ℕ) (r : Result Bool Refusal) → workspace_need d ≤ length ws → IsAcyclic d ws ws' r → r ≡ v

-- and of `is_convex_subgraph`
abbrev pub SaysConvex : Drawing → Drawing → Maps → Result Bool Refusal → Type 0
SaysConvex c d f v = (ws ws' : List ℕ) (r : Result Bool Refusal) → workspace_need d ≤ length ws → IsConvexSubgraph c d f ws ws' r → r ≡ v

-- it says no because of a road: the maps are natural and injective
pub record NoByRoad (c d : Drawing) (f : Maps) : Type 0 where
  pub natural : Natural c d f
  pub injective : Monomorphism f
  pub road : Road d (nodes_of f) (ops_of f)
  pub says : SaysConvex c d f (Ok false)

-- the list stands at the front of an output, and behind it what stood there before
abbrev pub Holds : (list out out' : List ℕ) → Type 0
Holds list out out' = out' ≡ list ++ drop (length list) out

-- every run of `layer` with room for these orders and marks writes them
abbrev pub Sorts : Drawing → (os ms : List ℕ) → Type 0
Sorts d os ms =
    (out out' mout mout' ws ws' : List ℕ) (r : Result Unit Refusal) → length os ≤ length out → length ms ≤ length mout → workspace_need d ≤ length ws
    → Layer d out out' mout mout' ws ws' r → (r ≡ Ok tt) × Holds os out out' × Holds ms mout mout'

-- and of `layered_operations` these operations, offsets and marks
abbrev pub Layers : Drawing → (es offs ms : List ℕ) → Type 0
Layers d es offs ms =
    (out out' fout fout' mout mout' ws ws' : List ℕ) (r : Result Unit Refusal)
    → length es ≤ length out → length offs ≤ length fout → length ms ≤ length mout → workspace_need d ≤ length ws
    → LayeredOperations d out out' fout fout' mout mout' ws ws' r → (r ≡ Ok tt) × Holds es out out' × Holds offs fout fout' × Holds ms mout mout'

-- and of the two adjacencies these rows
abbrev pub OperationsAdjacent : Drawing → (lens vals : List ℕ) → Type 0
OperationsAdjacent d lens vals =
    (out out' vout vout' ws ws' : List ℕ) (r : Result Unit Refusal) → length lens ≤ length out → length vals ≤ length vout → workspace_need d ≤ length ws
    → OperationAdjacency d out out' vout vout' ws ws' r → (r ≡ Ok tt) × Holds lens out out' × Holds vals vout vout'

abbrev pub NodesAdjacent : Drawing → (lens vals : List ℕ) → Type 0
NodesAdjacent d lens vals =
    (out out' vout vout' ws ws' : List ℕ) (r : Result Unit Refusal) → length lens ≤ length out → length vals ≤ length vout → workspace_need d ≤ length ws
    → NodeAdjacency d out out' vout vout' ws ws' r → (r ≡ Ok tt) × Holds lens out out' × Holds vals vout vout'

-- and of `eval` these values
abbrev pub Evaluates : Drawing → Boundary → (values answer : List ℕ) → Type 0
Evaluates d b values answer =
    (out out' ws ws' : List ℕ) (r : Result Unit Refusal) → length answer ≤ length out → workspace_need d ≤ length ws → Eval d b values out out' ws ws' r → (r ≡ Ok tt) × Holds answer out out'

pub record WorkedCalls : Type 0 where
  pub empty_acyclic : SaysAcyclic empty (Ok true) × Layers empty [] (0 ∷ []) []
  pub lone_acyclic : SaysAcyclic lone (Ok true) × Layers lone (0 ∷ []) (0 ∷ 1 ∷ []) (0 ∷ [])
  pub part_convex : SaysConvex arrow D (maps (0 ∷ 1 ∷ []) 3 (0 ∷ []) 3) (Ok true)
  pub around_not : NoByRoad two_arrows D (maps (0 ∷ 1 ∷ 2 ∷ []) 3 (0 ∷ 1 ∷ []) 3)
  pub ends_not : NoByRoad two_nodes D (maps (0 ∷ 2 ∷ []) 3 [] 3)
  pub none_convex : SaysConvex empty D (maps [] 3 [] 3) (Ok true)
  pub loop_not : NoByRoad one_node loop (maps (0 ∷ []) 1 [] 1)
  pub loop_convex : SaysConvex loop loop (maps (0 ∷ []) 1 (0 ∷ []) 1) (Ok true)
  pub cycle_first : Sorts four (0 ∷ 0 ∷ 0 ∷ 0 ∷ []) (1 ∷ 1 ∷ 1 ∷ 0 ∷ []) × Layers four (0 ∷ 1 ∷ 2 ∷ 3 ∷ []) (0 ∷ 4 ∷ 4 ∷ 4 ∷ 4 ∷ []) (1 ∷ 1 ∷ 1 ∷ 0 ∷ [])
  pub listed_twice : OperationsAdjacent twice (2 ∷ 0 ∷ []) (1 ∷ 1 ∷ []) × Sorts twice (0 ∷ 1 ∷ []) (0 ∷ 0 ∷ [])
  pub crossed : NodesAdjacent cross (0 ∷ 4 ∷ 0 ∷ []) (2 ∷ 0 ∷ 2 ∷ 0 ∷ [])
  pub later_input : Evaluates one_node (boundary (0 ∷ 0 ∷ []) (0 ∷ [])) (1 ∷ 2 ∷ []) (2 ∷ [])
