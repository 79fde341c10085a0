-- The folded drawing of demand 3: the selected nodes become one node, and the selected operations are gone.
use Rattle.std.specs.Prelude.{ℕ, zero, suc, List, [], ◌∷◌, ◌++◌, map, cond, length, take}
use Rattle.rules.specs.Lists.{has, at, concat}
use Rattle.rules.specs.Drawing.{Drawing, node_count, op_count, sources_of, targets_of}

-- the numbers below k that l does not have, ascending
abbrev pub outside : List ℕ → ℕ → List ℕ
outside l zero = []
outside l (suc k) = outside l k ++ cond (has l k) [] (k ∷ [])

-- the number of the new node: it stands behind the unselected ones
abbrev pub new_node : List ℕ → ℕ → ℕ
new_node w n = length (outside w n)

-- a node's new number: the unselected ones keep their order, and the selected ones become the new node
abbrev pub rename : List ℕ → ℕ → ℕ → ℕ
rename w n u = cond (has w u) (new_node w n) (length (outside w u))

-- Each unselected operation keeps its label and its lists, with the new numbers. The new node stands last and has the label 0; where no
-- node is selected there is none.
unfoldable pub fold : Drawing → List ℕ → List ℕ → Drawing
fold d w x =
    let new : List ℕ → List ℕ = map (rename w (node_count d)) in
    let kept : List ℕ = outside x (op_count d) in
    record {
      nodes = map (at d.nodes) (outside w (node_count d)) ++ map (λ u. 0) (take 1 w);
      ops = map (at d.ops) kept;
      source_lengths = map (λ e. length (sources_of d e)) kept;
      source_values = concat (map (λ e. new (sources_of d e)) kept);
      target_lengths = map (λ e. length (targets_of d e)) kept;
      target_values = concat (map (λ e. new (targets_of d e)) kept);
    }
