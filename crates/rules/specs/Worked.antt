-- Document 01, 'Twelve proved, the others run': the (P) cases as one table over the definitions. Facts/Worked proves it.
-- All labels are 0; a source drawing is the part selected, in the maps' order, with declared targets n and m.
use Rattle.std.specs.Prelude.{ℕ, List, [], ◌∷◌, ◌≡◌}
use Rattle.rules.specs.Drawing.{Drawing, drawing, maps, boundary}
use Rattle.rules.specs.Graph.{Sorted}
use Rattle.rules.specs.Analysis.{node_next, op_next, Acyclic, orders, marks, layers}
use Rattle.rules.specs.Maps.{Convex}
use Rattle.rules.specs.Evaluation.{evaluated}

-- n = m = 0
abbrev pub empty : Drawing
empty = drawing [] [] [] [] [] []

-- n = 0, m = 1, empty lists
abbrev pub lone : Drawing
lone = drawing [] (0 ∷ []) (0 ∷ []) [] (0 ∷ []) []

-- D: operations 0→1, 1→2, 0→2
abbrev pub D : Drawing
D = drawing (0 ∷ 0 ∷ 0 ∷ []) (0 ∷ 0 ∷ 0 ∷ []) (1 ∷ 1 ∷ 1 ∷ []) (0 ∷ 1 ∷ 0 ∷ []) (1 ∷ 1 ∷ 1 ∷ []) (1 ∷ 2 ∷ 2 ∷ [])

-- parts of it: 0→1; 0→1, 1→2; two nodes and no operation
abbrev pub arrow : Drawing
arrow = drawing (0 ∷ 0 ∷ []) (0 ∷ []) (1 ∷ []) (0 ∷ []) (1 ∷ []) (1 ∷ [])

abbrev pub two_arrows : Drawing
two_arrows = drawing (0 ∷ 0 ∷ 0 ∷ []) (0 ∷ 0 ∷ []) (1 ∷ 1 ∷ []) (0 ∷ 1 ∷ []) (1 ∷ 1 ∷ []) (1 ∷ 2 ∷ [])

abbrev pub two_nodes : Drawing
two_nodes = drawing (0 ∷ 0 ∷ []) [] [] [] [] []

-- one operation 0→0, and its node alone
abbrev pub loop : Drawing
loop = drawing (0 ∷ []) (0 ∷ []) (1 ∷ []) (0 ∷ []) (1 ∷ []) (0 ∷ [])

abbrev pub one_node : Drawing
one_node = drawing (0 ∷ []) [] [] [] [] []

-- operations 0→1, 1→0, 1→2, none→3
abbrev pub four : Drawing
four = drawing (0 ∷ 0 ∷ 0 ∷ 0 ∷ []) (0 ∷ 0 ∷ 0 ∷ 0 ∷ []) (1 ∷ 1 ∷ 1 ∷ 0 ∷ []) (0 ∷ 1 ∷ 1 ∷ []) (1 ∷ 1 ∷ 1 ∷ 1 ∷ []) (1 ∷ 0 ∷ 2 ∷ 3 ∷ [])

-- none→0 and (0,0)→1
abbrev pub twice : Drawing
twice = drawing (0 ∷ 0 ∷ []) (0 ∷ 0 ∷ []) (0 ∷ 2 ∷ []) (0 ∷ 0 ∷ []) (1 ∷ 1 ∷ []) (0 ∷ 1 ∷ [])

-- n = 3, one operation (1,1)→(2,0)
abbrev pub cross : Drawing
cross = drawing (0 ∷ 0 ∷ 0 ∷ []) (0 ∷ []) (2 ∷ []) (1 ∷ 1 ∷ []) (2 ∷ []) (2 ∷ 0 ∷ [])

-- an operations' walk in full: by the rule, by computation, and in layers
pub record Walk (d : Drawing) (size : ℕ) (os ms : List ℕ) (ls : List (List ℕ)) : Type 0 where
  pub rule : Sorted (op_next d) size os ms
  pub orders' : orders d ≡ os
  pub marks' : marks d ≡ ms
  pub layers' : layers os ≡ ls

pub record Worked : Type 0 where
  pub empty_acyclic : Acyclic empty × Walk empty 0 [] [] []
  pub lone_acyclic : Acyclic lone × Walk lone 1 (0 ∷ []) (0 ∷ []) ((0 ∷ []) ∷ [])
  pub part_convex : Convex arrow D (maps (0 ∷ 1 ∷ []) 3 (0 ∷ []) 3)
  pub around_not : ¬ Convex two_arrows D (maps (0 ∷ 1 ∷ 2 ∷ []) 3 (0 ∷ 1 ∷ []) 3)
  pub ends_not : ¬ Convex two_nodes D (maps (0 ∷ 2 ∷ []) 3 [] 3)
  pub none_convex : Convex empty D (maps [] 3 [] 3)
  pub loop_not : ¬ Convex one_node loop (maps (0 ∷ []) 1 [] 1)
  pub loop_convex : Convex loop loop (maps (0 ∷ []) 1 (0 ∷ []) 1)
  pub cycle_first : Walk four 4 (0 ∷ 0 ∷ 0 ∷ 0 ∷ []) (1 ∷ 1 ∷ 1 ∷ 0 ∷ []) ((0 ∷ 1 ∷ 2 ∷ 3 ∷ []) ∷ [] ∷ [] ∷ [] ∷ [])
  pub listed_twice : (op_next twice 0 ≡ 1 ∷ 1 ∷ []) × Walk twice 2 (0 ∷ 1 ∷ []) (0 ∷ 0 ∷ []) ((0 ∷ []) ∷ (1 ∷ []) ∷ [])
  pub crossed : node_next cross 1 ≡ 2 ∷ 0 ∷ 2 ∷ 0 ∷ []
  pub later_input : evaluated one_node (boundary (0 ∷ 0 ∷ []) (0 ∷ [])) (1 ∷ 2 ∷ []) ≡ 2 ∷ []
