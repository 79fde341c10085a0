-- The twelve worked cases hold.
use Rattle.std.specs.Prelude.{ℕ, List, [], ◌∷◌, ◌≡◌, refl}
use Rattle.rules.specs.Lists.{any, all, those, all_below, same_list}
use Rattle.rules.specs.Drawing.{Drawing, part, op_count, maps}
use Rattle.rules.specs.Graph.{ends, longest_below, mark, order}
use Rattle.rules.specs.Analysis.{converse, node_next, op_next, orders, marks, layer_of, layers}
use Rattle.rules.specs.Calls.{drawing_refusal, natural_refusal}
use Rattle.rules.specs.Evaluation.{operation, store_all, run_layer, run, evaluated}
use Rattle.rules.specs.Worked.{empty, lone, D, arrow, two_arrows, two_nodes, loop, one_node, four, twice, Walk, Worked}
use Rattle.rules.proofs.Facts.Accepts.{accepted_iff}
use Rattle.rules.proofs.Facts.Orders.{orders_sorted}
use Rattle.rules.proofs.Facts.Reach.{reach}
use Rattle.rules.proofs.Facts.Decide.{reach_b, acyclic_b, no_road_b, distinct, convex_b, is-convex, not_convex, is-acyclic}

walk : (d : Drawing) (os ms : List ℕ) (ls : List (List ℕ)) → drawing_refusal d ≡ 0 → orders d ≡ os → marks d ≡ ms → layers os ≡ ls → Walk d (op_count d) os ms ls
walk d os ms ls a p q r = record { rule = rw (← p, ← q) (orders_sorted ((accepted_iff d).0 a)); orders' = p; marks' = q; layers' = r }

pub worked : Worked
unfolding part converse node_next op_next any all those all_below same_list ends longest_below mark order layer_of drawing_refusal natural_refusal reach reach_b acyclic_b no_road_b distinct convex_b operation store_all run_layer run evaluated
worked =
    record {
      empty_acyclic = (is-acyclic empty refl tt, walk empty [] [] [] refl refl refl refl);
      lone_acyclic = (is-acyclic lone refl tt, walk lone (0 ∷ []) (0 ∷ []) ((0 ∷ []) ∷ []) refl refl refl refl);
      part_convex = is-convex arrow D (maps (0 ∷ 1 ∷ []) 3 (0 ∷ []) 3) refl tt;
      around_not = not_convex two_arrows D (maps (0 ∷ 1 ∷ 2 ∷ []) 3 (0 ∷ 1 ∷ []) 3) refl tt;
      ends_not = not_convex two_nodes D (maps (0 ∷ 2 ∷ []) 3 [] 3) refl tt;
      none_convex = is-convex empty D (maps [] 3 [] 3) refl tt;
      loop_not = not_convex one_node loop (maps (0 ∷ []) 1 [] 1) refl tt;
      loop_convex = is-convex loop loop (maps (0 ∷ []) 1 (0 ∷ []) 1) refl tt;
      cycle_first = walk four (0 ∷ 0 ∷ 0 ∷ 0 ∷ []) (1 ∷ 1 ∷ 1 ∷ 0 ∷ []) ((0 ∷ 1 ∷ 2 ∷ 3 ∷ []) ∷ [] ∷ [] ∷ [] ∷ []) refl refl refl refl;
      listed_twice = (refl, walk twice (0 ∷ 1 ∷ []) (0 ∷ 0 ∷ []) ((0 ∷ []) ∷ (1 ∷ []) ∷ []) refl refl refl refl);
      crossed = refl;
      later_input = refl;
    }
