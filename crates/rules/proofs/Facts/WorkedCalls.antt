-- The twelve worked cases hold of every run of the calls.
use Rattle.std.specs.Prelude.{ℕ, ◌+◌, ◌≤◌, List, [], ◌∷◌, ◌≡◌, refl, T, length, not, Bool, true, false}
use Rattle.std.proofs.Common.{arith, ap, ◌∙◌}
use Rattle.rules.specs.Lists.{any, all, those, all_below, same_list, row_lengths, row_entries}
use Rattle.rules.specs.Drawing.{Drawing, Maps, Boundary, part, node_count, op_count, maps, boundary}
use Rattle.rules.specs.Graph.{ends, longest_below, mark, order}
use Rattle.rules.specs.Analysis.{converse, node_next, op_next, Acyclic, orders, marks, layer_of, starts, layer_operations, layer_offsets}
use Rattle.rules.specs.Maps.{nodes_of, ops_of, Convex}
use Rattle.rules.specs.Refusals.{refusal_of, written, first_of}
use Rattle.rules.specs.Calls.{drawing_refusal, boundary_refusal, natural_refusal}
use Rattle.rules.specs.Evaluation.{operation, store_all, run_layer, run, evaluated, unplaced_op, wrong_operation}
use Rattle.rules.specs.Inner.Arrow.{arrow_inputs_refusal}
use Rattle.rules.specs.Worked.{empty, lone, D, arrow, two_arrows, two_nodes, loop, one_node, four, twice, cross}
use Rattle.rules.specs.WorkedCalls.{SaysAcyclic, SaysConvex, NoByRoad, Holds, Sorts, Layers, OperationsAdjacent, NodesAdjacent, Evaluates, WorkedCalls}
use Rattle.rules.proofs.Facts.Refusing.{number-some}
use Rattle.rules.proofs.Facts.Fine.{none_fine}
use Rattle.rules.proofs.Facts.Rooms.{acyclic_enough, two_enough, layered_enough}
use Rattle.rules.proofs.Facts.ArrowInputs.{convex_enough}
use Rattle.rules.proofs.Facts.Naturality.{natural_iff}
use Rattle.rules.proofs.Facts.Output.{eval_refused}
use Rattle.rules.proofs.Facts.Reach.{reach}
use Rattle.rules.proofs.Facts.Decide.{reach_b, no_road_b, distinct, is-injective, is_road}
use Rattle.rules.proofs.Facts.Worked.{worked}
use Rattle.std.specs.Prelude.{Result, Ok, Err}
use Rattle.rules.specs.declared.Refusal.{Refusal}

-- a verdict that is not refused, on what holds and on what does not
says_yes : {P : Type 0} (r : Result Bool Refusal) → refusal_of r ≡ 0 → (r ≡ Ok false → ¬ P) → P → r ≡ Ok true
says_yes (Ok true) e h p = refl
says_yes (Ok false) e h p = absurd (h refl p)
says_yes (Err why) e h p = absurd (number-some why e)

says_no : {P : Type 0} (r : Result Bool Refusal) → refusal_of r ≡ 0 → (r ≡ Ok true → P) → ¬ P → r ≡ Ok false
says_no (Ok true) e h n = absurd (n (h refl))
says_no (Ok false) e h n = refl
says_no (Err why) e h n = absurd (number-some why e)

acyclic_yes : (d : Drawing) → drawing_refusal d ≡ 0 → Acyclic d → SaysAcyclic d (Ok true)
acyclic_yes d z a ws ws' r h p = says_yes r (p.refusal ∙ acyclic_enough d z (length ws) h) p.no a

module _ (c d : Drawing) (f : Maps) (z : arrow_inputs_refusal c d f ≡ 0) where
  convex_yes : Convex c d f → SaysConvex c d f (Ok true)
  convex_yes a ws ws' r h p = says_yes r (p.refusal ∙ convex_enough c d f (length ws) z h) p.no a

  no_by_road : drawing_refusal d ≡ 0 → natural_refusal c d f ≡ 0 → T (distinct (nodes_of f)) → T (distinct (ops_of f)) → T (not (no_road_b d (nodes_of f) (ops_of f))) → NoByRoad c d f
  no_by_road v n p q t =
      let way = is_road d (nodes_of f) (ops_of f) v t in
      record {
        natural = (natural_iff c d f).0 n;
        injective = is-injective f p q;
        road = way;
        says = λ ws ws' r h s. says_no r (s.refusal ∙ convex_enough c d f (length ws) z h) s.yes (λ a. a.no_road way);
      }

-- what was written where nothing is refused
holds : (k : ℕ) (new list out out' : List ℕ) → k ≡ 0 → out' ≡ written k new out → new ≡ list → Holds list out out'
holds k new list out out' e p q = p ∙ rw (e, q)

module _ (d : Drawing) (z : drawing_refusal d ≡ 0) where
  sorts : (os ms : List ℕ) → op_count d ≡ length os → op_count d ≡ length ms → orders d ≡ os → marks d ≡ ms → Sorts d os ms
  sorts os ms a b p q out out' mout mout' ws ws' r h k w l =
      let e : refusal_of r ≡ 0 = l.refusal ∙ two_enough d z (op_count d) (length out) (op_count d) (length mout) (length ws) (omega arith) (omega arith) w in
      (none_fine r e, holds _ _ _ _ _ e l.orders' p, holds _ _ _ _ _ e l.marks' q)

  layered : (es offs ms : List ℕ) → op_count d ≡ length es → op_count d + 1 ≡ length offs → op_count d ≡ length ms
      → layer_operations (orders d) ≡ es → layer_offsets (orders d) ≡ offs → marks d ≡ ms → Layers d es offs ms
  layered es offs ms a b c p q m out out' fout fout' mout mout' ws ws' r h k j w l =
      let e : refusal_of r ≡ 0 = l.refusal ∙ layered_enough d z (length out) (length fout) (length mout) (length ws) (omega arith) (omega arith) (omega arith) w in
      (none_fine r e, holds _ _ _ _ _ e l.operations' p, holds _ _ _ _ _ e l.offsets' q, holds _ _ _ _ _ e l.marks' m)

  ops_adjacent : (lens vals : List ℕ) → op_count d ≡ length lens → row_lengths (op_next d) (op_count d) ≡ lens → row_entries (op_next d) (op_count d) ≡ vals → OperationsAdjacent d lens vals
  ops_adjacent lens vals a p q out out' vout vout' ws ws' r h k w l =
      let e : refusal_of r ≡ 0 = l.refusal ∙ two_enough d z (op_count d) (length out) (length (row_entries (op_next d) (op_count d))) (length vout) (length ws) (omega arith) (omega (arith, ap length q)) w in
      (none_fine r e, holds _ _ _ _ _ e l.lengths p, holds _ _ _ _ _ e l.values q)

  nodes_adjacent : (lens vals : List ℕ) → node_count d ≡ length lens → row_lengths (node_next d) (node_count d) ≡ lens → row_entries (node_next d) (node_count d) ≡ vals → NodesAdjacent d lens vals
  nodes_adjacent lens vals a p q out out' vout vout' ws ws' r h k w l =
      let e : refusal_of r ≡ 0 = l.refusal ∙ two_enough d z (node_count d) (length out) (length (row_entries (node_next d) (node_count d))) (length vout) (length ws) (omega arith) (omega (arith, ap length q)) w in
      (none_fine r e, holds _ _ _ _ _ e l.lengths p, holds _ _ _ _ _ e l.values q)

evaluates : (d : Drawing) (b : Boundary) (values answer : List ℕ) → boundary_refusal d b ≡ 0 → first_of (unplaced_op d ∷ wrong_operation d ∷ []) ≡ 0 → length values ≤ 4096
    → length b.outputs ≡ length answer → evaluated d b values ≡ answer → Evaluates d b values answer
evaluates d b values answer z v few a p out out' ws ws' r h w l =
    let e : refusal_of r ≡ 0 = l.refusal ∙ eval_refused d b z values (length out) (length ws) few (omega arith) w ∙ v in
    (none_fine r e, holds _ _ _ _ _ e l.output p)

pub worked_calls : WorkedCalls
unfolding part converse node_next op_next any all those all_below same_list ends longest_below mark order layer_of starts operation store_all run_layer run evaluated drawing_refusal boundary_refusal natural_refusal arrow_inputs_refusal reach reach_b no_road_b distinct
worked_calls =
    record {
      empty_acyclic = (acyclic_yes empty refl worked.empty_acyclic.0, layered empty refl [] (0 ∷ []) [] refl refl refl refl refl refl);
      lone_acyclic = (acyclic_yes lone refl worked.lone_acyclic.0, layered lone refl (0 ∷ []) (0 ∷ 1 ∷ []) (0 ∷ []) refl refl refl refl refl refl);
      part_convex = convex_yes arrow D (maps (0 ∷ 1 ∷ []) 3 (0 ∷ []) 3) refl worked.part_convex;
      around_not = no_by_road two_arrows D (maps (0 ∷ 1 ∷ 2 ∷ []) 3 (0 ∷ 1 ∷ []) 3) refl refl refl tt tt tt;
      ends_not = no_by_road two_nodes D (maps (0 ∷ 2 ∷ []) 3 [] 3) refl refl refl tt tt tt;
      none_convex = convex_yes empty D (maps [] 3 [] 3) refl worked.none_convex;
      loop_not = no_by_road one_node loop (maps (0 ∷ []) 1 [] 1) refl refl refl tt tt tt;
      loop_convex = convex_yes loop loop (maps (0 ∷ []) 1 (0 ∷ []) 1) refl worked.loop_convex;
      cycle_first = (
        sorts four refl (0 ∷ 0 ∷ 0 ∷ 0 ∷ []) (1 ∷ 1 ∷ 1 ∷ 0 ∷ []) refl refl refl refl,
        layered four refl (0 ∷ 1 ∷ 2 ∷ 3 ∷ []) (0 ∷ 4 ∷ 4 ∷ 4 ∷ 4 ∷ []) (1 ∷ 1 ∷ 1 ∷ 0 ∷ []) refl refl refl refl refl refl,
      );
      listed_twice = (ops_adjacent twice refl (2 ∷ 0 ∷ []) (1 ∷ 1 ∷ []) refl refl refl, sorts twice refl (0 ∷ 1 ∷ []) (0 ∷ 0 ∷ []) refl refl refl refl);
      crossed = nodes_adjacent cross refl (0 ∷ 4 ∷ 0 ∷ []) (2 ∷ 0 ∷ 2 ∷ 0 ∷ []) refl refl refl;
      later_input = evaluates one_node (boundary (0 ∷ 0 ∷ []) (0 ∷ [])) (1 ∷ 2 ∷ []) (2 ∷ []) refl refl (omega arith) refl refl;
    }
