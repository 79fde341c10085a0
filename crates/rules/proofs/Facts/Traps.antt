-- What is easily missed in document 01, worked: which refusal comes first, what is at an edge. Each is found by computing.
use Rattle.std.specs.Prelude.{ℕ, List, [], ◌∷◌, ◌≡◌, refl, replicate}
use Rattle.rules.specs.Lists.{any, all, those, all_below, same_list}
use Rattle.rules.specs.Drawing.{Drawing, drawing, maps, boundary, part}
use Rattle.rules.specs.Graph.{ends, longest_below, mark, order}
use Rattle.rules.specs.Analysis.{converse, op_next, layer_of, starts, rising, sound, layer_part}
use Rattle.rules.specs.Evaluation.{operation, place_of, store_all, run_layer, run, evaluated}
use Rattle.rules.specs.Calls.{drawing_refusal, maps_refusal, boundary_refusal, acyclic_refusal, validate_refusal, natural_refusal, monomorphism_refusal, convex_refusal, eval_refusal}
use Rattle.rules.specs.Worked.{empty, D, two_nodes, one_node, loop, four}

-- one operation with a label, from sn sources to tn targets, over n nodes of label 0
abbrev pub single : (n label : ℕ) (sources targets : List ℕ) (sn tn : ℕ) → Drawing
single n label sources targets sn tn = drawing (replicate n 0) (label ∷ []) (sn ∷ []) sources (tn ∷ []) targets

-- its value at node 1, from the value at node 0
abbrev pub of : (label input : ℕ) → List ℕ
of label input = evaluated (single 2 label (0 ∷ []) (1 ∷ []) 1 1) (boundary (0 ∷ []) (1 ∷ [])) (input ∷ [])

-- what `eval` is refused with on a drawing, with no boundary, no values, no output and so many words of workspace
abbrev pub eval_of : Drawing → ℕ → ℕ
eval_of d room = eval_refusal d (boundary [] []) [] 0 room

pub record Traps : Type 0 where
  -- an over-long length list has the wrong count; 4294967295 + 1 does not wrap
  pub long_lengths : drawing_refusal (drawing [] [] (replicate 5000 0) [] [] []) ≡ 2
  pub no_wrap : drawing_refusal (drawing [] (0 ∷ 0 ∷ []) (4294967295 ∷ 1 ∷ []) [] (0 ∷ 0 ∷ []) []) ≡ 2
  -- both length lists come before any value
  pub lengths_first : drawing_refusal (drawing (0 ∷ []) (0 ∷ []) (1 ∷ []) (9 ∷ []) (2 ∷ []) (0 ∷ [])) ≡ 2
  pub no_node : drawing_refusal (drawing [] (0 ∷ []) (1 ∷ []) (0 ∷ []) (0 ∷ []) []) ≡ 3
  pub limit : drawing_refusal (drawing (replicate 4096 0) [] [] [] [] []) ≡ 0
  pub over_limit : drawing_refusal (drawing (replicate 4097 0) [] [] [] [] []) ≡ 1
  -- 1 over everything lent comes before any 2; the source's 3 before the target's 2
  pub targets_first : validate_refusal (drawing [] [] (7 ∷ []) [] [] []) empty (maps [] 4097 [] 0) ≡ 1
  pub source_first : validate_refusal (drawing (0 ∷ []) (0 ∷ []) (1 ∷ []) (9 ∷ []) (0 ∷ []) []) (drawing [] [] (7 ∷ []) [] [] []) (maps [] 0 [] 0) ≡ 3
  pub no_entry : maps_refusal (maps (0 ∷ []) 0 [] 0) ≡ 4
  pub no_boundary : boundary_refusal empty (boundary [] (0 ∷ [])) ≡ 12
  -- 5 looks at count and declared target, and both before 6
  pub count_of_w : validate_refusal two_nodes D (maps (0 ∷ []) 3 (0 ∷ []) 9) ≡ 5
  pub target_of_w : validate_refusal two_nodes D (maps (0 ∷ 2 ∷ []) 4 [] 9) ≡ 5
  pub target_of_x : validate_refusal two_nodes D (maps (0 ∷ 2 ∷ []) 3 [] 9) ≡ 6
  -- lists are compared in order
  pub in_order : validate_refusal (single 2 0 (0 ∷ 1 ∷ []) [] 2 0) (single 2 0 (1 ∷ 0 ∷ []) [] 2 0) (maps (0 ∷ 1 ∷ []) 2 (0 ∷ []) 1) ≡ 9
  pub with_counts : validate_refusal (single 1 0 [] (0 ∷ []) 0 1) (single 1 0 [] (0 ∷ 0 ∷ []) 0 2) (maps (0 ∷ []) 1 (0 ∷ []) 1) ≡ 10
  -- W words, also where there is no node; 0 words for two maps into nothing
  pub room : acyclic_refusal empty 8 ≡ 0
  pub short_room : acyclic_refusal empty 7 ≡ 11
  pub no_room : monomorphism_refusal (maps [] 0 [] 0) 0 ≡ 0
  -- convexity is not refused with 5 to 10
  pub no_not_refused : convex_refusal two_nodes D (maps [] 9 [] 9) 68 ≡ 0
  -- evaluation: 11 before 13, 13 before 14, and 14 for an operation that nothing needs
  pub room_first : eval_of four 7 ≡ 11
  pub unplaced_first : eval_of loop 28 ≡ 13
  pub unneeded : eval_of (single 1 15 [] (0 ∷ []) 0 1) 26 ≡ 14
  pub wrong_arity : eval_of (single 2 1 (0 ∷ []) (1 ∷ []) 1 1) 36 ≡ 14
  pub last_constant : evaluated (single 1 511 [] (0 ∷ []) 0 1) (boundary [] (0 ∷ [])) [] ≡ 255 ∷ []
  pub no_constant : eval_of (single 1 512 [] (0 ∷ []) 0 1) 26 ≡ 14
  pub first_shift : of 16 4294967295 ≡ 4294967295 ∷ []
  pub last_shift : of 31 4294967295 ≡ 131071 ∷ []
  pub no_shift : eval_of (single 2 32 (0 ∷ []) (1 ∷ []) 1 1) 36 ≡ 14
  -- the sum modulo 2^32, halved
  pub middle : evaluated (single 3 5 (0 ∷ 1 ∷ []) (2 ∷ []) 2 1) (boundary (0 ∷ 1 ∷ []) (2 ∷ [])) (4294967295 ∷ 3 ∷ []) ≡ 1 ∷ []
  pub first_of_smallest : evaluated (single 4 7 (0 ∷ 1 ∷ 2 ∷ []) (3 ∷ []) 3 1) (boundary (0 ∷ 1 ∷ 2 ∷ []) (3 ∷ [])) (5 ∷ 4 ∷ 4 ∷ []) ≡ 1 ∷ []
  -- more input values than inputs, or fewer
  pub more_values : evaluated one_node (boundary (0 ∷ []) (0 ∷ [])) (1 ∷ 2 ∷ []) ≡ 1 ∷ []
  pub fewer_values : evaluated one_node (boundary (0 ∷ []) (0 ∷ [])) [] ≡ 0 ∷ []
  -- offsets and layers
  pub sound_offsets : layer_part (2 ∷ 0 ∷ 1 ∷ []) (0 ∷ 1 ∷ 3 ∷ 3 ∷ []) 1 ≡ 0 ∷ 1 ∷ []
  pub unknown_layer : layer_part (2 ∷ 0 ∷ 1 ∷ []) (0 ∷ 1 ∷ 3 ∷ 3 ∷ []) 3 ≡ []
  pub bad_offsets : layer_part (2 ∷ 0 ∷ 1 ∷ []) (0 ∷ 2 ∷ 1 ∷ 3 ∷ []) 0 ≡ []
  pub short_offsets : layer_part (2 ∷ 0 ∷ 1 ∷ []) (0 ∷ 1 ∷ 3 ∷ []) 0 ≡ []

pub traps : Traps
unfolding any all those all_below same_list part ends longest_below mark order converse op_next layer_of starts rising sound layer_part operation place_of store_all run_layer run evaluated drawing_refusal maps_refusal boundary_refusal acyclic_refusal validate_refusal natural_refusal monomorphism_refusal convex_refusal eval_refusal
traps =
    record {
      long_lengths = refl;
      no_wrap = refl;
      lengths_first = refl;
      no_node = refl;
      limit = refl;
      over_limit = refl;
      targets_first = refl;
      source_first = refl;
      no_entry = refl;
      no_boundary = refl;
      count_of_w = refl;
      target_of_w = refl;
      target_of_x = refl;
      in_order = refl;
      with_counts = refl;
      room = refl;
      short_room = refl;
      no_room = refl;
      no_not_refused = refl;
      room_first = refl;
      unplaced_first = refl;
      unneeded = refl;
      wrong_arity = refl;
      last_constant = refl;
      no_constant = refl;
      first_shift = refl;
      last_shift = refl;
      no_shift = refl;
      middle = refl;
      first_of_smallest = refl;
      more_values = refl;
      fewer_values = refl;
      sound_offsets = refl;
      unknown_layer = refl;
      bad_offsets = refl;
      short_offsets = refl;
    }
