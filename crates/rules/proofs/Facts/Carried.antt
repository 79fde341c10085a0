-- Naturality as it is checked: what the checks of the lists may rely on, and the refusal at each return.
use Rattle.std.specs.Prelude.{ℕ, ◌<◌, ◌≤◌, Bool, true, false, ◌&&◌, List, map, ◌≡◌, length, eqb}
use Rattle.std.proofs.Common.{arith, sym, ◌∙◌, eqb-true}
use Rattle.rules.specs.Drawing.{Drawing, Maps, node_count, op_count, AcceptedMaps, Fits, most_items}
use Rattle.rules.specs.Maps.{ops_of, nodes_of}
use Rattle.rules.specs.Inner.Arrow.{Sized, carried_refusal, carried_list, Carrying}
use Rattle.rules.specs.Lists.{◌∈◌, all, same_list, at, range}
use Rattle.rules.specs.Calls.{natural_refusal}
use Rattle.rules.proofs.Facts.Tests.{both}

module _ (c d : Drawing) (f : Maps) where
  -- the tests of 5, 6, 7, 8
  abbrev pub type_w : Bool
  type_w = eqb (length (nodes_of f)) (node_count c) && eqb f.w.target (node_count d)

  abbrev pub type_x : Bool
  type_x = eqb (length (ops_of f)) (op_count c) && eqb f.x.target (op_count d)

  abbrev pub labels_w : Bool
  labels_w = same_list (map (at d.nodes) (nodes_of f)) c.nodes

  abbrev pub labels_x : Bool
  labels_x = same_list (map (at d.ops) (ops_of f)) c.ops

  -- of 9 and 10, as the loop finds them
  abbrev pub lists_s : Bool
  lists_s = all (carried_list (nodes_of f) (ops_of f) c.source_lengths c.source_values d.source_lengths d.source_values) (range (length (ops_of f)))

  abbrev pub lists_t : Bool
  lists_t = all (carried_list (nodes_of f) (ops_of f) c.target_lengths c.target_values d.target_lengths d.target_values) (range (length (ops_of f)))

  pub types_sized : type_w ≡ true → type_x ≡ true → Sized c d f
  types_sized p q =
      let w = both (eqb (length (nodes_of f)) (node_count c)) (eqb f.w.target (node_count d)) p in
      let x = both (eqb (length (ops_of f)) (op_count c)) (eqb f.x.target (op_count d)) q in
      record { w_count = eqb-true _ _ w.0; w_target = eqb-true _ _ w.1; x_count = eqb-true _ _ x.0; x_target = eqb-true _ _ x.1 }

  -- 5, 6, then the rest
  pub refused_w : type_w ≡ false → 5 ≡ natural_refusal c d f
  unfolding natural_refusal
  refused_w e = rw e

  pub refused_x : type_w ≡ true → type_x ≡ false → 6 ≡ natural_refusal c d f
  unfolding natural_refusal
  refused_x p e = rw (p, e)

  pub types_behind : type_w ≡ true → type_x ≡ true → natural_refusal c d f ≡ carried_refusal c d f
  unfolding natural_refusal carried_refusal
  types_behind p q = rw (p, q)

  -- 7, 8, 9, 10
  pub refused_labels_w : labels_w ≡ false → 7 ≡ carried_refusal c d f
  unfolding carried_refusal
  refused_labels_w e = rw e

  pub refused_labels_x : labels_w ≡ true → labels_x ≡ false → 8 ≡ carried_refusal c d f
  unfolding carried_refusal
  refused_labels_x p e = rw (p, e)

  module _ (s : Sized c d f) where
    pub refused_s : labels_w ≡ true → labels_x ≡ true → lists_s ≡ false → 9 ≡ carried_refusal c d f
    unfolding carried_refusal
    refused_s p q e = rw (p, q, ← s.x_count, e)

    pub refused_t : labels_w ≡ true → labels_x ≡ true → lists_s ≡ true → lists_t ≡ false → 10 ≡ carried_refusal c d f
    unfolding carried_refusal
    refused_t p q r e = rw (p, q, ← s.x_count, r, e)

    pub refused_none : labels_w ≡ true → labels_x ≡ true → lists_s ≡ true → lists_t ≡ true → 0 ≡ carried_refusal c d f
    unfolding carried_refusal
    refused_none p q r e = rw (p, q, ← s.x_count, r, e)

    -- what holds of valid drawings and maps that fit
    module _ (a : AcceptedMaps f) where
      pub nodes_below : (u : ℕ) → u ∈ nodes_of f → u < node_count d
      nodes_below u m = omega (arith, a.node_map.below u m, s.w_target)

      pub ops_below : (u : ℕ) → u ∈ ops_of f → u < op_count d
      ops_below u m = omega (arith, a.op_map.below u m, s.x_target)

      -- lists of one kind
      pub carrying : (cl cv dl dv : List ℕ) → Fits (node_count c) (op_count c) cl cv → Fits (node_count d) (op_count d) dl dv → op_count d ≤ most_items → Carrying (nodes_of f) (ops_of f) cl cv dl dv
      carrying cl cv dl dv p q few =
          record {
            lists = record { room = p.room; count = p.count ∙ sym s.x_count; total = p.total; below = λ u m. omega (arith, p.below u m, s.w_count) };
            images = λ u m. omega (arith, ops_below u m, q.count);
            few = omega (arith, q.count);
            total = q.total;
            room = q.room;
          }
