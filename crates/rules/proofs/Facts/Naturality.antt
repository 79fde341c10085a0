-- Refused with none of 5 to 10: natural.
use Rattle.std.specs.Prelude.{ℕ, ◌<◌, Bool, true, ◌&&◌, ◌↔◌, ◌≡◌, refl, length, eqb}
use Rattle.std.proofs.Common.{arith}
use mathlib.Core.List.{List, [], ◌∷◌, map}
use borrow.Author.Tests.{eqb-true, eq-eqb}
use Rattle.rules.specs.Lists.{at, same_list, all, range}
use Rattle.rules.specs.Drawing.{Drawing, Maps, node_count, op_count, sources_of, targets_of}
use Rattle.rules.specs.Maps.{nodes_of, ops_of, Natural}
use Rattle.rules.specs.Refusals.{type_mismatch_w, type_mismatch_x, not_natural_w, not_natural_x, not_natural_s, not_natural_t}
use Rattle.rules.specs.Calls.{natural_refusal}
use Rattle.rules.proofs.Facts.Tests.{both, both_hold, same_list_eq, eq_same_list, all-∈, ∈-all, first-none, none_first, unless-none, none-unless}
use Rattle.rules.proofs.Facts.Member.{range-∈, ∈-range}

-- 9 and 10, over either kind of list
module _ (c d : Drawing) (f : Maps) (list_of : Drawing → ℕ → List ℕ) where
  abbrev pub carried : ℕ → Bool
  carried e = same_list (list_of d (at (ops_of f) e)) (map (at (nodes_of f)) (list_of c e))

  lists_e : all carried (range (op_count c)) ≡ true → (e : ℕ) → e < op_count c → list_of d (at (ops_of f) e) ≡ map (at (nodes_of f)) (list_of c e)
  lists_e t e h = same_list_eq _ _ (all-∈ carried t (range-∈ (op_count c) e h))

  lists_i : ((e : ℕ) → e < op_count c → list_of d (at (ops_of f) e) ≡ map (at (nodes_of f)) (list_of c e)) → all carried (range (op_count c)) ≡ true
  lists_i h = ∈-all carried (range (op_count c)) (λ e m. eq_same_list _ _ (h e (∈-range (op_count c) e m)))

module _ (c d : Drawing) (f : Maps) where
  abbrev type-w : Bool
  type-w = eqb (length (nodes_of f)) (node_count c) && eqb f.w.target (node_count d)

  abbrev type-x : Bool
  type-x = eqb (length (ops_of f)) (op_count c) && eqb f.x.target (op_count d)

  natural_e : natural_refusal c d f ≡ 0 → Natural c d f
  unfolding natural_refusal
  natural_e e =
      let t5 = first-none (type_mismatch_w c d f) (type_mismatch_x c d f ∷ not_natural_w c d f ∷ not_natural_x c d f ∷ not_natural_s c d f ∷ not_natural_t c d f ∷ []) e in
      let t6 = first-none (type_mismatch_x c d f) (not_natural_w c d f ∷ not_natural_x c d f ∷ not_natural_s c d f ∷ not_natural_t c d f ∷ []) t5.1 in
      let t7 = first-none (not_natural_w c d f) (not_natural_x c d f ∷ not_natural_s c d f ∷ not_natural_t c d f ∷ []) t6.1 in
      let t8 = first-none (not_natural_x c d f) (not_natural_s c d f ∷ not_natural_t c d f ∷ []) t7.1 in
      let t9 = first-none (not_natural_s c d f) (not_natural_t c d f ∷ []) t8.1 in
      let t10 = first-none (not_natural_t c d f) [] t9.1 in
      let w = both (eqb (length (nodes_of f)) (node_count c)) (eqb f.w.target (node_count d)) (unless-none type-w 5 (omega arith) t5.0) in
      let x = both (eqb (length (ops_of f)) (op_count c)) (eqb f.x.target (op_count d)) (unless-none type-x 6 (omega arith) t6.0) in
      record {
        w_count = eqb-true _ _ w.0;
        w_target = eqb-true _ _ w.1;
        x_count = eqb-true _ _ x.0;
        x_target = eqb-true _ _ x.1;
        node_labels = same_list_eq _ _ (unless-none (same_list (map (at d.nodes) (nodes_of f)) c.nodes) 7 (omega arith) t7.0);
        op_labels = same_list_eq _ _ (unless-none (same_list (map (at d.ops) (ops_of f)) c.ops) 8 (omega arith) t8.0);
        sources = lists_e c d f sources_of (unless-none (all (carried c d f sources_of) (range (op_count c))) 9 (omega arith) t9.0);
        targets = lists_e c d f targets_of (unless-none (all (carried c d f targets_of) (range (op_count c))) 10 (omega arith) t10.0);
      }

  natural_i : Natural c d f → natural_refusal c d f ≡ 0
  unfolding natural_refusal
  natural_i n =
      none_first (type_mismatch_w c d f) (type_mismatch_x c d f ∷ not_natural_w c d f ∷ not_natural_x c d f ∷ not_natural_s c d f ∷ not_natural_t c d f ∷ [])
      (none-unless type-w 5 (both_hold (eqb (length (nodes_of f)) (node_count c)) (eqb f.w.target (node_count d)) (eq-eqb _ _ n.w_count) (eq-eqb _ _ n.w_target)))
      (none_first (type_mismatch_x c d f) (not_natural_w c d f ∷ not_natural_x c d f ∷ not_natural_s c d f ∷ not_natural_t c d f ∷ [])
      (none-unless type-x 6 (both_hold (eqb (length (ops_of f)) (op_count c)) (eqb f.x.target (op_count d)) (eq-eqb _ _ n.x_count) (eq-eqb _ _ n.x_target)))
      (none_first (not_natural_w c d f) (not_natural_x c d f ∷ not_natural_s c d f ∷ not_natural_t c d f ∷ [])
      (none-unless (same_list (map (at d.nodes) (nodes_of f)) c.nodes) 7 (eq_same_list _ _ n.node_labels))
      (none_first (not_natural_x c d f) (not_natural_s c d f ∷ not_natural_t c d f ∷ [])
      (none-unless (same_list (map (at d.ops) (ops_of f)) c.ops) 8 (eq_same_list _ _ n.op_labels))
      (none_first (not_natural_s c d f) (not_natural_t c d f ∷ []) (none-unless (all (carried c d f sources_of) (range (op_count c))) 9 (lists_i c d f sources_of n.sources))
      (none_first (not_natural_t c d f) [] (none-unless (all (carried c d f targets_of) (range (op_count c))) 10 (lists_i c d f targets_of n.targets)) refl)))))

  -- validation gives none of 5 to 10 exactly if the maps are natural
  pub natural_iff : (natural_refusal c d f ≡ 0) ↔ Natural c d f
  natural_iff = (natural_e, natural_i)
