-- Refused with none of 1 to 4, 12: the rules of a valid drawing, valid maps and a valid boundary.
use Rattle.std.specs.Prelude.{ℕ, true, ◌&&◌, [], ◌∷◌, ◌↔◌, ◌≡◌, refl, length, leb, eqb}
use Rattle.std.proofs.Common.{arith, leb-true, le-leb, eqb-true, eq-eqb}
use Rattle.rules.specs.Lists.{sum, all_below}
use Rattle.rules.specs.Drawing.{Drawing, Accepted, Maps, AcceptedMaps, Boundary, AcceptedBoundary, most_items, most_values, node_count, op_count}
use Rattle.rules.specs.Maps.{nodes_of, ops_of}
use Rattle.rules.specs.Refusals.{unless, within, lengths_fit, values_below, bad_lengths, bad_value, maps_within, entries_below, bad_entry, boundary_within, boundary_below, bad_boundary}
use Rattle.rules.specs.Calls.{drawing_refusal, maps_refusal, boundary_refusal}
use Rattle.rules.proofs.Facts.Tests.{both, both_hold, all-four, four_hold, all_below-∈, ∈-all_below, first-none, none_first, unless-none, none-unless}

-- the three tests together
pub tests_accept : (d : Drawing) → within d ≡ true → lengths_fit d ≡ true → values_below d ≡ true → Accepted d
tests_accept d a b c =
    let p = all-four (leb (node_count d) most_items) (leb (op_count d) most_items) (leb (length d.source_values) most_values) (leb (length d.target_values) most_values) a in
    let q = all-four (eqb (length d.source_lengths) (op_count d)) (eqb (sum d.source_lengths) (length d.source_values)) (eqb (length d.target_lengths) (op_count d)) (eqb (sum d.target_lengths) (length d.target_values)) b in
    let r = both (all_below d.source_values (node_count d)) (all_below d.target_values (node_count d)) c in
    record {
      few_nodes = leb-true _ _ p.0;
      few_ops = leb-true _ _ p.1;
      sources = record { room = leb-true _ _ p.2; count = eqb-true _ _ q.0; total = eqb-true _ _ q.1; below = λ u m. all_below-∈ r.0 m };
      targets = record { room = leb-true _ _ p.3; count = eqb-true _ _ q.2; total = eqb-true _ _ q.3; below = λ u m. all_below-∈ r.1 m };
    }

module _ (d : Drawing) (a : Accepted d) where
  pub within_holds : within d ≡ true
  within_holds =
      four_hold (leb (node_count d) most_items) (leb (op_count d) most_items) (leb (length d.source_values) most_values) (leb (length d.target_values) most_values)
      (le-leb _ _ a.few_nodes) (le-leb _ _ a.few_ops) (le-leb _ _ a.sources.room) (le-leb _ _ a.targets.room)

  pub lengths_hold : lengths_fit d ≡ true
  lengths_hold =
      four_hold (eqb (length d.source_lengths) (op_count d)) (eqb (sum d.source_lengths) (length d.source_values)) (eqb (length d.target_lengths) (op_count d)) (eqb (sum d.target_lengths) (length d.target_values))
      (eq-eqb _ _ a.sources.count) (eq-eqb _ _ a.sources.total) (eq-eqb _ _ a.targets.count) (eq-eqb _ _ a.targets.total)

  pub values_hold : values_below d ≡ true
  values_hold =
      both_hold (all_below d.source_values (node_count d)) (all_below d.target_values (node_count d))
      (∈-all_below d.source_values (node_count d) a.sources.below) (∈-all_below d.target_values (node_count d) a.targets.below)

-- a drawing is refused with none of 1, 2, 3 exactly if it is valid
pub accepted_iff : (d : Drawing) → (drawing_refusal d ≡ 0) ↔ Accepted d
unfolding drawing_refusal
accepted_iff d = (
  λ e.
      let p = first-none (unless (within d) 1) (bad_lengths d ∷ bad_value d ∷ []) e in
      let q = first-none (bad_lengths d) (bad_value d ∷ []) p.1 in
      let r = first-none (bad_value d) [] q.1 in
      tests_accept d (unless-none (within d) 1 (omega arith) p.0) (unless-none (lengths_fit d) 2 (omega arith) q.0) (unless-none (values_below d) 3 (omega arith) r.0),
  λ a.
      none_first (unless (within d) 1) (bad_lengths d ∷ bad_value d ∷ []) (none-unless (within d) 1 (within_holds d a))
      (none_first (bad_lengths d) (bad_value d ∷ []) (none-unless (lengths_fit d) 2 (lengths_hold d a))
      (none_first (bad_value d) [] (none-unless (values_below d) 3 (values_hold d a)) refl)),
)

-- maps are refused with neither 1 nor 4 exactly if they are valid
pub maps_iff : (f : Maps) → (maps_refusal f ≡ 0) ↔ AcceptedMaps f
unfolding maps_refusal
maps_iff f = (
  λ e.
      let p = first-none (unless (maps_within f) 1) (bad_entry f ∷ []) e in
      let q = first-none (bad_entry f) [] p.1 in
      let a = all-four (leb f.w.target most_items) (leb (length (nodes_of f)) most_items) (leb f.x.target most_items) (leb (length (ops_of f)) most_items) (unless-none (maps_within f) 1 (omega arith) p.0) in
      let b = both (all_below (nodes_of f) f.w.target) (all_below (ops_of f) f.x.target) (unless-none (entries_below f) 4 (omega arith) q.0) in
      record {
        node_map = record { few_targets = leb-true _ _ a.0; few_entries = leb-true _ _ a.1; below = λ u m. all_below-∈ b.0 m };
        op_map = record { few_targets = leb-true _ _ a.2; few_entries = leb-true _ _ a.3; below = λ u m. all_below-∈ b.1 m };
      },
  λ a.
      none_first (unless (maps_within f) 1) (bad_entry f ∷ [])
      (none-unless (maps_within f) 1
      (four_hold (leb f.w.target most_items) (leb (length (nodes_of f)) most_items) (leb f.x.target most_items) (leb (length (ops_of f)) most_items)
      (le-leb _ _ a.node_map.few_targets) (le-leb _ _ a.node_map.few_entries) (le-leb _ _ a.op_map.few_targets) (le-leb _ _ a.op_map.few_entries)))
      (none_first (bad_entry f) []
      (none-unless (entries_below f) 4
      (both_hold (all_below (nodes_of f) f.w.target) (all_below (ops_of f) f.x.target)
      (∈-all_below (nodes_of f) f.w.target a.node_map.below) (∈-all_below (ops_of f) f.x.target a.op_map.below))) refl),
)

-- the two tests of a boundary together
pub tests_bound : (n : ℕ) (b : Boundary) → boundary_within b ≡ true → boundary_below n b ≡ true → AcceptedBoundary n b
tests_bound n b p q =
    let a = both (leb (length b.inputs) most_items) (leb (length b.outputs) most_items) p in
    let c = both (all_below b.inputs n) (all_below b.outputs n) q in
    record { few_inputs = leb-true _ _ a.0; few_outputs = leb-true _ _ a.1; inputs_below = λ u m. all_below-∈ c.0 m; outputs_below = λ u m. all_below-∈ c.1 m }

-- a boundary and its drawing are refused with none of 1, 2, 3, 12 exactly if they are valid
pub boundary_iff : (d : Drawing) (b : Boundary) → (boundary_refusal d b ≡ 0) ↔ (Accepted d × AcceptedBoundary (node_count d) b)
unfolding boundary_refusal
boundary_iff d b = (
  λ e.
      let p = first-none (unless (within d && boundary_within b) 1) (bad_lengths d ∷ bad_value d ∷ bad_boundary d b ∷ []) e in
      let q = first-none (bad_lengths d) (bad_value d ∷ bad_boundary d b ∷ []) p.1 in
      let r = first-none (bad_value d) (bad_boundary d b ∷ []) q.1 in
      let s = first-none (bad_boundary d b) [] r.1 in
      let w = both (within d) (boundary_within b) (unless-none (within d && boundary_within b) 1 (omega arith) p.0) in (
        tests_accept d w.0 (unless-none (lengths_fit d) 2 (omega arith) q.0) (unless-none (values_below d) 3 (omega arith) r.0),
        tests_bound (node_count d) b w.1 (unless-none (boundary_below (node_count d) b) 12 (omega arith) s.0),
      ),
  λ a.
      none_first (unless (within d && boundary_within b) 1) (bad_lengths d ∷ bad_value d ∷ bad_boundary d b ∷ [])
      (none-unless (within d && boundary_within b) 1
      (both_hold (within d) (boundary_within b) (within_holds d a.0)
      (both_hold (leb (length b.inputs) most_items) (leb (length b.outputs) most_items) (le-leb _ _ a.1.few_inputs) (le-leb _ _ a.1.few_outputs))))
      (none_first (bad_lengths d) (bad_value d ∷ bad_boundary d b ∷ []) (none-unless (lengths_fit d) 2 (lengths_hold d a.0))
      (none_first (bad_value d) (bad_boundary d b ∷ []) (none-unless (values_below d) 3 (values_hold d a.0))
      (none_first (bad_boundary d b) []
      (none-unless (boundary_below (node_count d) b) 12
      (both_hold (all_below b.inputs (node_count d)) (all_below b.outputs (node_count d))
      (∈-all_below b.inputs (node_count d) a.1.inputs_below) (∈-all_below b.outputs (node_count d) a.1.outputs_below))) refl))),
)
