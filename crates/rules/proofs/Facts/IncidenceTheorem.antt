-- The incidence theorem: a node lies on a directed cycle of a drawing exactly if some item lies on a cycle of its incidence graph.
use Rattle.std.specs.Prelude.{ℕ, suc, ◌+◌, ◌-◌, ◌<◌, List, map, ◌⊎◌, ◌↔◌, ◌≡◌}
use Rattle.std.proofs.Math.Logic.{inl, inr}
use Rattle.std.proofs.Math.Path.{refl, subst}
use native.Mathlib.Omega.{arith}
use Rattle.std.proofs.Math.Decide.{dec_lt}
use Rattle.std.proofs.Common.{lt-ltb, le-ltb}
use Rattle.rules.specs.Analysis.{Step, Acyclic, leaving}
use Rattle.rules.specs.Drawing.{Drawing, Accepted, sources_of, targets_of, node_count, op_count}
use Rattle.rules.specs.Graph.{Route, one, more, Chain, stay, step, OnOrBehindCycle}
use Rattle.rules.specs.Lists.{◌∈◌}
use Rattle.rules.specs.Inner.Incidence.{incidence, items}
use Rattle.rules.proofs.Facts.Adjacent.{converse_i, converse_e}
use Rattle.rules.proofs.Facts.Chains.{snoc}
use Rattle.rules.proofs.Facts.Member.{∈-part, part_inside, ∈-map, ∈-map_inv}

module _ (d : Drawing) (a : Accepted d) where
  abbrev n : ℕ
  n = node_count d

  abbrev inc : ℕ → List ℕ
  inc = incidence d

  -- the rows of nodes and of operations
  node_row : (u : ℕ) → u < n → incidence d u ≡ map (λ e. n + e) (leaving d u)
  unfolding incidence
  node_row u h = rw (lt-ltb u n h)

  op_row : (e : ℕ) → incidence d (n + e) ≡ targets_of d e
  unfolding incidence
  op_row e = let q : n + e - n ≡ e = omega arith in rw (le-ltb (n + e) n (omega arith), q)

  source_low : (u e : ℕ) → u ∈ sources_of d e → u < n
  source_low u e m = a.sources.below u (∈-part d.source_lengths d.source_values e m)

  pub target_low : (v e : ℕ) → v ∈ targets_of d e → v < n
  target_low v e m = a.targets.below v (∈-part d.target_lengths d.target_values e m)

  -- what a row says of the drawing, and back
  pub node_step : (u e : ℕ) → u ∈ sources_of d e → (n + e) ∈ inc u
  node_step u e m = rw (node_row u (source_low u e m)) (∈-map (λ e. n + e) (converse_i d.source_lengths d.source_values u e m))

  pub op_step : (v e : ℕ) → v ∈ targets_of d e → v ∈ inc (n + e)
  op_step v e m = rw (op_row e) m

  pub from_node : (i j : ℕ) → i < n → j ∈ inc i → (e : ℕ) × (i ∈ sources_of d e) × (j ≡ n + e)
  from_node i j low m =
      let p = ∈-map_inv (λ e. n + e) (leaving d i) (rw (node_row i low) at m) in
      (p.0, converse_e d.source_lengths d.source_values i p.0 p.1, p.2)

  pub from_op : (i e j : ℕ) → i ≡ n + e → j ∈ inc i → j ∈ targets_of d e
  from_op i e j q m = rw (op_row e) at (rw q at m)

  -- a step of the drawing is two steps here
  two : {u e v : ℕ} {k w : ℕ} → Step d u e v → Chain inc k v w → Chain inc (suc (suc k)) u w
  two {u} {e} {v} s c = step (node_step u e s.source) (step (op_step v e s.target) c)

  route_chain : {u v : ℕ} → Route (Step d) u v → (k : ℕ) × Chain inc (suc k) u v
  route_chain (one s) = (1, two s stay)
  route_chain (more s r) = let p = route_chain r in (suc (suc p.0), two s p.1)

  -- from a node: nowhere, or along a path; from an operation: to a target of it, and then so
  pub Onto : ℕ → ℕ → Type 0
  Onto y v = (y ≡ v) ⊎ Route (Step d) y v

  after : {u e y v : ℕ} → Step d u e y → Onto y v → Route (Step d) u v
  unfolding Onto
  after {u} {e} s (inl q) = subst (λ z. Route (Step d) u z) q (one s)
  after s (inr r) = more s r

  chain_route : {k i v : ℕ} → Chain inc k i v → v < n → (i < n → Onto i v) × ((e : ℕ) → i ≡ n + e → (y : ℕ) × (y ∈ targets_of d e) × Onto y v)
  unfolding Onto
  chain_route stay h = (λ _. inl refl, λ e q. absurd (omega arith))
  chain_route (step {u = i} {v = j} m c) h =
      let ih = chain_route c h in (
        λ low. let (e, src, q) = from_node i j low m in let p = ih.1 e q in inr (after (record { source = src; target = p.1 }) p.2),
        λ e q. let t = from_op i e j q m in (j, t, ih.0 (target_low j e t)),
      )

  -- a cycle through a node is a path from it to itself
  node_cycle : {k u : ℕ} → Chain inc (suc k) u u → u < n → Route (Step d) u u
  node_cycle (step {u = u} {v = j} m c) h =
      let (e, src, q) = from_node u j h m in
      let p = (chain_route c h).1 e q in
      after (record { source = src; target = p.1 }) p.2

  -- and one through an operation goes through a target of it
  pub any_cycle : {k i : ℕ} → Chain inc (suc k) i i → (u : ℕ) × Route (Step d) u u
  any_cycle {k} {i} c = go (dec_lt i n) c
    where
      turned : Chain inc (suc k) i i → ¬ (i < n) → (u : ℕ) × Route (Step d) u u
      turned (step {v = j} m c) h =
          let q : i ≡ n + (i - n) = omega arith in
          (j, node_cycle (snoc c m) (target_low j (i - n) (from_op i (i - n) j q m)))

      go : Dec (i < n) → Chain inc (suc k) i i → (u : ℕ) × Route (Step d) u u
      go (yes h) c = (i, node_cycle c h)
      go (no h) c = turned c h

  -- only an item leads somewhere
  pub inc_tails : (u j : ℕ) → j ∈ inc u → u < items d
  inc_tails u j m = go (dec_lt u n)
    where
      go : Dec (u < n) → u < items d
      go (yes h) = omega arith
      go (no h) =
          let q : u ≡ n + (u - n) = omega arith in
          omega (arith, part_inside d.target_lengths d.target_values (u - n) (from_op u (u - n) j q m), a.targets.count)

  pub incidence_theorem : Acyclic d ↔ ((v : ℕ) → ¬ OnOrBehindCycle inc v)
  incidence_theorem = (
    λ none v o. let p = any_cycle o.cycle in none p.0 p.1,
    λ none u r. let p = route_chain r in none u (record { item = u; round = p.0; cycle = p.1; away = 0; leads = stay }),
  )

  -- a cycle through a node goes through an operation
  pub op_on_cycle : {u : ℕ} → Route (Step d) u u → (e : ℕ) × (e < op_count d) × OnOrBehindCycle inc (n + e)
  op_on_cycle {u} r = let p = route_chain r in go p.1 (from_source r)
    where
      from_source : {v : ℕ} → Route (Step d) u v → u < n
      from_source (one {e = e} s) = source_low u e s.source
      from_source (more {e = e} s q) = source_low u e s.source

      go : {k : ℕ} → Chain inc (suc k) u u → u < n → (e : ℕ) × (e < op_count d) × OnOrBehindCycle inc (n + e)
      go {k} (step {v = j} m c) low =
          let (e, src, q) = from_node u j low m in (
            e,
            omega (arith, part_inside d.source_lengths d.source_values e src, a.sources.count),
            record { item = n + e; round = k; cycle = subst (λ z. Chain inc (suc k) z z) q (snoc c m); away = 0; leads = stay },
          )
