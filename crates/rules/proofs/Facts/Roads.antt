-- A search that takes unselected operations first and then all of them reaches a selected node exactly if there is a road.
use Rattle.std.specs.Prelude.{ℕ, ◌+◌, ◌-◌, ◌<◌, Bool, true, cond, ◌≡◌, refl, ◌⊎◌, List, [], ◌∷◌}
use Rattle.std.proofs.Math.Bool.{false, not}
use Rattle.std.proofs.Common.{sym, ◌∙◌, inl, inr}
use mathlib.Core.List.Memᴰ
use native.Mathlib.Omega.{arith}
use Rattle.std.proofs.Math.Decide.{dec_lt}
use Rattle.rules.specs.Lists.{◌∈◌, those, has}
use Rattle.rules.specs.Drawing.{Drawing, Accepted, node_count, sources_of, targets_of}
use Rattle.rules.specs.Graph.{more, Route, first, one}
use Rattle.rules.specs.Inner.Selected.{unselected}
use Rattle.rules.specs.Analysis.{Step}
use Rattle.rules.specs.Inner.IncidenceTable.{Incident}
use Rattle.rules.specs.Inner.Table.{successors}
use Rattle.rules.specs.Maps.{Road}
use Rattle.rules.specs.Inner.Search.{Reached, on, from}
use Rattle.rules.specs.Inner.Incidence.{items, incidence}
use Rattle.rules.proofs.Facts.Routes.{join, join_first}
use Rattle.rules.proofs.Facts.IncidenceTheorem.{node_step, from_node, from_op, op_step, target_low}
use Rattle.rules.proofs.Facts.Member.{has_no, part_inside, ∈-part, has_yes}
use Rattle.rules.proofs.Facts.Tables.{tails}
use Rattle.rules.proofs.Facts.Tests.{not_both}

-- the entries of which a test holds
pub those_i : (p : ℕ → Bool) {u : ℕ} {l : List ℕ} → u ∈ l → p u ≡ true → u ∈ those p l
unfolding those
those_i p {u = u} (Memᴰ.head {x = a} {xs = r} e) h = rw (← e, h) (Memᴰ.head refl)
those_i p {u = u} (Memᴰ.tail {x = a} {xs = r} m) h = go (p a) (those_i p m h)
  where
    go : (b : Bool) → u ∈ those p r → u ∈ cond b (a ∷ those p r) (those p r)
    go true k = Memᴰ.tail k
    go false k = k

pub those_e : (p : ℕ → Bool) (l : List ℕ) {u : ℕ} → u ∈ those p l → (u ∈ l) × (p u ≡ true)
unfolding those
those_e p [] m = absurd (Memᴰ.not-nil m)
those_e p (a ∷ l) {u} m = go (those_e p l {u = u}) (p a) refl m
  where
    later : (u ∈ those p l → (u ∈ l) × (p u ≡ true)) → p a ≡ true → (u ≡ a) ⊎ (u ∈ those p l) → (u ∈ (a ∷ l)) × (p u ≡ true)
    later ih h (inl e) = (Memᴰ.head e, rw e h)
    later ih h (inr k) = let q = ih k in (Memᴰ.tail q.0, q.1)

    go : (u ∈ those p l → (u ∈ l) × (p u ≡ true)) → (b : Bool) → p a ≡ b → u ∈ cond b (a ∷ those p l) (those p l) → (u ∈ (a ∷ l)) × (p u ≡ true)
    go ih true h k = later ih h (Memᴰ.cases_cons k)
    go ih false h k = let q = ih k in (Memᴰ.tail q.0, q.1)

module _ (d : Drawing) (x : List ℕ) (a : Accepted d) where
  unselected_i : (u e : ℕ) → u ∈ sources_of d e → ¬ (e ∈ x) → (node_count d + e) ∈ unselected d x u
  unfolding unselected
  unselected_i u e m none =
      let q : node_count d + e - node_count d ≡ e = omega arith in
      those_i (λ i. not (has x (i - node_count d))) (node_step d a u e m) (rw (q, has_no x e none))

  unselected_e : (u j : ℕ) → u < node_count d → j ∈ unselected d x u → (e : ℕ) × (u ∈ sources_of d e) × (j ≡ node_count d + e) × (¬ (e ∈ x))
  unfolding unselected
  unselected_e u j low m =
      let p = those_e (λ i. not (has x (i - node_count d))) (incidence d u) m in
      let (e, s, q) = from_node d a u j low p.0 in
      let z : j - node_count d ≡ e = omega arith in
      (e, s, q, λ k. let f : not (has x (j - node_count d)) ≡ false = rw (z, has_yes k) in not_both (sym f ∙ p.1))

-- a path from a node of w to v that begins with an unselected operation
pub record RoadTo (d : Drawing) (w x : List ℕ) (v : ℕ) : Type 0 where
  pub leave : ℕ
  pub route : Route (Step d) leave v
  pub leaves : leave ∈ w
  pub begins : ¬ (first route ∈ x)

-- one step more
longer : {d : Drawing} {w x : List ℕ} {y e v : ℕ} → RoadTo d w x y → Step d y e v → RoadTo d w x v
longer r s = record { leave = r.leave; route = join r.route (one s); leaves = r.leaves; begins = λ k. r.begins (rw (join_first r.route (one s)) at k) }

-- a search of the full table t and the unselected table u
pub record Ways (d : Drawing) (w x t u : List ℕ) : Type 0 where
  pub accepted : Accepted d
  pub low : (v : ℕ) → v ∈ w → v < node_count d
  pub full : Incident d t
  pub rows : (v : ℕ) → v < node_count d → successors (node_count d) u v ≡ unselected d x v

module _ {d : Drawing} {w x t u : List ℕ} (f : Ways d w x t u) where
  a : Accepted d
  a = f.accepted

  abbrev n : ℕ
  n = node_count d

  abbrev next : ℕ → List ℕ
  next = successors (items d) t

  abbrev out : ℕ → List ℕ
  out = successors n u

  op_low : (e : ℕ) {v : ℕ} → v ∈ targets_of d e → n + e < items d
  op_low e m = omega (arith, part_inside d.target_lengths d.target_values e m, a.targets.count)

  next_e : (y j : ℕ) → j ∈ next y → j ∈ incidence d y
  next_e y j m = rw (f.full.rows y (tails (items d) t y j m)) at m

  next_i : (y j : ℕ) → y < items d → j ∈ incidence d y → j ∈ next y
  next_i y j h m = rw (f.full.rows y h) m

  -- a step of the drawing is two of the search
  step_on : {y e v : ℕ} → Reached next out w y → Step d y e v → Reached next out w v
  step_on {y} {e} {v} r s =
      let h : n + e < items d = op_low e s.target in
      on (on r (next_i y (n + e) (omega (arith, a.sources.below y (∈-part d.source_lengths d.source_values e s.source))) (node_step d a y e s.source))) (next_i (n + e) v h (op_step d a v e s.target))

  step_out : {y e v : ℕ} → y ∈ w → ¬ (e ∈ x) → Step d y e v → Reached next out w v
  step_out {y} {e} {v} m none s =
      on (from {j = n + e} m (rw (f.rows y (f.low y m)) (unselected_i d x a y e s.source none))) (next_i (n + e) v (op_low e s.target) (op_step d a v e s.target))

  route_on : {y v : ℕ} → Reached next out w y → Route (Step d) y v → Reached next out w v
  route_on r (one s) = step_on r s
  route_on r (more s p) = route_on (step_on r s) p

  route_out : {y v : ℕ} → y ∈ w → (r : Route (Step d) y v) → ¬ (first r ∈ x) → Reached next out w v
  route_out m (one s) none = step_out m none s
  route_out m (more s p) none = route_on (step_out m none s) p

  pub road_reached : (r : Road d w x) → Reached next out w r.enter
  road_reached r = route_out r.leaves r.route r.begins

  -- a node that is reached has a path to it, and so have the targets of an operation that is reached
  trail : {j : ℕ} → Reached next out w j → (j < n → RoadTo d w x j) × ((e : ℕ) → j ≡ n + e → (v : ℕ) → v ∈ targets_of d e → RoadTo d w x v)
  trail (from {v} {j} m l) =
      let (g, src, q, none) = unselected_e d x a v j (f.low v m) (rw (f.rows v (f.low v m)) at l) in (
        λ h. absurd (omega arith),
        λ e z y k. let o : g ≡ e = omega arith in record { leave = v; route = one (record { source = rw o at src; target = k }); leaves = m; begins = rw o at none },
      )
  trail (on {u = y} {j = j} r l) = go (trail r) (dec_lt y n)
    where
      go : (y < n → RoadTo d w x y) × ((e : ℕ) → y ≡ n + e → (v : ℕ) → v ∈ targets_of d e → RoadTo d w x v) → Dec (y < n)
          → (j < n → RoadTo d w x j) × ((e : ℕ) → j ≡ n + e → (v : ℕ) → v ∈ targets_of d e → RoadTo d w x v)
      go ih (yes h) =
          let (g, src, q) = from_node d a y j h (next_e y j l) in (
            λ b. absurd (omega arith),
            λ e z v k. let o : g ≡ e = omega arith in longer (ih.0 h) (record { source = rw o at src; target = k }),
          )
      go ih (no h) =
          let q : y ≡ n + (y - n) = omega arith in
          let k : j ∈ targets_of d (y - n) = from_op d a y (y - n) j q (next_e y j l) in (
            λ b. ih.1 (y - n) q j k,
            λ e z v m. absurd (omega (arith, target_low d a j (y - n) k)),
          )

  pub reached_road : (v : ℕ) → v ∈ w → Reached next out w v → Road d w x
  reached_road v m r =
      let p = (trail r).0 (f.low v m) in
      record { leave = p.leave; enter = v; route = p.route; leaves = p.leaves; enters = m; begins = p.begins }
