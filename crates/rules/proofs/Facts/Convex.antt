-- Convexity in the words of the literature is the same.
use Rattle.std.specs.Prelude.{ℕ, ◌<◌, ◌≡◌, ◌⊎◌, ◌↔◌, List, map}
use Rattle.std.proofs.Common.{arith, subst, inl, inr}
use mathlib.Core.List.Memᴰ
use Rattle.rules.specs.Analysis.{Step}
use Rattle.rules.specs.Drawing.{Drawing, Accepted, sources_of, targets_of, node_count, op_count, Maps}
use Rattle.rules.specs.Graph.{Route, one, more, first, links}
use Rattle.rules.specs.Lists.{◌∈◌, at}
use Rattle.rules.specs.Maps.{Natural, Convex, Road, nodes_of, ConvexLiterature, ops_of, Between}
use Rattle.rules.proofs.Facts.Member.{dec∈, get_or-∈, ∈-get_or, ∈-map_inv, ∈-part}
use Rattle.rules.proofs.Facts.Routes.{first-∈}

-- what a selected operation touches is selected
pub record Closed (d : Drawing) (w x : List ℕ) : Type 0 where
  pub source : (u e : ℕ) → e ∈ x → u ∈ sources_of d e → u ∈ w
  pub target : (v e : ℕ) → e ∈ x → v ∈ targets_of d e → v ∈ w

pub closed : {c d : Drawing} {f : Maps} → Accepted c → Natural c d f → Closed d (nodes_of f) (ops_of f)
closed {c} {d} {f} a n = record {
  source = λ u e. side (sources_of d) (sources_of c) n.sources (λ i j m. a.sources.below j (∈-part _ _ i m)) u e;
  target = λ u e. side (targets_of d) (targets_of c) n.targets (λ i j m. a.targets.below j (∈-part _ _ i m)) u e;
}
  where
    w : List ℕ
    w = nodes_of f

    x : List ℕ
    x = ops_of f

    side : (D C : ℕ → List ℕ) → ((e : ℕ) → e < op_count c → D (at x e) ≡ map (λ u. at w u) (C e)) → ((e u : ℕ) → u ∈ C e → u < node_count c)
        → (u e : ℕ) → e ∈ x → u ∈ D e → u ∈ w
    side D C same below u e m k =
        let p = ∈-get_or m in
        let i : ℕ = p.place in
        let k' : u ∈ map (λ v. at w v) (C i) = subst (λ l. u ∈ l) (same i (omega (arith, p.inside, n.x_count))) (rw p.there k) in
        let q = ∈-map_inv (λ v. at w v) (C i) k' in
        Memᴰ.cast q.2 (get_or-∈ w q.0 (omega (arith, below i q.0 q.1, n.w_count)))

sure : {A : Type 0} → Dec A → ¬ (¬ A) → A
sure (yes a) h = a
sure (no n) h = absurd (h n)

module _ (d : Drawing) (w x : List ℕ) (h : Closed d w x) (c : ¬ Road d w x) where
  first_selected : {u v : ℕ} (r : Route (Step d) u v) → u ∈ w → v ∈ w → first r ∈ x
  first_selected {u} {v} r su sv = sure (dec∈ (first r) x) (λ n. c (record { leave = u; enter = v; route = r; leaves = su; enters = sv; begins = n }))

  all_selected : {u v : ℕ} (r : Route (Step d) u v) → u ∈ w → v ∈ w → (e : ℕ) → e ∈ links r → e ∈ x
  all_selected (one s) su sv e m = Memᴰ.cast (Memᴰ.eq_of_singleton m) (first_selected (one s) su sv)
  all_selected (more {e = f} {v = z} s r) su sv e m =
      let sf : f ∈ x = first_selected (more s r) su sv in
      go (all_selected r (h.target z f sf s.target) sv e) sf (Memᴰ.cases_cons m)
    where
      go : (e ∈ links r → e ∈ x) → f ∈ x → (e ≡ f) ⊎ (e ∈ links r) → e ∈ x
      go below sf (inl q) = Memᴰ.cast q sf
      go below sf (inr k) = below k

-- for natural maps there is no road exactly if every operation on every path between selected nodes is selected
pub no_road_between : {c d : Drawing} {f : Maps} → Accepted c → Natural c d f → (¬ Road d (nodes_of f) (ops_of f)) ↔ Between d (nodes_of f) (ops_of f)
no_road_between {c} {d} {f} a n = (
  λ none u v r. all_selected d (nodes_of f) (ops_of f) (closed a n) none r,
  λ lit road. road.begins (lit road.leave road.enter road.route road.leaves road.enters (first road.route) (first-∈ road.route)),
)

-- THE TWO DEFINITIONS OF CONVEX AGREE
pub same_convex : {c d : Drawing} {f : Maps} → Accepted c → Convex c d f ↔ ConvexLiterature c d f
same_convex a = (
  λ h. record { natural = h.natural; injective = h.injective; between = (no_road_between a h.natural).0 h.no_road },
  λ h. record { natural = h.natural; injective = h.injective; no_road = (no_road_between a h.natural).1 h.between },
)
