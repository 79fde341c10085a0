-- Tests that compute, each with a proof that it decides its rule: reached, acyclic, no road, no entry twice, convex.
use Rattle.std.specs.Prelude.{ℕ, zero, suc, ◌<◌, Bool, true, false, ◌||◌, ◌&&◌, not, ◌≡◌, refl, ◌⊎◌, ◌↔◌, T, eqb}
use Rattle.std.proofs.Common.{arith, sym, ap, inl, inr, eqb→eq}
use mathlib.Core.List.Memᴰ
use mathlib.Core.List.{List, [], ◌∷◌}
use Rattle.std.proofs.Math.Dec.{eqb_refl, T_not, not_T}
use Rattle.rules.specs.Analysis.{Step, Acyclic}
use Rattle.rules.specs.Drawing.{Drawing, Accepted, sources_of, targets_of, node_count, op_count, Maps}
use Rattle.rules.specs.Fold.{outside}
use Rattle.rules.specs.Graph.{Route, one, more, first}
use Rattle.rules.specs.Lists.{◌∈◌, has, any}
use Rattle.rules.specs.Maps.{Road, Monomorphism, Convex, Injective, nodes_of, ops_of}
use Rattle.rules.proofs.Facts.Bools.{or_cases, or_l, or_r, and_i, and_e}
use Rattle.rules.proofs.Facts.Member.{∈-part, part_inside, any_e, any_i, has_i, has_e, ∈-get_or, get_or-∈}
use Rattle.rules.proofs.Facts.Outside.{outside-∈, ∈-outside}
use Rattle.rules.proofs.Facts.Reach.{reach, reach_iff}
use Rattle.rules.specs.Calls.{drawing_refusal, natural_refusal}
use Rattle.rules.proofs.Facts.Accepts.{accepted_iff}
use Rattle.rules.proofs.Facts.Naturality.{natural_iff}

abbrev pub hop : Drawing → ℕ → ℕ → Bool
hop d u v = any (λ e. has (sources_of d e) u && has (targets_of d e) v) (outside [] (op_count d))

unfoldable pub reach_b : Drawing → ℕ → ℕ → Bool
reach_b d u v = reach (hop d) (node_count d) u v

unfoldable pub acyclic_b : Drawing → Bool
acyclic_b d = not (any (λ u. reach_b d u u) (outside [] (node_count d)))

-- an unselected operation leaves a selected node, and a path from a target of it comes back
abbrev pub back : Drawing → List ℕ → ℕ → Bool
back d w z = any (λ v. eqb z v || reach_b d z v) w

unfoldable pub no_road_b : Drawing → List ℕ → List ℕ → Bool
no_road_b d w x = not (any (λ e. any (has w) (sources_of d e) && any (back d w) (targets_of d e)) (outside x (op_count d)))

module _ {d : Drawing} (a : Accepted d) where
  op_inside : {u e v : ℕ} → Step d u e v → e < op_count d
  op_inside {e = e} s = omega (arith, part_inside _ _ e s.source, a.sources.count)

  hop→route : (u v : ℕ) → T (hop d u v) → Route (Step d) u v
  hop→route u v t =
      let q = any_e (λ e. has (sources_of d e) u && has (targets_of d e) v) (outside [] (op_count d)) t in
      let e : ℕ = q.0 in
      let p = and_e (has (sources_of d e) u) (has (targets_of d e) v) q.2 in
      one {e = e} (record { source = has_e (sources_of d e) u p.0; target = has_e (targets_of d e) v p.1 })

  step→hop : (u e v : ℕ) → Step d u e v → T (hop d u v) × (v < node_count d)
  step→hop u e v s = (
    any_i _ _ e (outside-∈ [] (op_count d) e (op_inside s) Memᴰ.not-nil) (and_i (has (sources_of d e) u) (has (targets_of d e) v) (has_i s.source) (has_i s.target)),
    a.targets.below v (∈-part _ _ e s.target),
  )

  pub reach_route : (u v : ℕ) → T (reach_b d u v) ↔ Route (Step d) u v
  unfolding reach_b
  reach_route = reach_iff (hop d) (node_count d) hop→route step→hop

  starts : {u v : ℕ} → Route (Step d) u v → u < node_count d
  starts {u} (one {e = e} s) = a.sources.below u (∈-part _ _ e s.source)
  starts {u} (more {e = e} s r) = a.sources.below u (∈-part _ _ e s.source)

  pub acyclic_iff : T (acyclic_b d) ↔ Acyclic d
  unfolding acyclic_b
  acyclic_iff = (
    λ t u r. T_not (any (λ u. reach_b d u u) (outside [] (node_count d))) t
        (any_i (λ u. reach_b d u u) (outside [] (node_count d)) u (outside-∈ [] (node_count d) u (starts r) Memᴰ.not-nil) ((reach_route u u).1 r)),
    λ h. not_T (any (λ u. reach_b d u u) (outside [] (node_count d))) (λ t. let q = any_e (λ u. reach_b d u u) (outside [] (node_count d)) t in h q.0 ((reach_route q.0 q.0).0 q.2)),
  )

  -- a path from z that may have no operation
  back_i : (w : List ℕ) (z v : ℕ) → v ∈ w → (z ≡ v) ⊎ Route (Step d) z v → T (back d w z)
  back_i w z v m (inl e) = any_i (λ v. eqb z v || reach_b d z v) w v m (or_l (eqb z v) (reach_b d z v) (rw e (eqb_refl v)))
  back_i w z v m (inr r) = any_i (λ v. eqb z v || reach_b d z v) w v m (or_r (eqb z v) (reach_b d z v) ((reach_route z v).1 r))

  back_e : (w : List ℕ) (z : ℕ) → T (back d w z) → (v : ℕ) × (v ∈ w) × ((z ≡ v) ⊎ Route (Step d) z v)
  back_e w z t =
      let q = any_e (λ v. eqb z v || reach_b d z v) w t in
      (q.0, q.1, go q.0 (or_cases (eqb z q.0) (reach_b d z q.0) q.2))
    where
      go : (v : ℕ) → T (eqb z v) ⊎ T (reach_b d z v) → (z ≡ v) ⊎ Route (Step d) z v
      go v (inl e) = inl (eqb→eq z v e)
      go v (inr t) = inr ((reach_route z v).0 t)

  module _ (w x : List ℕ) where
    abbrev out : ℕ → Bool
    out e = any (has w) (sources_of d e) && any (back d w) (targets_of d e)

    out_i : (u e z v : ℕ) → Step d u e z → u ∈ w → v ∈ w → ¬ (e ∈ x) → (z ≡ v) ⊎ Route (Step d) z v → T (any out (outside x (op_count d)))
    out_i u e z v s su sv ne r =
        any_i out (outside x (op_count d)) e (outside-∈ x (op_count d) e (op_inside s) ne)
        (and_i (any (has w) (sources_of d e)) (any (back d w) (targets_of d e)) (any_i (has w) (sources_of d e) u s.source (has_i su)) (any_i (back d w) (targets_of d e) z s.target (back_i w z v sv r)))

    no-road : {u v : ℕ} (r : Route (Step d) u v) → u ∈ w → v ∈ w → ¬ (first r ∈ x) → T (any out (outside x (op_count d)))
    no-road {u} {v} (one {e = e} s) su sv n = out_i u e v v s su sv n (inl refl)
    no-road {u} {v} (more {e = e} {v = z} s r) su sv n = out_i u e z v s su sv n (inr r)

    -- the test fails only on a road out and back
    road : T (any out (outside x (op_count d))) → Road d w x
    road t =
        let q = any_e out (outside x (op_count d)) t in
        let e : ℕ = q.0 in
        let p = and_e (any (has w) (sources_of d e)) (any (back d w) (targets_of d e)) q.2 in
        let s = any_e (has w) (sources_of d e) p.0 in
        let y = any_e (back d w) (targets_of d e) p.1 in
        let b = back_e w y.0 y.2 in
        go b.0 (record { source = s.1; target = y.1 }) (has_e w s.0 s.2) b.1 (∈-outside x (op_count d) e q.1).1 b.2
      where
        go : {e u z : ℕ} (v : ℕ) → Step d u e z → u ∈ w → v ∈ w → ¬ (e ∈ x) → (z ≡ v) ⊎ Route (Step d) z v → Road d w x
        go {u = u} {z} v s su sv n (inl q) = record { leave = u; enter = z; route = one s; leaves = su; enters = rw q sv; begins = n }
        go {u = u} {z} v s su sv n (inr r) = record { leave = u; enter = v; route = more s r; leaves = su; enters = sv; begins = n }

    pub no_road_iff : T (no_road_b d w x) ↔ (¬ Road d w x)
    unfolding no_road_b
    no_road_iff = (
      λ t q. T_not (any out (outside x (op_count d))) t (no-road q.route q.leaves q.enters q.begins),
      λ c. not_T (any out (outside x (op_count d))) (λ t. c (road t)),
    )

-- no entry twice
unfoldable pub distinct : List ℕ → Bool
distinct [] = true
distinct (a ∷ l) = not (has l a) && distinct l

distinct_e : (l : List ℕ) → T (distinct l) → Injective l
unfolding distinct
distinct_e [] t i j hi hj e = absurd (omega arith)
distinct_e (a ∷ l) t zero zero hi hj e = refl
distinct_e (a ∷ l) t zero (suc j) hi hj e =
    let p = and_e (not (has l a)) (distinct l) t in
    absurd (T_not (has l a) p.0 (has_i (Memᴰ.cast e (get_or-∈ l j (omega arith)))))
distinct_e (a ∷ l) t (suc i) zero hi hj e =
    let p = and_e (not (has l a)) (distinct l) t in
    absurd (T_not (has l a) p.0 (has_i (Memᴰ.cast (sym e) (get_or-∈ l i (omega arith)))))
distinct_e (a ∷ l) t (suc i) (suc j) hi hj e = ap suc (distinct_e l (and_e (not (has l a)) (distinct l) t).1 i j (omega arith) (omega arith) e)

distinct_i : (l : List ℕ) → Injective l → T (distinct l)
unfolding distinct
distinct_i [] h = tt
distinct_i (a ∷ l) h =
    and_i (not (has l a)) (distinct l)
    (not_T (has l a) (λ t. let p = ∈-get_or (has_e l a t) in omega (arith, h 0 (suc p.place) (omega arith) (omega (arith, p.inside)) (sym p.there))))
    (distinct_i l (λ i j hi hj e. let q = h (suc i) (suc j) (omega arith) (omega arith) e in omega arith))

pub injective_iff : (l : List ℕ) → T (distinct l) ↔ Injective l
injective_iff l = (distinct_e l, distinct_i l)

-- convex
unfoldable pub convex_b : Drawing → Drawing → Maps → Bool
convex_b c d f = eqb (natural_refusal c d f) 0 && (distinct (nodes_of f) && (distinct (ops_of f) && no_road_b d (nodes_of f) (ops_of f)))

pub convex_iff : (c d : Drawing) (f : Maps) → Accepted d → T (convex_b c d f) ↔ Convex c d f
unfolding convex_b
convex_iff c d f a = (
  λ t.
      let p = and_e (eqb (natural_refusal c d f) 0) (distinct (nodes_of f) && (distinct (ops_of f) && no_road_b d (nodes_of f) (ops_of f))) t in
      let q = and_e (distinct (nodes_of f)) (distinct (ops_of f) && no_road_b d (nodes_of f) (ops_of f)) p.1 in
      let r = and_e (distinct (ops_of f)) (no_road_b d (nodes_of f) (ops_of f)) q.1 in
      record {
        natural = (natural_iff c d f).0 (eqb→eq (natural_refusal c d f) 0 p.0);
        injective = record { nodes = distinct_e (nodes_of f) q.0; ops = distinct_e (ops_of f) r.0 };
        no_road = (no_road_iff a (nodes_of f) (ops_of f)).0 r.1;
      },
  λ h.
      and_i (eqb (natural_refusal c d f) 0) (distinct (nodes_of f) && (distinct (ops_of f) && no_road_b d (nodes_of f) (ops_of f)))
      (rw ((natural_iff c d f).1 h.natural) tt)
      (and_i (distinct (nodes_of f)) (distinct (ops_of f) && no_road_b d (nodes_of f) (ops_of f)) (distinct_i (nodes_of f) h.injective.nodes)
      (and_i (distinct (ops_of f)) (no_road_b d (nodes_of f) (ops_of f)) (distinct_i (ops_of f) h.injective.ops)
      ((no_road_iff a (nodes_of f) (ops_of f)).1 h.no_road))),
)

-- for drawings written out: that they are accepted by refl, and the test by tt
pub is-convex : (c d : Drawing) (f : Maps) → drawing_refusal d ≡ 0 → T (convex_b c d f) → Convex c d f
is-convex c d f a t = (convex_iff c d f ((accepted_iff d).0 a)).0 t

pub not_convex : (c d : Drawing) (f : Maps) → drawing_refusal d ≡ 0 → T (not (convex_b c d f)) → ¬ Convex c d f
not_convex c d f a t h = T_not (convex_b c d f) t ((convex_iff c d f ((accepted_iff d).0 a)).1 h)

pub is-acyclic : (d : Drawing) → drawing_refusal d ≡ 0 → T (acyclic_b d) → Acyclic d
is-acyclic d a t = (acyclic_iff ((accepted_iff d).0 a)).0 t

-- a group that is natural and injective, and has a road
pub is-injective : (f : Maps) → T (distinct (nodes_of f)) → T (distinct (ops_of f)) → Monomorphism f
is-injective f p q = record { nodes = distinct_e (nodes_of f) p; ops = distinct_e (ops_of f) q }

pub is_road : (d : Drawing) (w x : List ℕ) → drawing_refusal d ≡ 0 → T (not (no_road_b d w x)) → Road d w x
unfolding no_road_b
is_road d w x a t = road ((accepted_iff d).0 a) w x (T-again (any (out ((accepted_iff d).0 a) w x) (outside x (op_count d))) t)
  where
    T-again : (b : Bool) → T (not (not b)) → T b
    T-again true t = tt
    T-again false t = t
