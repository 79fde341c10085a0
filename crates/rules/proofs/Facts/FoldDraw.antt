-- The fold theorem: convex exactly when the folded drawing has no cycle.
use Rattle.std.specs.Prelude.{ℕ, zero, suc, ◌+◌, ◌<◌, ◌≡◌, refl, ◌↔◌, List, [], ◌∷◌, ◌++◌, map, length, get_or, drop}
use Rattle.std.proofs.Common.{arith, sym, ◌∙◌, take_at}
use Rattle.std.proofs.Math.Decide.{dec_lt}
use mathlib.Core.List.Memᴰ
use Rattle.std.proofs.lemmas.List.{length-map}
use Rattle.std.proofs.Math.Seq.{drop-append-add}
use Rattle.rules.specs.Analysis.{Step, Acyclic}
use Rattle.rules.specs.Drawing.{Drawing, Accepted, part, sources_of, targets_of, node_count, op_count, Maps}
use Rattle.rules.specs.Fold.{outside, new_node, rename, fold}
use Rattle.rules.specs.Lists.{◌∈◌, concat}
use Rattle.rules.specs.Maps.{Natural, Convex, Monomorphism, Road, nodes_of, ops_of}
use Rattle.rules.proofs.Facts.Convex.{Closed, closed}
use Rattle.rules.proofs.Facts.FoldRel.{Folding, fold_iff}
use Rattle.rules.proofs.Facts.Member.{dec∈, get_or-∈, ∈-get_or, ∈-map, ∈-map_inv, ∈-part, has_yes, has_no, part_inside}
use Rattle.rules.proofs.Facts.Outside.{outside-∈, ∈-outside, length-outside, outside-≤}

pub rename_in : (w : List ℕ) (n u : ℕ) → u ∈ w → rename w n u ≡ new_node w n
rename_in w n u m = rw has_yes

pub rename_out : (w : List ℕ) (n u : ℕ) → ¬ (u ∈ w) → rename w n u ≡ length (outside w u)
rename_out w n u m = rw has_no

drop_past : (a n : ℕ) (p q : List ℕ) → length p ≡ a → drop (a + n) (p ++ q) ≡ drop n q
drop_past a n p q e = rw (← e) (drop-append-add p q n)

part-concat : (f : ℕ → List ℕ) (r : ℕ → ℕ) (ks : List ℕ) (j : ℕ)
    → part (map (λ e. length (f e)) ks) (concat (map (λ e. map r (f e)) ks)) j ≡ get_or (map (λ e. map r (f e)) ks) j []
unfolding part
part-concat f r [] j = refl
part-concat f r (k ∷ ks) zero = take_at (map r (f k)) (concat (map (λ e. map r (f e)) ks)) (length (f k)) (length-map (f k) r)
part-concat f r (k ∷ ks) (suc j) = rw (drop_past (length (f k)) _ (map r (f k)) _ (length-map (f k) r)) (part-concat f r ks j)

kept-∈ : (g : ℕ → List ℕ) (ks : List ℕ) (j : ℕ) {a : ℕ} → a ∈ get_or (map g ks) j [] → (j < length ks) × (a ∈ g (get_or ks j 0))
kept-∈ g [] j m = absurd (Memᴰ.not-nil m)
kept-∈ g (k ∷ ks) zero m = (omega arith, m)
kept-∈ g (k ∷ ks) (suc j) m = let p = kept-∈ g ks j m in (omega (arith, p.0), p.1)

∈-kept : (g : ℕ → List ℕ) (ks : List ℕ) (j : ℕ) {a : ℕ} → j < length ks → a ∈ g (get_or ks j 0) → a ∈ get_or (map g ks) j []
∈-kept g [] j h m = absurd (omega arith)
∈-kept g (k ∷ ks) zero h m = m
∈-kept g (k ∷ ks) (suc j) h m = ∈-kept g ks j (omega arith) m

-- the two lists of a folded operation
folded_sources : (d : Drawing) (w x : List ℕ) (j : ℕ)
    → sources_of (fold d w x) j ≡ get_or (map (λ e. map (rename w (node_count d)) (sources_of d e)) (outside x (op_count d))) j []
unfolding fold
folded_sources d w x j = part-concat (sources_of d) (rename w (node_count d)) (outside x (op_count d)) j

folded_targets : (d : Drawing) (w x : List ℕ) (j : ℕ)
    → targets_of (fold d w x) j ≡ get_or (map (λ e. map (rename w (node_count d)) (targets_of d e)) (outside x (op_count d))) j []
unfolding fold
folded_targets d w x j = part-concat (targets_of d) (rename w (node_count d)) (outside x (op_count d)) j

module _ {d : Drawing} {w x : List ℕ} (a : Accepted d) (c : Closed d w x) where
  apart : (u v : ℕ) → u < node_count d → v < node_count d → ¬ (u ∈ w) → rename w (node_count d) u ≡ rename w (node_count d) v → u ≡ v
  apart u v hu hv nu e = go (dec∈ v w)
    where
      low : length (outside w (suc u)) ≡ suc (length (outside w u))
      low = length-outside w u nu

      eu : rename w (node_count d) u ≡ length (outside w u)
      eu = rename_out w (node_count d) u nu

      order : length (outside w u) ≡ length (outside w v) → length (outside w (suc v)) ≡ suc (length (outside w v)) → Dec (u < v) → Dec (v < u) → u ≡ v
      order e' hi (yes l) r = absurd (omega (arith, outside-≤ w (suc u) v l, low))
      order e' hi (no l) (yes r) = absurd (omega (arith, outside-≤ w (suc v) u r))
      order e' hi (no l) (no r) = omega arith

      go : Dec (v ∈ w) → u ≡ v
      go (yes sv) = absurd (omega (arith, e, eu, rename_in w (node_count d) v sv, low, outside-≤ w (suc u) (node_count d) hu))
      go (no nv) = order (sym eu ∙ e ∙ rename_out w (node_count d) v nv) (length-outside w v nv) (dec_lt u v) (dec_lt v u)

  down : (u e v : ℕ) → Step d u e v → ¬ (e ∈ x) → (j : ℕ) × Step (fold d w x) (rename w (node_count d) u) j (rename w (node_count d) v)
  down u e v s ne =
      let k : List ℕ = outside x (op_count d) in
      let p = ∈-get_or (outside-∈ x (op_count d) e (omega (arith, part_inside _ _ e s.source, a.sources.count)) ne) in
      let j : ℕ = p.place in (
        j,
        record {
          source = rw folded_sources (∈-kept _ k j p.inside (rw p.there (∈-map _ s.source)));
          target = rw folded_targets (∈-kept _ k j p.inside (rw p.there (∈-map _ s.target)));
        },
      )

  up : (α j β : ℕ) → Step (fold d w x) α j β
      → (u e v : ℕ) × Step d u e v × (¬ (e ∈ x)) × (rename w (node_count d) u ≡ α) × (rename w (node_count d) v ≡ β)
  up α j β s =
      let k : List ℕ = outside x (op_count d) in
      let e : ℕ = get_or k j 0 in
      let p = kept-∈ (λ e. map (rename w (node_count d)) (sources_of d e)) k j (rw folded_sources at s.source) in
      let r = kept-∈ (λ e. map (rename w (node_count d)) (targets_of d e)) k j (rw folded_targets at s.target) in
      let su = ∈-map_inv (rename w (node_count d)) (sources_of d e) p.1 in
      let tv = ∈-map_inv (rename w (node_count d)) (targets_of d e) r.1 in
      (su.0, e, tv.0, record { source = su.1; target = tv.1 }, (∈-outside x (op_count d) e (get_or-∈ k j p.0)).1, sym su.2, sym tv.2)

  folding : Folding (Step d) (Step (fold d w x)) (λ u. u < node_count d) (λ u. u ∈ w) (λ e. e ∈ x) (rename w (node_count d))
  folding = record {
    dec_s = λ u. dec∈ u w;
    dec_x = λ e. dec∈ e x;
    ends = λ u e v s. (a.sources.below u (∈-part _ _ e s.source), a.targets.below v (∈-part _ _ e s.target));
    closed = λ u e v k s. (c.source u e k s.source, c.target v e k s.target);
    together = λ u v su sv. rename_in w (node_count d) u su ∙ sym (rename_in w (node_count d) v sv);
    apart = apart;
    down = down;
    up = up;
  }

-- no road exactly if the folded drawing has no cycle: injectivity is not needed, and from right to left acyclicity is not
pub fold_road : {c d : Drawing} {f : Maps} → Accepted c → Accepted d → Natural c d f → Acyclic d
    → (¬ Road d (nodes_of f) (ops_of f)) ↔ Acyclic (fold d (nodes_of f) (ops_of f))
fold_road {c} {d} {f} ac ad nat acyclic =
    let t = fold_iff (folding ad (closed ac nat)) acyclic in (
      λ cv. t.0 (λ u v r su sv n. cv (record { leave = u; enter = v; route = r; leaves = su; enters = sv; begins = n })),
      λ f road. t.1 f road.leave road.enter road.route road.leaves road.enters road.begins,
    )

-- DEMAND 3, THE FOLD THEOREM: for natural, injective maps into a drawing without cycles, the group is convex exactly when the folded
-- drawing has no cycle.
pub fold_theorem : {c d : Drawing} {f : Maps} → Accepted c → Accepted d → Natural c d f → Monomorphism f → Acyclic d
    → Convex c d f ↔ Acyclic (fold d (nodes_of f) (ops_of f))
fold_theorem ac ad nat mono acyclic =
    let t = fold_road ac ad nat acyclic in
    (λ h. t.0 h.no_road, λ h. record { natural = nat; injective = mono; no_road = t.1 h })
