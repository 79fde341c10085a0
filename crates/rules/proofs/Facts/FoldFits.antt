-- The folded drawing is a drawing.
use Rattle.std.specs.Prelude.{ℕ, zero, suc, ◌+◌, ◌≤◌, ◌<◌, Bool, true, false, cond, ◌≡◌, refl, List, [], ◌∷◌, ◌++◌, map, length, get_or, take}
use Rattle.std.proofs.Common.{arith, ap, subst, length-append, length-take}
use Rattle.std.proofs.Math.Decide.{ℕ_discrete}
use mathlib.Core.List.Memᴰ
use Rattle.std.proofs.Math.ListN.{length-map}
use Rattle.rules.specs.Drawing.{Drawing, Accepted, Fits, part, node_count, op_count, Maps, AcceptedMaps}
use Rattle.rules.specs.Fold.{outside, rename, fold}
use Rattle.rules.specs.Lists.{◌∈◌, sum, has, concat}
use Rattle.rules.proofs.Facts.FoldDraw.{rename_in, rename_out}
use Rattle.rules.proofs.Facts.Member.{dec∈, ∈-map_inv, ∈-part, has_yes, concat_e}
use Rattle.rules.proofs.Facts.Outside.{outside-≤, length-outside}
use Rattle.rules.specs.Maps.{Natural, nodes_of, ops_of}

at_most_one : (b : Bool) (k : ℕ) → length (cond b [] (k ∷ [])) ≤ 1
at_most_one true k = omega arith
at_most_one false k = omega arith

outside_len : (w : List ℕ) (k : ℕ) → length (outside w k) ≤ k
outside_len w zero = omega arith
outside_len w (suc k) = simp length-append (omega (arith, outside_len w k, at_most_one (has w k) k))

outside_short : (w : List ℕ) (k a : ℕ) → a ∈ w → a < k → length (outside w k) < k
outside_short w zero a m h = absurd (omega arith)
outside_short w (suc k) a m h = go (outside_short w k a m) (ℕ_discrete a k)
  where
    go : (a < k → length (outside w k) < k) → Dec (a ≡ k) → length (outside w (suc k)) < suc k
    go ih (yes e) = rw (has_yes (subst (λ z. z ∈ w) e m)) (simp length-append (omega (arith, outside_len w k)))
    go ih (no n) = simp length-append (omega (arith, ih (omega arith), at_most_one (has w k) k))

-- the nodes that are left, and the one that is new
left : (w : List ℕ) (n : ℕ) → ((u : ℕ) → u ∈ w → u < n) → length (outside w n) + length (take 1 w) ≤ n
left [] n h = omega (arith, outside_len [] n)
left (a ∷ l) n h = omega (arith, outside_short (a ∷ l) n a (Memᴰ.head refl) (h a (Memᴰ.head refl)))

new_below : (w : List ℕ) (n u : ℕ) → u < n → rename w n u < length (outside w n) + length (take 1 w)
new_below w n u h = go w refl (dec∈ u w)
  where
    go : (w' : List ℕ) → w ≡ w' → Dec (u ∈ w) → rename w n u < length (outside w n) + length (take 1 w)
    go w' e (no m) = rw (rename_out w n u m) (omega (arith, length-outside w u m, outside-≤ w (suc u) n h))
    go [] e (yes m) = absurd (Memᴰ.not-nil (subst (λ z. u ∈ z) e m))
    go (a ∷ l) e (yes m) = rw (rename_in w n u m, ap (λ z. length (take 1 z)) e) (omega arith)

sum-take : (l : List ℕ) (k : ℕ) → sum (take (suc k) l) ≡ sum (take k l) + get_or l k 0
sum-take [] zero = omega arith
sum-take [] (suc k) = omega arith
sum-take (a ∷ l) zero = omega arith
sum-take (a ∷ l) (suc k) = omega (arith, sum-take l k)

sum-map-append : (g : ℕ → ℕ) (s t : List ℕ) → sum (map g (s ++ t)) ≡ sum (map g s) + sum (map g t)
sum-map-append g [] t = omega arith
sum-map-append g (a ∷ s) t = omega (arith, sum-map-append g s t)

one_more : (b : Bool) (g : ℕ → ℕ) (k : ℕ) → sum (map g (cond b [] (k ∷ []))) ≤ g k
one_more true g k = omega arith
one_more false g k = omega arith

part_len : (lens vals : List ℕ) (e : ℕ) → length (part lens vals e) ≤ get_or lens e 0
unfolding part
part_len lens vals e = simp length-take (omega arith)

sum_kept : (x lens vals : List ℕ) (k : ℕ) → sum (map (λ e. length (part lens vals e)) (outside x k)) ≤ sum (take k lens)
sum_kept x lens vals zero = omega arith
sum_kept x lens vals (suc k) =
    let g : ℕ → ℕ = λ e. length (part lens vals e) in
    rw (sum-map-append g (outside x k) (cond (has x k) [] (k ∷ [])), sum-take lens k)
    (omega (arith, sum_kept x lens vals k, one_more (has x k) g k, part_len lens vals k))

sum-take-≤ : (l : List ℕ) (k : ℕ) → sum (take k l) ≤ sum l
sum-take-≤ l zero = omega arith
sum-take-≤ [] (suc k) = omega arith
sum-take-≤ (a ∷ l) (suc k) = omega (arith, sum-take-≤ l k)

length-concat : (f : ℕ → List ℕ) (r : ℕ → ℕ) (ks : List ℕ) → sum (map (λ e. length (f e)) ks) ≡ length (concat (map (λ e. map r (f e)) ks))
length-concat f r [] = refl
length-concat f r (k ∷ ks) = rw (length-append (map r (f k)) (concat (map (λ e. map r (f e)) ks)), length-map (f k) r, length-concat f r ks)

module _ (d : Drawing) (w x : List ℕ) (a : Accepted d) (w_below : (u : ℕ) → u ∈ w → u < node_count d) where
  side : (lens vals : List ℕ) → Fits (node_count d) (op_count d) lens vals
      → Fits (length (outside w (node_count d)) + length (take 1 w)) (length (outside x (op_count d)))
      (map (λ e. length (part lens vals e)) (outside x (op_count d)))
      (concat (map (λ e. map (rename w (node_count d)) (part lens vals e)) (outside x (op_count d))))
  side lens vals f =
      let t = length-concat (part lens vals) (rename w (node_count d)) (outside x (op_count d)) in
      record {
        room = omega (arith, t, sum_kept x lens vals (op_count d), sum-take-≤ lens (op_count d), f.total, f.room);
        count = simp length-map;
        total = t;
        below = λ u m.
            let p = concat_e (λ e. map (rename w (node_count d)) (part lens vals e)) (outside x (op_count d)) m in
            let q = ∈-map_inv (rename w (node_count d)) (part lens vals p.0) p.2 in
            rw q.2 (new_below w (node_count d) q.0 (f.below q.0 (∈-part lens vals p.0 q.1)));
      }

  -- the folded drawing is a drawing
  pub fold_accepted : Accepted (fold d w x)
  unfolding fold
  fold_accepted = record {
    few_nodes = simp (length-map, length-append) (omega (arith, left w (node_count d) w_below, a.few_nodes));
    few_ops = simp length-map (omega (arith, outside_len x (op_count d), a.few_ops));
    sources = simp (length-map, length-append) (side d.source_lengths d.source_values a.sources);
    targets = simp (length-map, length-append) (side d.target_lengths d.target_values a.targets);
  }

-- THE FOLDED DRAWING IS ACCEPTED
pub fold_fits : {c d : Drawing} {f : Maps} → Accepted d → AcceptedMaps f → Natural c d f → Accepted (fold d (nodes_of f) (ops_of f))
fold_fits {c} {d} {f} a m n = fold_accepted d (nodes_of f) (ops_of f) a (λ u k. omega (arith, m.node_map.below u k, n.w_target))
