-- What the adjacencies list, and that a cycle of paths is a cycle of node adjacency.
use Rattle.std.specs.Prelude.{ℕ, suc, ◌<◌, Bool, true, false, cond, ◌≡◌, refl, ◌⊎◌, ◌↔◌, List, [], ◌∷◌, length, eqb}
use Rattle.std.proofs.Common.{arith, sym, subst, inl, inr, eqb→eq}
use mathlib.Core.List.Memᴰ
use Rattle.std.proofs.Math.Dec.{eqb_refl}
use Rattle.rules.specs.Analysis.{converse, Step, Acyclic, copies, leaving, node_next, op_next}
use Rattle.rules.specs.Drawing.{part, Drawing, Accepted, sources_of, targets_of, op_count}
use Rattle.rules.specs.Graph.{Route, one, more, Chain, stay, step}
use Rattle.rules.specs.Lists.{◌∈◌, range}
use Rattle.rules.proofs.Facts.Bools.{is_true}
use Rattle.rules.proofs.Facts.Member.{concat_i, concat_e, range-∈, cond-∈, part_inside}

copies_i : (v e : ℕ) {l : List ℕ} → v ∈ l → e ∈ copies v e l
copies_i v e (Memᴰ.head q) = rw (← q, is_true (eqb v v) (eqb_refl v)) (Memᴰ.head refl)
copies_i v e (Memᴰ.tail {x = a} m) = cond-∈ (eqb a v) (copies_i v e m)

copies_e : (v e : ℕ) (l : List ℕ) {f : ℕ} → f ∈ copies v e l → (f ≡ e) × (v ∈ l)
copies_e v e [] m = absurd (Memᴰ.not-nil m)
copies_e v e (a ∷ l) {f} m = go (copies_e v e l {f = f}) (eqb a v) refl m
  where
    one_of : (f ∈ copies v e l → (f ≡ e) × (v ∈ l)) → (f ≡ e) ⊎ (f ∈ copies v e l) → f ≡ e
    one_of ih (inl p) = p
    one_of ih (inr k) = (ih k).0

    go : (f ∈ copies v e l → (f ≡ e) × (v ∈ l)) → (b : Bool) → eqb a v ≡ b → f ∈ cond b (e ∷ copies v e l) (copies v e l) → (f ≡ e) × (v ∈ (a ∷ l))
    go ih true q k = (one_of ih (Memᴰ.cases_cons k), Memᴰ.head (sym (eqb→eq a v (rw q tt))))
    go ih false q k = let p = ih k in (p.0, Memᴰ.tail p.1)

-- an operation is in a node's converse list exactly if it lists the node
pub converse_i : (lens vals : List ℕ) (u e : ℕ) → u ∈ part lens vals e → e ∈ converse lens vals u
unfolding converse
converse_i lens vals u e m = concat_i (λ e. copies u e (part lens vals e)) (range-∈ (length lens) e (part_inside lens vals e m)) (copies_i u e m)

pub converse_e : (lens vals : List ℕ) (u e : ℕ) → e ∈ converse lens vals u → u ∈ part lens vals e
unfolding converse
converse_e lens vals u e m =
    let p = concat_e (λ e. copies u e (part lens vals e)) (range (length lens)) m in
    let q = copies_e u p.0 (part lens vals p.0) p.2 in
    subst (λ z. u ∈ part lens vals z) (sym q.0) q.1

module _ {d : Drawing} (a : Accepted d) where
  pub node-next : (u v : ℕ) → (v ∈ node_next d u) ↔ ((e : ℕ) × Step d u e v)
  unfolding node_next
  node-next u v = (
    λ m. let p = concat_e (targets_of d) (leaving d u) m in (p.0, record { source = converse_e d.source_lengths d.source_values u p.0 p.1; target = p.2 }),
    λ p. concat_i (targets_of d) (converse_i d.source_lengths d.source_values u p.0 p.1.source) p.1.target,
  )

  pub op-next : (e f : ℕ) → (f ∈ op_next d e) ↔ ((v : ℕ) × (v ∈ targets_of d e) × (v ∈ sources_of d f))
  unfolding op_next
  op-next e f = (
    λ m. let p = concat_e (leaving d) (targets_of d e) m in (p.0, p.1, converse_e d.source_lengths d.source_values p.0 f p.2),
    λ p. concat_i (leaving d) p.1 (converse_i d.source_lengths d.source_values p.0 f p.2),
  )

  route→chain : {u v : ℕ} → Route (Step d) u v → (k : ℕ) × Chain (node_next d) (suc k) u v
  route→chain {u} {v} (one {e = e} s) = (0, step ((node-next u v).1 (e, s)) stay)
  route→chain {u} (more {e = e} {v = z} s r) = let p = route→chain r in (suc p.0, step ((node-next u z).1 (e, s)) p.1)

  after : {k u e v w : ℕ} → Step d u e v → Chain (node_next d) k v w → Route (Step d) u w
  after s stay = one s
  after s (step {u = y} {v = z} m c) = more s (after ((node-next y z).0 m).1 c)

  chain→route : {k u v : ℕ} → Chain (node_next d) (suc k) u v → Route (Step d) u v
  chain→route (step {u = y} {v = z} m c) = after ((node-next y z).0 m).1 c

  -- no path comes back exactly when no chain of adjacency does
  pub acyclic_chain : Acyclic d ↔ ((u k : ℕ) → ¬ Chain (node_next d) (suc k) u u)
  acyclic_chain = (λ h u k c. h u (chain→route c), λ h u r. let p = route→chain r in h u p.0 p.1)

  pub op_tails : (e f : ℕ) → f ∈ op_next d e → e < op_count d
  op_tails e f m = omega (arith, part_inside _ _ e ((op-next e f).0 m).1, a.targets.count)
