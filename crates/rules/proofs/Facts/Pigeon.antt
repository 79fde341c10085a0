-- Items that all have a predecessor among them are on a cycle or behind one.
use Prim.Native.Nat.{ℕ, zero, suc, ◌+◌, ◌-◌, ◌≤◌, ◌<◌}
use Rattle.std.proofs.Common.{arith, add-zero, add-suc, suc-add, ap, ◌∙◌, inl, inr}
use Rattle.std.proofs.Math.Nat.{zero-add}
use Rattle.std.proofs.Math.Decide.{ℕ_discrete}
use Rattle.std.specs.Prelude.{◌≡◌, ◌⊎◌, ◌≢◌, List}
use Rattle.std.proofs.Math.Path.{sym, subst}
use Rattle.rules.specs.Graph.{Chain, stay, step, OnOrBehindCycle}
use Rattle.rules.specs.Lists.{◌∈◌}

-- the values f 0 .. f (k - 1): one of them is y, or none is
find : (f : ℕ → ℕ) (y k : ℕ) → ((i : ℕ) × (i < k) × (f i ≡ y)) ⊎ ((i : ℕ) → i < k → f i ≢ y)
find f y zero = inr (λ i h. absurd (omega arith))
find f y (suc k) = go (ℕ_discrete (f k) y) (find f y k)
  where
    at_k : f k ≢ y → ((i : ℕ) → i < k → f i ≢ y) → (i : ℕ) → i < suc k → Dec (i ≡ k) → f i ≢ y
    at_k n below i h (yes e) = rw e n
    at_k n below i h (no m) = below i (omega arith)

    go : Dec (f k ≡ y) → ((i : ℕ) × (i < k) × (f i ≡ y)) ⊎ ((i : ℕ) → i < k → f i ≢ y) → ((i : ℕ) × (i < suc k) × (f i ≡ y)) ⊎ ((i : ℕ) → i < suc k → f i ≢ y)
    go (yes e) r = inl (k, omega arith, e)
    go (no n) (inl r) = inl (r.0, omega (arith, r.1), r.2)
    go (no n) (inr r) = inr (λ i h. at_k n r i h (ℕ_discrete i k))

pub record Repeat (f : ℕ → ℕ) (k : ℕ) : Type 0 where
  pub low : ℕ
  pub high : ℕ
  pub before : low < high
  pub within : high ≤ k
  pub same : f low ≡ f high

-- y in the place of k
swap : (k y v : ℕ) → Dec (v ≡ k) → ℕ
swap k y v (yes e) = y
swap k y v (no n) = v

swap_below : (k y v : ℕ) (d : Dec (v ≡ k)) → v < suc k → y < suc k → (v ≡ k → y ≢ k) → swap k y v d < k
unfolding swap
swap_below k y v (yes e) hv hy ne = omega (arith, ne e)
swap_below k y v (no n) hv hy ne = omega arith

swap_same : (k y a b : ℕ) (p : Dec (a ≡ k)) (q : Dec (b ≡ k)) → a ≢ y → b ≢ y → swap k y a p ≡ swap k y b q → a ≡ b
unfolding swap
swap_same k y a b (yes p) (yes q) na nb e = omega arith
swap_same k y a b (yes p) (no q) na nb e = absurd (omega arith)
swap_same k y a b (no p) (yes q) na nb e = absurd (omega arith)
swap_same k y a b (no p) (no q) na nb e = e

-- k + 1 values below k: one comes twice
pub pigeon : (k : ℕ) (f : ℕ → ℕ) → ((i : ℕ) → i ≤ k → f i < k) → Repeat f k
pigeon zero f below = absurd (omega (arith, below 0 (omega arith)))
pigeon (suc k) f below = go (pigeon k) (find f y (suc k))
  where
    y : ℕ
    y = f (suc k)

    g : ℕ → ℕ
    g i = swap k y (f i) (ℕ_discrete (f i) k)

    go : ((h : ℕ → ℕ) → ((i : ℕ) → i ≤ k → h i < k) → Repeat h k) → ((i : ℕ) × (i < suc k) × (f i ≡ y)) ⊎ ((i : ℕ) → i < suc k → f i ≢ y) → Repeat f (suc k)
    go ih (inl r) = record { low = r.0; high = suc k; before = r.1; within = omega arith; same = r.2 }
    go ih (inr none) =
        let r : Repeat g k = ih g (λ i h. swap_below k y (f i) (ℕ_discrete (f i) k) (below i (omega arith)) (below (suc k) (omega arith)) (λ e ey. none i (omega arith) (e ∙ sym ey))) in
        record {
          low = r.low;
          high = r.high;
          before = r.before;
          within = omega (arith, r.within);
          same = swap_same k y (f r.low) (f r.high) (ℕ_discrete (f r.low) k) (ℕ_discrete (f r.high) k)
              (none r.low (omega (arith, r.before, r.within))) (none r.high (omega (arith, r.within))) r.same;
        }

-- a walk backwards: item i + 1 leads to item i
walk : (next : ℕ → List ℕ) (f : ℕ → ℕ) → ((i : ℕ) → f i ∈ next (f (suc i))) → (i k : ℕ) → Chain next k (f (i + k)) (f i)
walk next f back i zero = rw add-zero stay
walk next f back i (suc k) = rw add-suc (step (back (i + k)) (walk next f back i k))

-- where every item of a set has a predecessor in the set, every item of the set is on a cycle or behind one
module _ (next : ℕ → List ℕ) (size : ℕ) (In : ℕ → Type 0) (below : (v : ℕ) → In v → v < size)
    (back : (v : ℕ) → In v → (u : ℕ) × In u × (v ∈ next u)) where
  earlier : (v : ℕ) → In v → ℕ → (u : ℕ) × In u
  earlier v h zero = (v, h)
  earlier v h (suc i) = let p = earlier v h i in let q = back p.0 p.1 in (q.0, q.1)

  earlier_leads : (v : ℕ) (h : In v) (i : ℕ) → (earlier v h i).0 ∈ next (earlier v h (suc i)).0
  unfolding earlier
  earlier_leads v h i = (back (earlier v h i).0 (earlier v h i).1).2

  pub endless : (v : ℕ) → In v → OnOrBehindCycle next v
  unfolding earlier
  endless v h =
      let f : ℕ → ℕ = λ i. (earlier v h i).0 in
      let r : Repeat f size = pigeon size f (λ i _. below (f i) (earlier v h i).1) in
      let a : ℕ = r.low in
      let k : ℕ = r.high - suc a in
      let e : a + suc k ≡ r.high = omega (arith, r.before) in
      record {
        item = f a;
        round = k;
        away = a;
        cycle = subst (λ z. Chain next (suc k) z (f a)) (ap f e ∙ sym r.same) (walk next f (earlier_leads v h) a (suc k));
        leads = rw zero-add at (walk next f (earlier_leads v h) 0 a);
      }

-- the item that a chain stands on after i steps
pub node_at : {next : ℕ → List ℕ} {k u v : ℕ} → Chain next k u v → ℕ → ℕ
node_at (stay {u = u}) i = u
node_at (step {u = u} m c) zero = u
node_at (step m c) (suc i) = node_at c i

upto : {next : ℕ → List ℕ} {k u v : ℕ} (c : Chain next k u v) (j : ℕ) → j ≤ k → Chain next j u (node_at c j)
unfolding node_at
upto stay zero h = stay
upto stay (suc j) h = absurd (omega arith)
upto (step m c) zero h = stay
upto (step m c) (suc j) h = step m (upto c j (omega arith))

recount : {next : ℕ → List ℕ} {j k u v : ℕ} → j ≡ k → Chain next j u v → Chain next k u v
recount {next} {j} {k} {u} {v} e c = subst (λ z. Chain next z u v) e c

-- the rest of a chain
pub from : {next : ℕ → List ℕ} {k u v : ℕ} (c : Chain next k u v) (i j : ℕ) → i + j ≡ k → Chain next j (node_at c i) v
unfolding node_at
from stay zero j h = recount (omega arith) stay
from stay (suc i) j h = absurd (omega arith)
from (step m c) zero j h = recount (omega arith) (step m c)
from (step m c) (suc i) j h = from c i j (omega arith)

between : {next : ℕ → List ℕ} {k u v : ℕ} (c : Chain next k u v) (i j : ℕ) → i + j ≤ k → Chain next j (node_at c i) (node_at c (i + j))
unfolding node_at
between stay zero j h = upto stay j (omega arith)
between (step m c) zero j h = rw zero-add (upto (step m c) j (omega arith))
between stay (suc i) j h = absurd (omega arith)
between (step m c) (suc i) j h = rw suc-add (between c i j (omega arith))

module _ (next : ℕ → List ℕ) (size : ℕ) (tails : (u v : ℕ) → v ∈ next u → u < size) where
  inside : {k u v : ℕ} (c : Chain next k u v) → v < size → (i : ℕ) → node_at c i < size
  unfolding node_at
  inside stay h i = h
  inside (step m c) h zero = tails _ _ m
  inside (step m c) h (suc i) = inside c h i

  -- a chain of as many steps as there are items comes from a cycle
  pub long : {k u v : ℕ} → v < size → size ≤ k → Chain next k u v → OnOrBehindCycle next v
  long {k} {u} {v} hv hk c =
      let r : Repeat (node_at c) size = pigeon size (node_at c) (λ i _. inside c hv i) in
      let a : ℕ = r.low in
      let n : ℕ = r.high - suc a in
      let e : a + suc n ≡ r.high = omega (arith, r.before) in
      record {
        item = node_at c a;
        round = n;
        away = k - a;
        cycle = subst (λ z. Chain next (suc n) (node_at c a) z) (ap (node_at c) e ∙ sym r.same) (between c a (suc n) (omega (arith, r.within, r.before)));
        leads = from c a (k - a) (omega (arith, r.within, r.before));
      }
