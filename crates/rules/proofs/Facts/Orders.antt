-- Orders and marks: computed ones are those of the rule, and each item has one.
use Prim.Native.Nat.{ℕ, zero, suc, ◌-◌, ◌≤◌, ◌<◌}
use Rattle.std.proofs.Common.{arith, sym, ◌∙◌, ext_get_or, T_not}
use Rattle.std.proofs.Math.Decide.{dec_le}
use Rattle.std.specs.Prelude.{Bool, ◌&&◌, not, cond, ◌≡◌, ◌↔◌, List}
use Rattle.std.proofs.Math.Bool.{true, false}
use Rattle.std.proofs.Math.Path.{refl}
use Rattle.std.proofs.lemmas.List.{length-map}
use Rattle.std.proofs.Math.Dec.{T}
use Rattle.rules.specs.Graph.{Chain, stay, step, Order, OnOrBehindCycle, ends, longest_below, Kahn, order, Sorted, mark, orders_of, marks_of, unplaced, placed}
use Rattle.rules.specs.Lists.{◌∈◌, has, range}
use Rattle.rules.proofs.Facts.Bools.{and_i, and_e}
use Rattle.rules.proofs.Facts.Member.{any_i, any_e, has_i, has_e, range-∈, range_length, map_range}
use Rattle.rules.proofs.Facts.Pigeon.{from, node_at, long}
use Rattle.rules.proofs.Facts.Chains.{last, app, snoc}
use Rattle.rules.specs.Drawing.{Drawing, Accepted, op_count}
use Rattle.rules.specs.Analysis.{op_next, orders, marks}
use Rattle.rules.proofs.Facts.Adjacent.{op_tails}

module _ (next : ℕ → List ℕ) (size : ℕ) (tails : (u v : ℕ) → v ∈ next u → u < size) where
  ends_e : (k v : ℕ) → T (ends next size k v) → (u : ℕ) × Chain next k u v
  unfolding ends
  ends_e zero v t = (v, stay)
  ends_e (suc k) v t =
      let p = any_e (λ u. has (next u) v && ends next size k u) (range size) t in
      let q = and_e (has (next p.0) v) (ends next size k p.0) p.2 in
      let r = ends_e k p.0 q.1 in
      (r.0, snoc r.1 (has_e (next p.0) v q.0))

  ends_i : (k u v : ℕ) → Chain next k u v → T (ends next size k v)
  unfolding ends
  ends_i zero u v c = tt
  ends_i (suc k) u v (step m c) =
      let p = last m c in
      any_i (λ u. has (next u) v && ends next size k u) (range size) p.before (range-∈ size p.before (tails p.before v p.link))
      (and_i (has (next p.before) v) (ends next size k p.before) (has_i p.link) (ends_i k u p.before p.chain))

  pub order-by : (v k : ℕ) → T (ends next size k v) → T (not (ends next size (suc k) v)) → Order next v k
  order-by v k t n = let p = ends_e k v t in record { start = p.0; chain = p.1; longest = λ u j c. go u j c (dec_le j k) }
    where
      go : (u j : ℕ) → Chain next j u v → Dec (j ≤ k) → j ≤ k
      go u j c (yes h) = h
      go u j c (no h) = absurd (T_not (ends next size (suc k) v) n (ends_i (suc k) (node_at c (j - suc k)) v (from c (j - suc k) (suc k) (omega arith))))

  -- round and round
  rounds : {r c : ℕ} → Chain next (suc r) c c → (n : ℕ) → (k : ℕ) × (n ≤ k) × Chain next k c c
  rounds b zero = (0, omega arith, stay)
  rounds b (suc n) = let p = rounds b n in let q = app b p.2 in (q.0, omega (arith, q.1, p.1), q.2)

  pub unplaced_iff : (v : ℕ) → v < size → T (ends next size size v) ↔ OnOrBehindCycle next v
  unplaced_iff v h = (λ t. long next size tails h (omega arith) (ends_e size v t).1, back)
    where
      back : OnOrBehindCycle next v → T (ends next size size v)
      back o =
          let p = rounds o.cycle size in
          let q = app p.2 o.leads in
          ends_i size (node_at q.2 (q.0 - size)) v (from q.2 (q.0 - size) size (omega (arith, q.1, p.1)))

  -- the last number of steps at which some chain still ends in v
  last_end : (v n : ℕ) → T (not (ends next size n v)) → (k : ℕ) × T (ends next size k v) × T (not (ends next size (suc k) v))
  unfolding ends
  last_end v zero f = absurd f
  last_end v (suc n) f = go (last_end v n) (ends next size n v) refl
    where
      go : (T (not (ends next size n v)) → (k : ℕ) × T (ends next size k v) × T (not (ends next size (suc k) v))) → (b : Bool) → ends next size n v ≡ b
          → (k : ℕ) × T (ends next size k v) × T (not (ends next size (suc k) v))
      go ih true e = (n, rw e tt, f)
      go ih false e = ih (rw e tt)

  -- the largest number of steps, where none of size steps ends in v
  longest_is : (v n : ℕ) → T (not (ends next size n v)) → Order next v (longest_below next size n v)
  unfolding ends longest_below
  longest_is v zero f = absurd f
  longest_is v (suc n) f = go (longest_is v n) (ends next size n v) refl
    where
      go : (T (not (ends next size n v)) → Order next v (longest_below next size n v)) → (b : Bool) → ends next size n v ≡ b → Order next v (cond b n (longest_below next size n v))
      go ih true e = order-by v n (rw e tt) f
      go ih false e = ih (rw e tt)

  -- the computed order and mark are those of the rule
  kahn_computed : (v : ℕ) → v < size → Kahn next v (order next size v) (mark next size v)
  unfolding order mark
  kahn_computed v h = go (ends next size size v) refl
    where
      go : (b : Bool) → ends next size size v ≡ b → Kahn next v (cond b 0 (longest_below next size size v)) (cond b 1 0)
      go true e = unplaced ((unplaced_iff v h).0 (rw e tt))
      go false e = placed (λ o. absurd (rw e at ((unplaced_iff v h).1 o))) (longest_is v size (rw e tt))

  -- COMPUTED ORDERS AND MARKS ARE SORTED
  pub sorted_computed : Sorted next size (orders_of next size) (marks_of next size)
  sorted_computed =
      record {
        orders_long = length-map (range size) (order next size) ∙ range_length size;
        marks_long = length-map (range size) (mark next size) ∙ range_length size;
        each = λ v h. rw (map_range (order next size) size v h, map_range (mark next size) size v h) (kahn_computed v h);
      }

-- one item has one order
pub order_same : {next : ℕ → List ℕ} {v j k : ℕ} → Order next v j → Order next v k → j ≡ k
order_same {j = j} {k} p q = omega (arith, p.longest q.start k q.chain, q.longest p.start j p.chain)

pub kahn_same : {next : ℕ → List ℕ} {v j k a b : ℕ} → Kahn next v j a → Kahn next v k b → (j ≡ k) × (a ≡ b)
kahn_same (placed p o) (placed q r) = (order_same o r, refl)
kahn_same (placed p o) (unplaced q) = absurd (p q)
kahn_same (unplaced p) (placed q o) = absurd (q p)
kahn_same (unplaced p) (unplaced q) = (refl, refl)

-- ORDER IS UNIQUE: two sortings agree
pub sorted_same : {next : ℕ → List ℕ} {size : ℕ} {os os' ms ms' : List ℕ} → Sorted next size os ms → Sorted next size os' ms' → (os ≡ os') × (ms ≡ ms')
sorted_same {os = os} {os'} {ms} {ms'} s t = (
  ext_get_or 0 os os' (s.orders_long ∙ sym t.orders_long) (λ i h. (kahn_same (s.each i (omega (arith, s.orders_long))) (t.each i (omega (arith, s.orders_long)))).0),
  ext_get_or 0 ms ms' (s.marks_long ∙ sym t.marks_long) (λ i h. (kahn_same (s.each i (omega (arith, s.marks_long))) (t.each i (omega (arith, s.marks_long)))).1),
)

-- an item with no predecessor has order 0
pub order_zero : {next : ℕ → List ℕ} {v : ℕ} → ((u : ℕ) → ¬ (v ∈ next u)) → Order next v 0
order_zero {next} {v} alone = record { start = v; chain = stay; longest = λ u j c. go c }
  where
    go : {u j : ℕ} → Chain next j u v → j ≤ 0
    go stay = omega arith
    go (step m c) = let p = last m c in absurd (alone p.before p.link)

-- an item whose predecessors have orders up to k, and one of them k, has order k + 1
pub order-suc : {next : ℕ → List ℕ} {v k : ℕ} (u : ℕ) → v ∈ next u → Order next u k → ((y : ℕ) → v ∈ next y → (j : ℕ) × Order next y j × (j ≤ k)) → Order next v (suc k)
order-suc {next} {v} {k} u m o all = record { start = o.start; chain = snoc o.chain m; longest = λ y j c. go c }
  where
    go : {y j : ℕ} → Chain next j y v → j ≤ suc k
    go stay = omega arith
    go (step {k = i} {u = y} l c) = let p = last l c in let q = all p.before p.link in omega (arith, q.1.longest y i p.chain, q.2)

-- the operations' orders and marks are those of the rule
pub orders_sorted : {d : Drawing} → Accepted d → Sorted (op_next d) (op_count d) (orders d) (marks d)
orders_sorted {d} a = sorted_computed (op_next d) (op_count d) (op_tails a)
