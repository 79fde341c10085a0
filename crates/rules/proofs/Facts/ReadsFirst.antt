-- That a layer reads all its inputs first cannot be observed on a drawing that runs: no operation of a layer stores into a node that one
-- of the layer reads, so running the layer's operations one by one leaves the same memory.
use Rattle.std.specs.Prelude.{ℕ, suc, ◌<◌, Bool, true, false, cond, ◌⊎◌, ◌≡◌, length, set, eqb}
use Rattle.std.proofs.Common.{arith, inl, inr, ◌∙◌, get_or-set_other, eqb-true}
use mathlib.Core.List.Memᴰ
use mathlib.Core.List.{List, [], ◌∷◌, map}
use Rattle.std.proofs.Math.Path.{refl, sym, ap}
use Rattle.rules.specs.Lists.{◌∈◌, at, has, those, range, concat}
use Rattle.rules.specs.Drawing.{Drawing, Accepted, op_count, targets_of, sources_of}
use Rattle.rules.specs.Graph.{placed, unplaced, Kahn, Order}
use Rattle.rules.specs.Analysis.{layer_of, marks, orders, op_next}
use Rattle.rules.specs.Evaluation.{store_all, run_layer, suits_at, outputs_of, outcome, operation}
use Rattle.rules.proofs.Facts.Running.{layer-∈, outputs_many}
use Rattle.rules.specs.Inner.Running.{run_rest}
use Rattle.rules.proofs.Facts.Chains.{snoc}
use Rattle.rules.proofs.Facts.Orders.{orders_sorted}
use Rattle.rules.proofs.Facts.Tests.{not_both}
use Rattle.rules.proofs.Facts.Adjacent.{op-next}
use Rattle.rules.proofs.Facts.Member.{has_yes, get_or-∈}
use Rattle.rules.proofs.Facts.Evaluating.{map_same, store_append}

-- what is listed by a test passes it
those_true : (p : ℕ → Bool) (l : List ℕ) {u : ℕ} → u ∈ those p l → p u ≡ true
unfolding those
those_true p [] m = absurd (Memᴰ.not-nil m)
those_true p (a ∷ l) {u} m = go (those_true p l {u = u}) (p a) refl m
  where
    go : (u ∈ those p l → p u ≡ true) → (b : Bool) → p a ≡ b → u ∈ cond b (a ∷ those p l) (those p l) → p u ≡ true
    go ih false q m = ih m
    go ih true q m = here (Memᴰ.cases_cons m)
      where
        here : (u ≡ a) ⊎ (u ∈ those p l) → p u ≡ true
        here (inl e) = ap p e ∙ q
        here (inr i) = ih i

layer_order : (os : List ℕ) (i : ℕ) {u : ℕ} → u ∈ layer_of os i → at os u ≡ i
unfolding layer_of
layer_order os i {u} m = eqb-true (at os u) i (those_true (λ e. eqb (at os e) i) (range (length os)) m)

kahn_placed : {next : ℕ → List ℕ} {v k b : ℕ} → Kahn next v k b → ¬ (b ≡ 1) → Order next v k
kahn_placed (placed p o) n = o
kahn_placed (unplaced q) n = absurd (n refl)

module _ {d : Drawing} (a : Accepted d) (none : has (marks d) 1 ≡ false) where
  -- where no mark is 1, every operation has an order
  ordered : (e : ℕ) → e < op_count d → Order (op_next d) e (at (orders d) e)
  ordered e h = let s = orders_sorted a in kahn_placed (s.each e h) (λ q. not_both (sym none ∙ has_yes (rw q at (get_or-∈ (marks d) e (omega (arith, s.marks_long))))))

  in_order : (i e : ℕ) → e ∈ layer_of (orders d) i → Order (op_next d) e i
  in_order i e m = rw (layer_order (orders d) i m) at (ordered e (omega (arith, layer-∈ (orders d) i m, (orders_sorted a).orders_long)))

  -- A NODE THAT A LAYER READS IS NEVER WRITTEN IN IT
  pub reads_first : (i e f v : ℕ) → e ∈ layer_of (orders d) i → f ∈ layer_of (orders d) i → v ∈ sources_of d e → v ∈ targets_of d f → ⊥
  reads_first i e f v m n s t =
      let o = in_order i f n in
      omega (arith, (in_order i e m).longest o.start (suc i) (snoc o.chain ((op-next a f e).1 (v, t, s))))

-- one operation after the other, each reading what the ones before it stored
unfoldable pub run_each : Drawing → List ℕ → List ℕ → List ℕ
run_each d [] memory = memory
run_each d (e ∷ es) memory = run_each d es (store_all (targets_of d e) (outputs_of d memory e) memory)

store_other : (places values memory : List ℕ) (v : ℕ) → ¬ (v ∈ places) → at (store_all places values memory) v ≡ at memory v
unfolding store_all
store_other [] values memory v n = refl
store_other (p ∷ places) [] memory v n = refl
store_other (p ∷ places) (x ∷ values) memory v n =
    store_other places values (set memory p x) v (λ m. n (Memᴰ.tail m)) ∙ get_or-set_other memory p v x 0 (λ e. n (Memᴰ.head e))

module _ (d : Drawing) (read : List ℕ) where
  each_rest : (es memory : List ℕ) → ((e : ℕ) → e ∈ es → suits_at d e ≡ true) → ((e f v : ℕ) → e ∈ es → f ∈ es → v ∈ sources_of d e → v ∈ targets_of d f → ⊥)
      → ((e v : ℕ) → e ∈ es → v ∈ sources_of d e → at memory v ≡ at read v) → run_each d es memory ≡ run_rest d es read memory
  unfolding run_each store_all
  each_rest [] memory s n r = refl
  each_rest (e ∷ es) memory s n r =
      let o : outputs_of d memory e ≡ outputs_of d read e = ap (λ (l : List ℕ). outcome (operation (at d.ops e)) l (length (targets_of d e))) (map_same (at memory) (at read) (sources_of d e) (λ v m. r e v (Memᴰ.head refl) m)) in
      rw o
      (each_rest es (store_all (targets_of d e) (outputs_of d read e) memory) (λ f m. s f (Memᴰ.tail m)) (λ f g v m k. n f g v (Memᴰ.tail m) (Memᴰ.tail k))
      (λ f v m k. store_other (targets_of d e) (outputs_of d read e) memory v (λ t. n f e v (Memᴰ.tail m) (Memᴰ.head refl) k t) ∙ r f v (Memᴰ.tail m) k)
      ∙ sym (store_append (targets_of d e) (outputs_of d read e) (concat (map (targets_of d) es)) (concat (map (outputs_of d read) es)) memory (sym (outputs_many d e read (s e (Memᴰ.head refl))))))

-- ONE BY ONE OR ALL AT ONCE, A LAYER LEAVES THE SAME MEMORY
pub layer_each : {d : Drawing} → Accepted d → has (marks d) 1 ≡ false → ((e : ℕ) → e < op_count d → suits_at d e ≡ true) → (i : ℕ) (memory : List ℕ) → run_each d (layer_of (orders d) i) memory ≡ run_layer d (layer_of (orders d) i) memory
unfolding run_layer
layer_each {d} a none s i memory =
    each_rest d memory (layer_of (orders d) i) memory (λ e m. s e (omega (arith, layer-∈ (orders d) i m, (orders_sorted a).orders_long))) (reads_first a none i) (λ e v m k. refl)
