-- Chains are made longer, put together and taken apart at their last step.
use Rattle.std.specs.Prelude.{ℕ, suc, ◌+◌, ◌≡◌, List}
use Rattle.std.proofs.Common.{arith}
use Rattle.rules.specs.Graph.{Chain, stay, step}
use Rattle.rules.specs.Lists.{◌∈◌}

pub snoc : {next : ℕ → List ℕ} {k u v w : ℕ} → Chain next k u v → w ∈ next v → Chain next (suc k) u w
snoc stay m = step m stay
snoc (step l c) m = step l (snoc c m)

pub record Last (next : ℕ → List ℕ) (k u w : ℕ) : Type 0 where
  pub before : ℕ
  pub chain : Chain next k u before
  pub link : w ∈ next before

pub last : {next : ℕ → List ℕ} {k u v w : ℕ} → v ∈ next u → Chain next k v w → Last next k u w
last {u = u} m stay = record { before = u; chain = stay; link = m }
last m (step l c) = let p = last l c in record { before = p.before; chain = step m p.chain; link = p.link }

pub app : {next : ℕ → List ℕ} {j k u v w : ℕ} → Chain next j u v → Chain next k v w → (i : ℕ) × (i ≡ j + k) × Chain next i u w
app {k = k} stay c = (k, omega arith, c)
app (step m b) c = let p = app b c in (suc p.0, omega (arith, p.1), step m p.2)

-- more successors, more chains
pub chain_map : {f g : ℕ → List ℕ} {k u v : ℕ} → ((u j : ℕ) → j ∈ f u → j ∈ g u) → Chain f k u v → Chain g k u v
chain_map h stay = stay
chain_map h (step {u = u} {v = j} m c) = step (h u j m) (chain_map h c)
