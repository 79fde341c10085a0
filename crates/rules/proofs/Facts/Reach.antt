-- Which items are reached, by computation.
use Rattle.std.specs.Prelude.{ℕ, zero, suc, ◌<◌, Bool, ◌||◌, ◌&&◌, ◌≡◌, ◌⊎◌, ◌↔◌, T}
use Rattle.std.proofs.Common.{arith, subst, inl, inr}
use Rattle.std.proofs.Math.Decide.{ℕ_discrete}
use Rattle.rules.specs.Graph.{Route, one, more}
use Rattle.rules.proofs.Facts.Routes.{join}
use Rattle.rules.proofs.Facts.Bools.{or_l, and_e, or_r, or_cases, and_i}

-- from u to v in one or more hops, through items below k (Warshall)
unfoldable pub reach : (ℕ → ℕ → Bool) → ℕ → ℕ → ℕ → Bool
reach hop zero u v = hop u v
reach hop (suc k) u v = reach hop k u v || (reach hop k u k && reach hop k k v)

-- the same as a type, for the proofs
data Via (hop : ℕ → ℕ → Bool) : ℕ → ℕ → ℕ → Type 0 where
  hopped : {u v : ℕ} → T (hop u v) → Via hop zero u v
  keep : {k u v : ℕ} → Via hop k u v → Via hop (suc k) u v
  over : {k u v : ℕ} → Via hop k u k → Via hop k k v → Via hop (suc k) u v

reach→via : (hop : ℕ → ℕ → Bool) (k u v : ℕ) → T (reach hop k u v) → Via hop k u v
unfolding reach
reach→via hop zero u v t = hopped t
reach→via hop (suc k) u v t = go (reach→via hop k) (or_cases (reach hop k u v) (reach hop k u k && reach hop k k v) t)
  where
    go : ((u v : ℕ) → T (reach hop k u v) → Via hop k u v) → T (reach hop k u v) ⊎ T (reach hop k u k && reach hop k k v) → Via hop (suc k) u v
    go ih (inl a) = keep (ih u v a)
    go ih (inr b) = let p = and_e (reach hop k u k) (reach hop k k v) b in over (ih u k p.0) (ih k v p.1)

via→reach : {hop : ℕ → ℕ → Bool} {k u v : ℕ} → Via hop k u v → T (reach hop k u v)
unfolding reach
via→reach (hopped t) = t
via→reach {hop} (keep {k = k} {u = u} {v = v} a) = or_l (reach hop k u v) (reach hop k u k && reach hop k k v) (via→reach a)
via→reach {hop} (over {k = k} {u = u} {v = v} a b) =
    or_r (reach hop k u v) (reach hop k u k && reach hop k k v) (and_i (reach hop k u k) (reach hop k k v) (via→reach a) (via→reach b))

module _ {hop : ℕ → ℕ → Bool} where
  to_last : {k u : ℕ} → Via hop (suc k) u k → Via hop k u k
  to_last (keep a) = a
  to_last (over a b) = a

  from_last : {k v : ℕ} → Via hop (suc k) k v → Via hop k k v
  from_last (keep a) = a
  from_last (over a b) = b

  -- two ways join at an item below k
  through : (k m u v : ℕ) → m < k → Via hop k u m → Via hop k m v → Via hop k u v
  through zero m u v h s t = absurd (omega arith)
  through (suc k) m u v h s t = go (through k m) (ℕ_discrete m k) s t
    where
      go : ((u v : ℕ) → m < k → Via hop k u m → Via hop k m v → Via hop k u v) → Dec (m ≡ k) → Via hop (suc k) u m → Via hop (suc k) m v → Via hop (suc k) u v
      go ih (yes e) p q = over (to_last (subst (λ z. Via hop (suc k) u z) e p)) (from_last (subst (λ z. Via hop (suc k) z v) e q))
      go ih (no n) (keep a) (keep b) = keep (ih u v (omega arith) a b)
      go ih (no n) (keep a) (over b c) = over (ih u k (omega arith) a b) c
      go ih (no n) (over a b) (keep c) = over a (ih k v (omega arith) b c)
      go ih (no n) (over a b) (over c e) = over a e

  hop_via : (k : ℕ) {u v : ℕ} → T (hop u v) → Via hop k u v
  hop_via zero t = hopped t
  hop_via (suc k) t = keep (hop_via k t)

  via→route : {St : ℕ → ℕ → ℕ → Type 0} → ((u v : ℕ) → T (hop u v) → Route St u v) → {k u v : ℕ} → Via hop k u v → Route St u v
  via→route f {u = u} {v} (hopped t) = f u v t
  via→route f (keep a) = via→route f a
  via→route f (over a b) = join (via→route f a) (via→route f b)

  route→via : {St : ℕ → ℕ → ℕ → Type 0} (n : ℕ) → ((u e v : ℕ) → St u e v → T (hop u v) × (v < n)) → {u v : ℕ} → Route St u v → Via hop n u v
  route→via n f {u} {v} (one {e = e} s) = hop_via n (f u e v s).0
  route→via n f {u} {v} (more {e = e} {v = z} s r) = let p = f u e z s in through n z u v p.1 (hop_via n p.0) (route→via n f r)

-- reach decides paths
pub reach_iff : {St : ℕ → ℕ → ℕ → Type 0} (hop : ℕ → ℕ → Bool) (n : ℕ)
    → ((u v : ℕ) → T (hop u v) → Route St u v) → ((u e v : ℕ) → St u e v → T (hop u v) × (v < n)) → (u v : ℕ) → T (reach hop n u v) ↔ Route St u v
reach_iff hop n f g u v = (λ t. via→route f (reach→via hop n u v t), λ r. via→reach (route→via n g r))
