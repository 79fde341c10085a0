-- Laws of the listings that are left.
use Prim.Native.Nat.{ℕ, zero, suc, ◌+◌, ◌<◌, ◌≤◌}
use Rattle.std.proofs.Math.Bool.{true, cond}
use Rattle.std.specs.Prelude.{◌≡◌, ◌⊎◌, List, [], ◌∷◌, ◌++◌}
use Rattle.std.proofs.Math.Path.{refl}
use Rattle.std.proofs.Common.{sym, ◌∙◌, inl, inr, arith}
use mathlib.Core.List.Memᴰ
use Rattle.std.proofs.Math.Decide.{ℕ_discrete}
use Rattle.rules.specs.Lists.{◌∈◌, has}
use Rattle.rules.specs.Inner.Walk.{left}
use Rattle.rules.specs.Inner.Words.{count}
use Rattle.rules.proofs.Facts.Counts.{∈-count, count-∈}
use Rattle.rules.proofs.Facts.Member.{dec∈, has_yes, has_no}

module _ (next : ℕ → List ℕ) (done : List ℕ) (j : ℕ) where
  -- what an item that is not done lists is left
  pub left_keeps : (k u : ℕ) → u < k → ¬ (u ∈ done) → count j (next u) ≤ left next done k j
  unfolding left
  left_keeps zero u h n = absurd (omega arith)
  left_keeps (suc k) u h n = go (left_keeps k u) (ℕ_discrete u k)
    where
      go : (u < k → ¬ (u ∈ done) → count j (next u) ≤ left next done k j) → Dec (u ≡ k) → count j (next u) ≤ left next done k j + cond (has done k) 0 (count j (next k))
      go ih (yes e) = rw (← e, has_no done u n) (omega arith)
      go ih (no m) = omega (arith, ih (omega arith) n)

  -- where none is left, every item that lists j is done
  pub left-none : (k u : ℕ) → left next done k j ≡ 0 → u < k → j ∈ next u → u ∈ done
  left-none k u e h m = go (dec∈ u done)
    where
      go : Dec (u ∈ done) → u ∈ done
      go (yes d) = d
      go (no n) = absurd (omega (arith, left_keeps k u h n, ∈-count m))

  -- where one is left, some item that is not done lists j
  pub left-some : (k : ℕ) → 0 < left next done k j → (u : ℕ) × (u < k) × (¬ (u ∈ done)) × (j ∈ next u)
  unfolding left
  left-some zero h = absurd (omega arith)
  left-some (suc k) h = go (left-some k) (dec∈ k done) (ℕ_discrete (count j (next k)) 0)
    where
      up : (u : ℕ) × (u < k) × (¬ (u ∈ done)) × (j ∈ next u) → (u : ℕ) × (u < suc k) × (¬ (u ∈ done)) × (j ∈ next u)
      up p = (p.0, omega (arith, p.1), p.2, p.3)

      go : (0 < left next done k j → (u : ℕ) × (u < k) × (¬ (u ∈ done)) × (j ∈ next u)) → Dec (k ∈ done) → Dec (count j (next k) ≡ 0)
          → (u : ℕ) × (u < suc k) × (¬ (u ∈ done)) × (j ∈ next u)
      go ih (yes m) c = up (ih (let e = has_yes m in omega (arith, rw e at h)))
      go ih (no n) (yes z) = up (ih (let e = has_no done k n in omega (arith, rw e at h)))
      go ih (no n) (no z) = (k, omega arith, n, count-∈ j (next k) (omega arith))

-- one item more is done: what it lists is not left
module _ (next : ℕ → List ℕ) (done : List ℕ) (i j : ℕ) (new : ¬ (i ∈ done)) where
  same_has : (u : ℕ) → ¬ (u ≡ i) → has (done ++ i ∷ []) u ≡ has done u
  same_has u n = go (dec∈ u done)
    where
      cases : ¬ (u ∈ done) → (u ∈ done) ⊎ (u ∈ (i ∷ [])) → ⊥
      cases m (inl a) = m a
      cases m (inr a) = n (Memᴰ.eq_of_singleton a)

      go : Dec (u ∈ done) → has (done ++ i ∷ []) u ≡ has done u
      go (yes m) = has_yes (Memᴰ.append_left (i ∷ []) m) ∙ sym (has_yes m)
      go (no m) = has_no (done ++ i ∷ []) u (λ a. cases m (Memᴰ.append_cases done a)) ∙ sym (has_no done u m)

  left_above : (k : ℕ) → k ≤ i → left next (done ++ i ∷ []) k j ≡ left next done k j
  unfolding left
  left_above zero h = refl
  left_above (suc k) h = rw (same_has k (λ e. omega arith), left_above k (omega arith))

  pub left_one : (k : ℕ) → i < k → left next (done ++ i ∷ []) k j + count j (next i) ≡ left next done k j
  unfolding left
  left_one zero h = absurd (omega arith)
  left_one (suc k) h = go (left_one k) (ℕ_discrete k i)
    where
      now_done : has (done ++ i ∷ []) i ≡ true
      now_done = has_yes (Memᴰ.append_right done (Memᴰ.head refl))

      go : (i < k → left next (done ++ i ∷ []) k j + count j (next i) ≡ left next done k j) → Dec (k ≡ i)
          → left next (done ++ i ∷ []) k j + cond (has (done ++ i ∷ []) k) 0 (count j (next k)) + count j (next i) ≡ left next done k j + cond (has done k) 0 (count j (next k))
      go ih (yes e) = rw (e, now_done, has_no done i new, left_above i (omega arith)) (omega arith)
      go ih (no n) = rw (same_has k n) (omega (arith, ih (omega arith)))
