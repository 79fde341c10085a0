-- The numbers that a list does not have.
use Rattle.std.specs.Prelude.{ℕ, zero, suc, ◌≤◌, ◌<◌, cond, ◌≡◌, refl, ◌⊎◌, List, [], ◌∷◌, length}
use Rattle.std.proofs.Common.{arith, inl, inr, length-append}
use Rattle.std.proofs.Math.Decide.{ℕ_discrete}
use mathlib.Core.List.Memᴰ
use Rattle.rules.specs.Fold.{outside}
use Rattle.rules.specs.Lists.{◌∈◌, has}
use Rattle.rules.proofs.Facts.Member.{dec∈, has_yes, has_no}

-- the kept numbers
pub ∈-outside : (w : List ℕ) (k u : ℕ) → u ∈ outside w k → (u < k) × (¬ (u ∈ w))
∈-outside w zero u m = absurd (Memᴰ.not-nil m)
∈-outside w (suc k) u m = go (∈-outside w k u) (dec∈ k w) (Memᴰ.append_cases (outside w k) m)
  where
    go : (u ∈ outside w k → (u < k) × (¬ (u ∈ w))) → Dec (k ∈ w) → (u ∈ outside w k) ⊎ (u ∈ cond (has w k) [] (k ∷ [])) → (u < suc k) × (¬ (u ∈ w))
    go ih d (inl i) = let p = ih i in (omega (arith, p.0), p.1)
    go ih (yes y) (inr i) = absurd (Memᴰ.not-nil (rw (has_yes y) at i))
    go ih (no n) (inr i) = let e = Memᴰ.eq_of_singleton (rw (has_no w k n) at i) in (omega (arith, e), rw e n)

pub outside-∈ : (w : List ℕ) (k u : ℕ) → u < k → ¬ (u ∈ w) → u ∈ outside w k
outside-∈ w zero u h n = absurd (omega arith)
outside-∈ w (suc k) u h n = go (λ l. outside-∈ w k u l n) (ℕ_discrete u k)
  where
    go : (u < k → u ∈ outside w k) → Dec (u ≡ k) → u ∈ outside w (suc k)
    go ih (yes e) = Memᴰ.append_right (outside w k) (rw (← e, has_no w u n) (Memᴰ.head refl))
    go ih (no m) = Memᴰ.append_left _ (ih (omega arith))

pub length-outside : (w : List ℕ) (k : ℕ) → ¬ (k ∈ w) → length (outside w (suc k)) ≡ suc (length (outside w k))
length-outside w k n = rw has_no (simp length-append (omega arith))

pub outside-≤ : (w : List ℕ) (u k : ℕ) → u ≤ k → length (outside w u) ≤ length (outside w k)
outside-≤ w u zero h = let e : u ≡ 0 = omega arith in rw e (omega arith)
outside-≤ w u (suc k) h = go (outside-≤ w u k) (ℕ_discrete u (suc k))
  where
    go : (u ≤ k → length (outside w u) ≤ length (outside w k)) → Dec (u ≡ suc k) → length (outside w u) ≤ length (outside w (suc k))
    go ih (yes e) = rw e (omega arith)
    go ih (no n) = simp length-append (omega (arith, ih (omega arith)))
