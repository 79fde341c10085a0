-- What stands in a list after a store.
use Rattle.std.specs.Prelude.{ℕ, zero, suc, ◌+◌, ◌-◌, ◌≤◌, ◌<◌, Bool, true, false, List, [], ◌∷◌, ◌++◌, ◌≡◌, refl, length, get_or, set, take, drop, eqb}
use Rattle.std.proofs.Common.{append-nil, sym, ap, arith, drop_of_length-le, get_or-set_same, get_or-set_other, take_all, add-one, eqb-true, ne_eqb, eq-eqb}
use Rattle.std.proofs.lemmas.Bool.{eqb-false}
use Rattle.rules.specs.Inner.Words.{bit, some, positives}

-- what stands at j after a store at i: the one law of `set` that the pointwise proofs cite
pub at_set : (P : ℕ → Type 0) (l : List ℕ) (i j a : ℕ) → i < length l → (j ≡ i → P a) → (¬ (j ≡ i) → P (get_or l j 0)) → P (get_or (set l i a) j 0)
at_set P l i j a h same other = go (eqb j i) refl
  where
    go : (b : Bool) → eqb j i ≡ b → P (get_or (set l i a) j 0)
    go true e = rw (eqb-true j i e, get_or-set_same l i a 0 h) (same (eqb-true j i e))
    go false e = rw (get_or-set_other l i j a 0 (eqb-false j i e)) (other (eqb-false j i e))

pub bit_same : (x : ℕ) → bit (eqb x x) ≡ 1
bit_same x = rw (eq-eqb x x refl)

pub bit_other : (x v : ℕ) → ¬ (v ≡ x) → bit (eqb x v) ≡ 0
bit_other x v h = rw (ne_eqb x v (λ e. h (sym e)))

-- two tests that say the same are equal
pub eqb_iff : (a b c d : ℕ) → (a ≡ b → c ≡ d) → (c ≡ d → a ≡ b) → eqb a b ≡ eqb c d
eqb_iff a b c d f g = go (eqb a b) (eqb c d) refl refl
  where
    go : (p q : Bool) → eqb a b ≡ p → eqb c d ≡ q → p ≡ q
    go true true e k = refl
    go false false e k = refl
    go true false e k = absurd (eqb-false c d k (f (eqb-true a b e)))
    go false true e k = absurd (eqb-false a b e (g (eqb-true c d k)))

pub eqb_shift : (b x v : ℕ) → bit (eqb (b + x) (b + v)) ≡ bit (eqb x v)
eqb_shift b x v = ap bit (eqb_iff (b + x) (b + v) x v (λ e. omega arith) (λ e. omega arith))

-- one more at x, and one less
pub raise : (t : List ℕ) (x v : ℕ) → x < length t → get_or (set t x (get_or t x 0 + 1)) v 0 ≡ get_or t v 0 + bit (eqb x v)
raise t x v h =
    at_set (λ y. y ≡ get_or t v 0 + bit (eqb x v)) t x v (get_or t x 0 + 1) h
    (λ e. rw (e, bit_same x))
    (λ e. omega (arith, bit_other x v e))

pub lower : (t : List ℕ) (x v : ℕ) → x < length t → 0 < get_or t x 0 → get_or (set t x (get_or t x 0 - 1)) v 0 + bit (eqb x v) ≡ get_or t v 0
lower t x v h p =
    at_set (λ y. y + bit (eqb x v) ≡ get_or t v 0) t x v (get_or t x 0 - 1) h
    (λ e. rw (e, bit_same x) (omega arith))
    (λ e. omega (arith, bit_other x v e))

-- how many are not 0, after a store
pub positives-set : (l : List ℕ) (i a : ℕ) → i < length l → positives (set l i a) + some (get_or l i 0) ≡ positives l + some a
unfolding positives
positives-set [] i a h = omega arith
positives-set (x ∷ l) zero a h = omega arith
positives-set (x ∷ l) (suc i) a h = omega (arith, positives-set l i a (omega arith))

pub some_pos : (n : ℕ) → 0 < n → some n ≡ 1
some_pos zero h = omega arith
some_pos (suc n) h = refl

-- every number is not 0
pub positives-all : (l : List ℕ) → ((i : ℕ) → i < length l → 0 < get_or l i 0) → positives l ≡ length l
unfolding positives
positives-all [] h = refl
positives-all (a ∷ l) h = omega (arith, some_pos a (h 0 (omega arith)), positives-all l (λ i b. h (suc i) (omega arith)))

-- none is left that is not 0
pub positives-none : (l : List ℕ) → positives l ≡ 0 → (i : ℕ) → get_or l i 0 ≡ 0
unfolding positives
positives-none [] e i = refl
positives-none (a ∷ l) e zero = zero_of a (omega arith)
  where
    zero_of : (a : ℕ) → some a ≡ 0 → a ≡ 0
    zero_of zero e = refl
    zero_of (suc a) e = absurd (omega arith)
positives-none (a ∷ l) e (suc i) = positives-none l (omega arith) i

-- one is left that is not 0
pub positives-some : (l : List ℕ) → 0 < positives l → (i : ℕ) × (i < length l) × (0 < get_or l i 0)
unfolding positives
positives-some [] h = absurd (omega arith)
positives-some (zero ∷ l) h = let p = positives-some l (omega arith) in (suc p.0, omega (arith, p.1), p.2)
positives-some (suc a ∷ l) h = (0, omega arith, omega arith)

-- a copy, one number more each time
pub copied_more : (i : ℕ) (vals t : List ℕ) → i < length vals → i < length t → set (take i vals ++ drop i t) i (get_or vals i 0) ≡ take (i + 1) vals ++ drop (i + 1) t
copied_more i vals t h g = rw (add-one i) (go i vals t h g)
  where
    go : (i : ℕ) (vals t : List ℕ) → i < length vals → i < length t → set (take i vals ++ drop i t) i (get_or vals i 0) ≡ take (suc i) vals ++ drop (suc i) t
    go i [] t h g = absurd (omega arith)
    go i (v ∷ vals) [] h g = absurd (omega arith)
    go zero (v ∷ vals) (a ∷ t) h g = refl
    go (suc i) (v ∷ vals) (a ∷ t) h g = ap (λ (l : List ℕ). v ∷ l) (go i vals t (omega arith) (omega arith))

pub copied_all : (i : ℕ) (vals t : List ℕ) → length vals ≤ i → length t ≤ i → take i vals ++ drop i t ≡ vals
copied_all i vals t h g = rw (take_all i vals h, drop_of_length-le t g) (append-nil vals)
