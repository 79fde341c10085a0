-- What the tests of the rules tell, and that they find it: lists of tests, entries below a number, equal lists, first_of.
use Rattle.std.specs.List.{list_any}
use Rattle.std.specs.Prelude.{ℕ, zero, suc, ◌<◌, Bool, true, false, ◌&&◌, List, [], ◌∷◌, ◌≡◌, refl, eqb, ltb}
use Rattle.std.proofs.Common.{arith, eqb-true, eq-eqb, ltb-true, lt-ltb}
use mathlib.Core.List.Memᴰ
use Rattle.rules.specs.Lists.{◌∈◌, all_below, same_list, all, has}
use Rattle.rules.specs.Refusals.{first_of, unless}

-- false is not true
pub not_both {ℓ} : {A : Type ℓ} → false ≡ true → A
not_both e = absurd (let z : ◌≡◌ {A = ℕ} 0 1 = cc in omega arith)

pub both : (a b : Bool) → a && b ≡ true → (a ≡ true) × (b ≡ true)
both true b e = (refl, e)
both false b e = not_both e

pub both_hold : (a b : Bool) → a ≡ true → b ≡ true → a && b ≡ true
both_hold a b p q = rw (p, q)

pub all-four : (a b c d : Bool) → a && b && c && d ≡ true → (a ≡ true) × (b ≡ true) × (c ≡ true) × (d ≡ true)
all-four a b c d e =
    let p = both (a && b && c) d e in
    let q = both (a && b) c p.0 in
    let r = both a b q.0 in
    (r.0, r.1, q.1, p.1)

pub four_hold : (a b c d : Bool) → a ≡ true → b ≡ true → c ≡ true → d ≡ true → a && b && c && d ≡ true
four_hold a b c d p q r s = rw (p, q, r, s)

-- entries below a number
pub all_below-∈ : {n v : ℕ} {l : List ℕ} → all_below l n ≡ true → v ∈ l → v < n
unfolding all_below
all_below-∈ {n = n} e (Memᴰ.head {x = a} {xs = l} q) = let p = both (ltb a n) (all_below l n) e in omega (arith, ltb-true a n p.0)
all_below-∈ {n = n} e (Memᴰ.tail {x = a} {xs = l} m) = all_below-∈ (both (ltb a n) (all_below l n) e).1 m

pub ∈-all_below : (l : List ℕ) (n : ℕ) → ((u : ℕ) → u ∈ l → u < n) → all_below l n ≡ true
unfolding all_below
∈-all_below [] n h = refl
∈-all_below (a ∷ l) n h = rw (lt-ltb a n (h a (Memᴰ.head refl))) (∈-all_below l n (λ u m. h u (Memᴰ.tail m)))

-- equal lists
pub same_list_eq : (l k : List ℕ) → same_list l k ≡ true → l ≡ k
unfolding same_list
same_list_eq [] [] e = refl
same_list_eq [] (b ∷ k) e = not_both e
same_list_eq (a ∷ l) [] e = not_both e
same_list_eq (a ∷ l) (b ∷ k) e =
    let p = both (eqb a b) (same_list l k) e in
    let h : a ≡ b = eqb-true a b p.0 in
    let t : l ≡ k = same_list_eq l k p.1 in
    rw (h, t)

pub same_list_same : (l : List ℕ) → same_list l l ≡ true
unfolding same_list
same_list_same [] = refl
same_list_same (a ∷ l) = rw (eq-eqb a a refl) (same_list_same l)

pub eq_same_list : (l k : List ℕ) → l ≡ k → same_list l k ≡ true
eq_same_list l k e = rw e (same_list_same k)

-- a test of every entry
pub all-∈ : (p : ℕ → Bool) {u : ℕ} {l : List ℕ} → all p l ≡ true → u ∈ l → p u ≡ true
unfolding all
all-∈ p e (Memᴰ.head {x = a} {xs = l} q) = rw q (both (p a) (all p l) e).0
all-∈ p e (Memᴰ.tail {x = a} {xs = l} m) = all-∈ p (both (p a) (all p l) e).1 m

pub ∈-all : (p : ℕ → Bool) (l : List ℕ) → ((u : ℕ) → u ∈ l → p u ≡ true) → all p l ≡ true
unfolding all
∈-all p [] h = refl
∈-all p (a ∷ l) h = rw (h a (Memᴰ.head refl)) (∈-all p l (λ u m. h u (Memᴰ.tail m)))

-- where the first of a list is 0, all are, and a test that gives 0 holds
pub first-none : (a : ℕ) (l : List ℕ) → first_of (a ∷ l) ≡ 0 → (a ≡ 0) × (first_of l ≡ 0)
first-none zero l e = (refl, e)
first-none (suc a) l e = absurd (omega arith)

pub none_first : (a : ℕ) (l : List ℕ) → a ≡ 0 → first_of l ≡ 0 → first_of (a ∷ l) ≡ 0
none_first a l p q = rw (p, q)

pub unless-none : (b : Bool) (k : ℕ) → 0 < k → unless b k ≡ 0 → b ≡ true
unless-none true k h e = refl
unless-none false k h e = absurd (omega arith)

pub none-unless : (b : Bool) (k : ℕ) → b ≡ true → unless b k ≡ 0
none-unless b k e = rw e

-- std's test asks of each number whether it is a, and not whether a is the number
pub has_any : (l : List ℕ) (a : ℕ) → list_any (λ y. eqb y a) l ≡ has l a
has_any [] a = refl
has_any (y ∷ l) a = let h = has_any l a in grind (arith, h)
