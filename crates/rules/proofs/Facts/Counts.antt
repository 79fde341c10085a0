-- How often a number stands in a list, and how it falls as a loop goes through the list.
use Rattle.std.specs.Prelude.{◌*◌, ℕ, zero, suc, ◌+◌, ◌-◌, ◌≤◌, ◌<◌, Bool, true, false, map, List, [], ◌∷◌, ◌++◌, ◌≡◌, refl, length, get_or, drop, eqb}
use Rattle.std.proofs.Common.{zero-le, sym, ap, add-one, arith, drop_of_length-le, drop-cons, eqb-true}
use mathlib.Core.List.Memᴰ
use Rattle.std.proofs.lemmas.Bool.{eqb-false}
use Rattle.rules.specs.Lists.{◌∈◌, sum, all_below, at}
use Rattle.rules.specs.Inner.Words.{bit, count, up_from, products}
use Rattle.rules.proofs.Facts.Stores.{bit_same, bit_other}

-- one step of each fold, at `drop i`
module _ (l : List ℕ) (i : ℕ) (h : i < length l) where
  pub drop_more : drop i l ≡ get_or l i 0 ∷ drop (i + 1) l
  drop_more = rw (add-one, drop-cons l i 0)

  pub sum_more : sum (drop i l) ≡ get_or l i 0 + sum (drop (i + 1) l)
  sum_more = ap sum drop_more

  pub count_more : (v : ℕ) → count v (drop i l) ≡ bit (eqb (get_or l i 0) v) + count v (drop (i + 1) l)
  unfolding count
  count_more v = rw drop_more

-- and at the end
pub sum_end : (l : List ℕ) (i : ℕ) → length l ≤ i → sum (drop i l) ≡ 0
sum_end l i h = ap sum (drop_of_length-le l h)

pub count_end : (l : List ℕ) (i v : ℕ) → length l ≤ i → count v (drop i l) ≡ 0
unfolding count
count_end l i v h = rw (drop_of_length-le l h)

pub all_below_end : (l : List ℕ) (i n : ℕ) → length l ≤ i → all_below (drop i l) n ≡ true
unfolding all_below
all_below_end l i n h = rw (drop_of_length-le l h)

pub bit_le : (b : Bool) → bit b ≤ 1
bit_le true = omega arith
bit_le false = omega arith

pub count_le : (v : ℕ) (l : List ℕ) → count v l ≤ length l
unfolding count
count_le v [] = zero-le
count_le v (x ∷ l) = omega (arith, bit_le (eqb x v), count_le v l)

pub count_nil : (v : ℕ) → count v [] ≡ 0
unfolding count
count_nil v = refl

pub count-append : (v : ℕ) (s t : List ℕ) → count v (s ++ t) ≡ count v s + count v t
unfolding count
count-append v [] t = omega arith
count-append v (x ∷ s) t = omega (arith, count-append v s t)

pub count-drop : (v : ℕ) (l : List ℕ) (j : ℕ) → count v (drop j l) ≤ count v l
unfolding count
count-drop v [] zero = zero-le
count-drop v [] (suc j) = zero-le
count-drop v (x ∷ l) zero = omega arith
count-drop v (x ∷ l) (suc j) = omega (arith, count-drop v l j)

-- a number stands in a list exactly if it is counted there
pub ∈-count : {v : ℕ} {l : List ℕ} → v ∈ l → 0 < count v l
unfolding count
∈-count {v} (Memᴰ.head {x = a} q) = rw (← q, bit_same v) (omega arith)
∈-count (Memᴰ.tail m) = omega (arith, ∈-count m)

pub count-∈ : (v : ℕ) (l : List ℕ) → 0 < count v l → v ∈ l
unfolding count
count-∈ v [] h = absurd (omega arith)
count-∈ v (a ∷ l) h = go (count-∈ v l) (eqb a v) refl h
  where
    go : (0 < count v l → v ∈ l) → (b : Bool) → eqb a v ≡ b → 0 < bit b + count v l → v ∈ (a ∷ l)
    go ih true e _ = Memᴰ.head (sym (eqb-true a v e))
    go ih false e k = Memᴰ.tail (ih (omega arith))

pub count_above : (l : List ℕ) (n v : ℕ) → ((u : ℕ) → u ∈ l → u < n) → n ≤ v → count v l ≡ 0
unfolding count
count_above [] n v low h = refl
count_above (x ∷ l) n v low h =
    omega (arith, bit_other x v (λ q. omega (arith, low x (Memᴰ.head refl))), count_above l n v (λ u m. low u (Memᴰ.tail m)) h)

-- each of i, .. i + c - 1 stands there once
pub count-up_from : (v i c : ℕ) → i ≤ v → v < i + c → count v (up_from i c) ≡ 1
unfolding count up_from
count-up_from v i zero h k = absurd (omega arith)
count-up_from v i (suc c) h k = go (count-up_from v (suc i) c) (eqb i v) refl
  where
    lost : (c i : ℕ) → v < i → count v (up_from i c) ≡ 0
    lost zero i h = refl
    lost (suc c) i h = omega (arith, bit_other i v (λ e. omega arith), lost c (suc i) (omega arith))

    go : (suc i ≤ v → v < suc i + c → count v (up_from (suc i) c) ≡ 1) → (b : Bool) → eqb i v ≡ b → bit b + count v (up_from (suc i) c) ≡ 1
    go ih true e = omega (arith, lost c (suc i) (omega (arith, eqb-true i v e)))
    go ih false e = omega (arith, ih (omega (arith, eqb-false i v e)) (omega arith))

pub up_from-∈ : (i c : ℕ) {v : ℕ} → v ∈ up_from i c → v < i + c
unfolding up_from
up_from-∈ i zero m = absurd (Memᴰ.not-nil m)
up_from-∈ i (suc c) (Memᴰ.head q) = omega arith
up_from-∈ i (suc c) (Memᴰ.tail m) = omega (arith, up_from-∈ (suc i) c m)

pub up_from_more : (i k : ℕ) → i < k → up_from i (k - i) ≡ i ∷ up_from (i + 1) (k - (i + 1))
unfolding up_from
up_from_more i k h = let e : k - i ≡ suc (k - (i + 1)) = omega arith in rw (e, add-one)

pub up_from_over : (i k : ℕ) → k ≤ i → up_from i (k - i) ≡ []
unfolding up_from
up_from_over i k h = let e : k - i ≡ 0 = omega arith in rw e

-- the numbers that a list names, added up
pub sum_at_more : (t l : List ℕ) (i : ℕ) → i < length l → sum (map (at t) (drop i l)) ≡ get_or t (get_or l i 0) 0 + sum (map (at t) (drop (i + 1) l))
sum_at_more t l i h = rw (drop_more l i h)

pub sum-at_end : (t l : List ℕ) (i : ℕ) → length l ≤ i → sum (map (at t) (drop i l)) ≡ 0
sum-at_end t l i h = rw (drop_of_length-le l h)

-- products, added up
pub products_more : (a b : List ℕ) (i : ℕ) → i < length a → i < length b → products (drop i a) (drop i b) ≡ get_or a i 0 * get_or b i 0 + products (drop (i + 1) a) (drop (i + 1) b)
unfolding products
products_more a b i h g = rw (drop_more a i h, drop_more b i g)

pub products_end : (a b : List ℕ) (i : ℕ) → length a ≤ i → products (drop i a) (drop i b) ≡ 0
unfolding products
products_end a b i h = rw (drop_of_length-le a h)
