-- Laws of a table: its successor lists are the rows of its items, one after the other.
use Prim.Native.Nat.{ℕ, zero, suc, ◌+◌, ◌-◌, ◌<◌, ◌≤◌}
use Rattle.std.specs.Prelude.{◌≡◌, List, [], ◌++◌, length, drop}
use Rattle.std.proofs.Common.{sym, ◌∙◌, drop-drop, lt-ltb, le-ltb}
use Rattle.std.proofs.Math.Path.{ap}
use mathlib.Core.List.Memᴰ
use native.Mathlib.Omega.{arith}
use Rattle.std.proofs.Math.Numerals.{add-one}
use Rattle.std.proofs.Math.Decide.{dec_lt}
use Rattle.std.proofs.Math.ListN.{get_or}
use Rattle.std.proofs.Math.Seq.{take-add}
use Rattle.rules.specs.Lists.{◌∈◌, seg}
use Rattle.rules.specs.Inner.Table.{Table, successors}
use Rattle.rules.specs.Inner.Walk.{left}
use Rattle.rules.specs.Inner.Words.{count}
use Rattle.rules.proofs.Facts.Counts.{count_nil, count-append}
use Rattle.rules.proofs.Facts.Member.{get_or-∈}
use Rattle.rules.specs.Inner.Search.{Row}
use Rattle.rules.proofs.Facts.Segments.{seg-at, seg-length}
use Rattle.std.specs.Prelude.{take}

-- an item's row, and an item past the last has none
pub row : (k : ℕ) (t : List ℕ) (i : ℕ) → i < k → successors k t i ≡ seg (k + 1 + get_or t i 0) (get_or t (i + 1) 0 - get_or t i 0) t
unfolding successors
row k t i h = rw (lt-ltb i k h)

pub tails : (k : ℕ) (t : List ℕ) (u j : ℕ) → j ∈ successors k t u → u < k
unfolding successors
tails k t u j m = go (dec_lt u k)
  where
    go : Dec (u < k) → u < k
    go (yes h) = h
    go (no n) = absurd (Memᴰ.not-nil (rw (le-ltb u k (omega arith)) at m))

-- some row holds each place
pub find_row : (off : ℕ → ℕ) (k q : ℕ) → off 0 ≡ 0 → q < off k → (i : ℕ) × (i < k) × (off i ≤ q) × (q < off (i + 1))
find_row off zero q z h = absurd (omega arith)
find_row off (suc k) q z h = go (find_row off k q z) (dec_lt q (off k))
  where
    go : (q < off k → (i : ℕ) × (i < k) × (off i ≤ q) × (q < off (i + 1))) → Dec (q < off k) → (i : ℕ) × (i < suc k) × (off i ≤ q) × (q < off (i + 1))
    go ih (yes l) = let r = ih l in (r.0, omega (arith, r.1), r.2, r.3)
    go ih (no l) = (k, omega arith, omega arith, rw (add-one k) h)

module _ (k : ℕ) (t : List ℕ) (T : Table k t) where
  up_to : (i c : ℕ) → i + c ≤ k → get_or t i 0 ≤ get_or t (i + c) 0
  up_to i zero h = let e : i + 0 ≡ i = omega arith in rw e (omega arith)
  up_to i (suc c) h = let e : i + suc c ≡ i + c + 1 = omega arith in rw e (omega (arith, T.rises (i + c) (omega arith), up_to i c (omega arith)))

  -- offsets rise up to the number of successors
  pub offsets : (i j : ℕ) → i ≤ j → j ≤ k → get_or t i 0 ≤ get_or t j 0
  offsets i j h b = let e : i + (j - i) ≡ j = omega arith in rw e at (up_to i (j - i) (omega arith))

  pub row_end : (i : ℕ) → i ≤ k → k + 1 + get_or t i 0 ≤ length t
  row_end i h = omega (arith, T.last, offsets i k h (omega arith))

  pub row_length : (i : ℕ) → i < k → length (successors k t i) ≡ get_or t (i + 1) 0 - get_or t i 0
  row_length i h =
      rw (row k t i h)
      (seg-length (k + 1 + get_or t i 0) (get_or t (i + 1) 0 - get_or t i 0) t (omega (arith, row_end (i + 1) (omega arith), T.rises i h)))

  pub row_at : (i p : ℕ) → i < k → get_or t i 0 + p < get_or t (i + 1) 0 → get_or (successors k t i) p 0 ≡ get_or t (k + 1 + get_or t i 0 + p) 0
  row_at i p h b = rw (row k t i h) (seg-at (k + 1 + get_or t i 0) (get_or t (i + 1) 0 - get_or t i 0) t p (omega arith))

  -- every word behind the offsets is an item
  pub flat : (p : ℕ) → k < p → p < length t → get_or t p 0 < k
  flat p h b =
      let (i, l, lo, hi) = find_row (λ i. get_or t i 0) k (p - (k + 1)) T.first (omega (arith, T.last)) in
      let r : ℕ = p - (k + 1) - get_or t i 0 in
      let z : k + 1 + get_or t i 0 + r ≡ p = omega arith in
      let m : get_or (successors k t i) r 0 ∈ successors k t i = get_or-∈ (successors k t i) r (omega (arith, row_length i l)) in
      rw (row_at i r l (omega arith), z) at (T.items i (get_or (successors k t i) r 0) m)

  -- with no item done, what is left is what all rows list
  pub left-all : (j i : ℕ) → i ≤ k → left (successors k t) [] i j ≡ count j (seg (k + 1) (get_or t i 0) t)
  unfolding left
  left-all j zero h = rw T.first (sym (count_nil j))
  left-all j (suc i) h =
      let q : i + 1 ≡ suc i = add-one i in
      let l : get_or t i 0 ≤ get_or t (i + 1) 0 = T.rises i (omega arith) in
      let s : get_or t i 0 + (get_or t (i + 1) 0 - get_or t i 0) ≡ get_or t (i + 1) 0 = omega arith in
      let a : seg (k + 1) (get_or t (i + 1) 0) t ≡ seg (k + 1) (get_or t i 0) t ++ successors k t i =
      ap (λ (n : ℕ). seg (k + 1) n t) (sym s) ∙ take-add (get_or t i 0) (get_or t (i + 1) 0 - get_or t i 0) (drop (k + 1) t) ∙ rw (row k t i (omega arith), drop-drop) in
      rw (← q, a, count-append j (seg (k + 1) (get_or t i 0) t) (successors k t i)) (omega (arith, left-all j i (omega arith)))

-- every row of a table lies in it
pub table_row : {k : ℕ} {t : List ℕ} → Table k t → (i : ℕ) → i < k → Row k t i
table_row {k} {t} T i h = record { low = h; rises = T.rises i h; fits = row_end k t T (i + 1) (omega arith) }

-- a row is the part between its offsets, as it is cut out
pub row_part : {k : ℕ} {t : List ℕ} {i : ℕ} → Row k t i → take (k + 1 + get_or t (i + 1) 0 - (k + 1 + get_or t i 0)) (drop (k + 1 + get_or t i 0) t) ≡ successors k t i
row_part {k} {t} {i} r =
    let e : k + 1 + get_or t (i + 1) 0 - (k + 1 + get_or t i 0) ≡ get_or t (i + 1) 0 - get_or t i 0 = omega arith in
    rw (e, row k t i r.low)
