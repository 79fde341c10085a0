-- Laws of what the program writes: decimals, lines one by one, and how long each piece is.
use Rattle.std.specs.Prelude.{ℕ, zero, suc, ◌+◌, ◌*◌, ◌/◌, ◌%◌, ◌^◌, ◌≤◌, ◌<◌, Bool, true, false, cond, List, [], ◌∷◌, ◌++◌, ◌≡◌, refl, length, get_or, drop, ltb}
use Rattle.std.proofs.Common.{ap, div-lt_iff_lt-mul, arith, length-append, drop_of_length-le, lit<}
use Rattle.std.proofs.Math.Nat.{div-lt_self, pow-succ'}
use borrow.Author.Tests.{lt-ltb, le-ltb, eq-eqb, ne_eqb}
use Rattle.rules.specs.Lists.{those}
use Rattle.rules.specs.Program.{spelled, decimal, item, line, lines, column, operations_header, value_lines, refused_line, unplaced_count}
use Rattle.rules.proofs.Facts.Counts.{drop_more}

-- Decimals. A number of j + 2 digits has a tenth of j + 1.
pub tenth : (j n : ℕ) → n < 10 ^ suc (suc j) → n / 10 < 10 ^ suc j
tenth j n h = let g : n < 10 * 10 ^ suc j = rw (pow-succ' 10 (suc j)) at h in (div-lt_iff_lt-mul {k = 10} {x = n} {y = 10 ^ suc j} (lit< tt)).1 (omega arith)

-- more digits than a number has change nothing
enough : (j k n : ℕ) → n < 10 ^ suc j → n < 10 ^ suc k → spelled (suc j) n ≡ spelled (suc k) n
unfolding spelled
enough zero k n h g = rw (lt-ltb n 10 (omega arith))
enough (suc j) zero n h g = rw (lt-ltb n 10 (omega arith))
enough (suc j) (suc k) n h g = go (ltb n 10) (enough j k (n / 10) (tenth j n h) (tenth k n g))
  where
    go : (b : Bool) → spelled (suc j) (n / 10) ≡ spelled (suc k) (n / 10)
        → cond b ((48 + n) ∷ []) (spelled (suc j) (n / 10) ++ ((48 + n % 10) ∷ [])) ≡ cond b ((48 + n) ∷ []) (spelled (suc k) (n / 10) ++ ((48 + n % 10) ∷ []))
    go true ih = refl
    go false ih = rw ih

pub decimal_small : (n : ℕ) → n < 10 → decimal n ≡ (48 + n) ∷ []
unfolding decimal spelled
decimal_small n h = rw (lt-ltb n 10 h)

pub decimal_more : (n : ℕ) → n < 10 ^ 10 → 10 ≤ n → decimal n ≡ decimal (n / 10) ++ ((48 + n % 10) ∷ [])
unfolding decimal spelled
decimal_more n f h = rw (le-ltb n 10 h, enough 8 9 (n / 10) (tenth 8 n f) (omega (arith, tenth 8 n f)))

-- what a function needs that writes the number's tenth first
pub shorter : (n : ℕ) → n < 2 ^ 32 → 10 ≤ n → (length (decimal n) ≡ length (decimal (n / 10)) + 1) × (n / 10 < n)
shorter n f h = (simp length-append at (ap length (decimal_more n (omega arith) h)), div-lt_self {k = 10} (omega arith) (lit< tt))

-- one line more, at `drop i`, and none
module _ (l : List ℕ) (i : ℕ) where
  pub column_more : i < length l → column (drop i l) ≡ item (get_or l i 0) 10 ++ column (drop (i + 1) l)
  unfolding column
  column_more h = rw (drop_more l i h)

  pub column_end : length l ≤ i → column (drop i l) ≡ []
  unfolding column
  column_end h = rw (drop_of_length-le l h)

  pub lines_more : (ms : List ℕ) → i < length l → i < length ms → lines i (drop i l) (drop i ms) ≡ line i (get_or l i 0) (get_or ms i 0) ++ lines (i + 1) (drop (i + 1) l) (drop (i + 1) ms)
  unfolding lines
  lines_more ms h g = rw (drop_more l i h, drop_more ms i g)

  pub lines_end : (ms : List ℕ) → length l ≤ i → lines i (drop i l) (drop i ms) ≡ []
  unfolding lines
  lines_end ms h = rw (drop_of_length-le l h)

-- one mark more, at `drop i`
module _ (ms : List ℕ) (i : ℕ) where
  pub unplaced_more : i < length ms → get_or ms i 0 ≡ 1 → unplaced_count (drop i ms) ≡ 1 + unplaced_count (drop (i + 1) ms)
  unfolding those
  unplaced_more h e = rw (drop_more ms i h, eq-eqb (get_or ms i 0) 1 e) (omega arith)

  pub unplaced_other : i < length ms → ¬ (get_or ms i 0 ≡ 1) → unplaced_count (drop i ms) ≡ unplaced_count (drop (i + 1) ms)
  unfolding those
  unplaced_other h n = rw (drop_more ms i h, ne_eqb (get_or ms i 0) 1 n)

  pub unplaced_end : length ms ≤ i → unplaced_count (drop i ms) ≡ 0
  unfolding those
  unplaced_end h = rw (drop_of_length-le ms h)

-- How long each piece is.
spelled-length : (k n : ℕ) → length (spelled k n) ≤ k
unfolding spelled
spelled-length zero n = omega arith
spelled-length (suc k) n = go (ltb n 10) (spelled-length k (n / 10))
  where
    go : (b : Bool) → length (spelled k (n / 10)) ≤ k → length (cond b ((48 + n) ∷ []) (spelled k (n / 10) ++ ((48 + n % 10) ∷ []))) ≤ suc k
    go true ih = omega arith
    go false ih = simp length-append (omega arith)

pub decimal-length : (n : ℕ) → length (decimal n) ≤ 10
unfolding decimal
decimal-length n = spelled-length 10 n

pub lines-length : (e : ℕ) (os ms : List ℕ) → length (lines e os ms) ≤ 33 * length os
unfolding lines
lines-length e [] ms = omega arith
lines-length e (o ∷ os) [] = omega arith
lines-length e (o ∷ os) (m ∷ ms) = simp length-append (omega (arith, decimal-length e, decimal-length o, decimal-length m, lines-length (e + 1) os ms))

pub column-length : (vs : List ℕ) → length (column vs) ≤ 11 * length vs
unfolding column
column-length [] = omega arith
column-length (v ∷ vs) = simp length-append (omega (arith, decimal-length v, column-length vs))

-- `operations `, `unplaced `, `values ` and `refused ` with their numbers
pub header_length : (m unplaced : ℕ) → length (operations_header m unplaced) ≤ 42
header_length m unplaced = simp length-append (omega (arith, decimal-length m, decimal-length unplaced))

pub values_length : (vs : List ℕ) → length (value_lines vs) ≤ 18 + 11 * length vs
values_length vs = simp length-append (omega (arith, decimal-length (length vs), column-length vs))

pub refused_length : (k : ℕ) → length (refused_line k) ≤ 19
refused_length k = simp length-append (omega (arith, decimal-length k))
