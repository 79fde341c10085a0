-- What a loop over a lent slice did: one equation for every place, so that the rest is said to stay. No promise cites this file.
use Rattle.std.specs.Prelude.{ℕ, ◌+◌, ◌≤◌, ◌<◌, ◌^◌, List, ◌≡◌, length, get_or, take, drop}
use Rattle.rules.specs.Lists.{◌∈◌, sum}
use Rattle.rules.specs.Inner.Words.{count, below, listing}

-- a table t' is t with each number raised by how often its place stands in a list
pub record Counted (l t t' : List ℕ) : Type 0 where
  pub long : length t' ≡ length t
  pub each : (v : ℕ) → get_or t' v 0 ≡ get_or t v 0 + count v l

-- each number is replaced by the sum of those up to it
pub record Running (t t' : List ℕ) : Type 0 where
  pub long : length t' ≡ length t
  pub sums : (v : ℕ) → v < length t → get_or t' v 0 ≡ sum (take (v + 1) t)

-- lists of numbers below n, few enough to count, and to number from first on
pub record Listed (n first : ℕ) (lens vals : List ℕ) : Type 0 where
  pub total : sum lens ≡ length vals
  pub below : (u : ℕ) → u ∈ vals → u < n
  pub few_lists : first + length lens < 2 ^ 31
  pub few_values : length vals < 2 ^ 31

-- From the last value down to j each value's owner is placed in the rows where its number's cursor, one lower each time, then points.
-- c₀: the cursors at first; c, r: the cursors and the rows
pub record Placing (os l c₀ c r : List ℕ) (j : ℕ) : Type 0 where
  pub cursor : (v : ℕ) → get_or c v 0 + count v (drop j l) ≡ get_or c₀ v 0
  pub slot : (v k : ℕ) → k < count v (drop j l) → get_or r (get_or c v 0 + k) 0 ≡ get_or (listing v (drop j os) (drop j l)) k 0

-- cursors that stand behind the last place of each number's row
abbrev pub Cursors : (l c : List ℕ) → Type 0
Cursors l c = (v : ℕ) → v < length c → get_or c v 0 ≡ below (v + 1) l

-- from c and r at j to c' and r' at j', whatever the cursors were at first: what an inner loop does, which does not know them
abbrev pub Onward : (os l c r : List ℕ) (j : ℕ) (c' r' : List ℕ) (j' : ℕ) → Type 0
Onward os l c r j c' r' j' = (c₀ : List ℕ) → Cursors l c₀ → length c ≡ length c₀ → Placing os l c₀ c r j → Placing os l c₀ c' r' j'

-- few enough values and operations for offsets that fit a table
pub record Few (n : ℕ) (sv tl t : List ℕ) : Type 0 where
  pub room : length t ≡ n + 1 + length tl
  pub sums : length sv + sum tl < 2 ^ 31

-- t tells where each list's part of the values begins
pub record Starting (lens t : List ℕ) : Type 0 where
  pub long : length lens ≤ length t
  pub each : (e : ℕ) → e < length lens → get_or t e 0 ≡ sum (take e lens)
