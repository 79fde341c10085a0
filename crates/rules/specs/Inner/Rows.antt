-- Rows one behind the other: tables of offsets and entries, and rows that are put into an output.
use Rattle.std.specs.Prelude.{ℕ, ◌+◌, ◌-◌, ◌<◌, ◌≤◌, ◌^◌, List, map, ◌++◌, ◌≡◌, length, get_or, take, drop}
use Rattle.rules.specs.Analysis.{converse}
use Rattle.rules.specs.Inner.Loops.{Listed}
use Rattle.rules.specs.Inner.Words.{count}
use Rattle.rules.specs.Lists.{◌∈◌, sum, seg, concat, row_lengths, row_entries}

-- row i: the entries between two offsets
unfoldable pub row_of : List ℕ → List ℕ → ℕ → List ℕ
row_of off vals i = seg (get_or off i 0) (get_or off (i + 1) 0 - get_or off i 0) vals

-- offsets that never fall and stay within the entries
pub record Sections (off vals : List ℕ) : Type 0 where
  pub rises : (i : ℕ) → i + 1 < length off → get_or off i 0 ≤ get_or off (i + 1) 0
  pub within : (i : ℕ) → i < length off → get_or off i 0 ≤ length vals

-- off and vals are the table of k rows
pub record Tabled (rows : ℕ → List ℕ) (k : ℕ) (off vals : List ℕ) : Type 0 where
  pub long : length off ≡ k + 1
  pub starts : (i : ℕ) → i ≤ k → get_or off i 0 ≡ length (row_entries rows i)
  pub entries : vals ≡ row_entries rows k

-- t is the table of a converse: n + 1 offsets, then the entries
abbrev pub ConverseTable : ℕ → List ℕ → List ℕ → List ℕ → Type 0
ConverseTable n lens vals t = Tabled (converse lens vals) n (take (n + 1) t) (drop (n + 1) t)

-- off and entries are to become that table: in the n + 1 offsets stands how often each number is listed
pub record Tallied (n : ℕ) (lens vals off entries : List ℕ) : Type 0 where
  pub listed : Listed n 0 lens vals
  pub long : length off ≡ n + 1
  pub room : length entries ≡ length vals
  pub each : (v : ℕ) → v ≤ n → get_or off v 0 ≡ count v vals

-- the offsets of lists that are given by their lengths
pub record Starts (lens off : List ℕ) : Type 0 where
  pub long : length off ≡ length lens + 1
  pub sums : (e : ℕ) → e ≤ length lens → get_or off e 0 ≡ sum (take e lens)

-- numbers put into a list from a place on, and the place behind them
abbrev pub put_at : ℕ → List ℕ → List ℕ → List ℕ
put_at from new l = take from l ++ (new ++ drop (from + length new) l)

pub record Put (from : ℕ) (new l l' : List ℕ) (to : ℕ) : Type 0 where
  pub list : l' ≡ put_at from new l
  pub behind : to ≡ from + length new

-- each entry of a row of the first table gives way to its row of the second
unfoldable pub flat_row : (aoff avals boff bvals : List ℕ) → ℕ → List ℕ
flat_row aoff avals boff bvals i = concat (map (row_of boff bvals) (row_of aoff avals i))

-- two tables that can be joined so: the first has k rows, and its entries are numbers of the second's rows
pub record Joinable (k : ℕ) (aoff avals boff bvals : List ℕ) : Type 0 where
  pub count : length aoff ≡ k + 1
  pub outer : Sections aoff avals
  pub inner : Sections boff bvals
  pub named : (u : ℕ) → u ∈ avals → u + 1 < length boff
  pub few : length (row_entries (flat_row aoff avals boff bvals) k) < 2 ^ 32

-- k rows put into two outputs, as lengths and as entries
pub record PutRows (rows : ℕ → List ℕ) (k : ℕ) (lens lens' vals vals' : List ℕ) : Type 0 where
  pub lengths : lens' ≡ put_at 0 (row_lengths rows k) lens
  pub entries : vals' ≡ put_at 0 (row_entries rows k) vals

-- The front of a workspace: the table of the sources' converse, then where each operation's targets start.
pub record Tables (n : ℕ) (sl sv tl ws : List ℕ) : Type 0 where
  pub fits : n + 1 + length sv + (length tl + 1) ≤ length ws
  pub sources : Tabled (converse sl sv) n (take (n + 1) ws) (seg (n + 1) (length sv) ws)
  pub targets : Starts tl (seg (n + 1 + length sv) (length tl + 1) ws)
