-- The walk over two tables, with a mark for each item and a queue of as many words: how it stands between two of its steps.
use Rattle.std.specs.Prelude.{ℕ, ◌<◌, ◌≤◌, List, length, take}
use Rattle.rules.specs.Lists.{◌∈◌}
use Rattle.rules.specs.Inner.Table.{Table, successors}
use Rattle.rules.specs.Inner.Search.{Row, Marked, Grown, Search}

-- the table t of n rows supplies the first step, the table u of k rows every later one
pub record Pair (n : ℕ) (t : List ℕ) (k : ℕ) (u : List ℕ) : Type 0 where
  pub rows : (v : ℕ) → v < n → Row n t v
  pub items : (v j : ℕ) → j ∈ successors n t v → j < k
  pub few : n ≤ k
  pub later : Table k u

-- the first words of the queue Q hold the items that have a mark in M
pub record Held (tail : ℕ) (M Q : List ℕ) : Type 0 where
  pub within : tail ≤ length Q
  pub marked : Marked (length Q) (take tail Q) M

-- a row is followed
pub record Followed (row : List ℕ) (tail : ℕ) (M Q : List ℕ) (tail' : ℕ) (M' Q' : List ℕ) : Type 0 where
  pub held : Held tail' M' Q'
  pub grown : Grown row (take tail Q) (take tail' Q')

-- a search along successor lists
pub record Searching (next out : ℕ → List ℕ) (w : List ℕ) (q h tail : ℕ) (M Q : List ℕ) : Type 0 where
  pub held : Held tail M Q
  pub search : Search next out w q h (take tail Q)
