-- The convexity walk: what a search along successor lists finds, and how its queue and marks stand between two rows.
-- No promise cites this file.
use Rattle.std.specs.Prelude.{ℕ, ◌+◌, ◌<◌, ◌≤◌, ◌≡◌, ◌↔◌, List, ◌++◌, length, get_or, take}
use Rattle.rules.specs.Lists.{◌∈◌}
use Rattle.rules.specs.Inner.Words.{count}

-- Row i of a table of k rows lies in the table.
pub record Row (k : ℕ) (t : List ℕ) (i : ℕ) : Type 0 where
  pub low : i < k
  pub rises : get_or t i 0 ≤ get_or t (i + 1) 0
  pub fits : k + 1 + get_or t (i + 1) 0 ≤ length t

-- What is reached: the first step from an item of w takes `out`, every later one `next`.
pub data Reached (next out : ℕ → List ℕ) (w : List ℕ) : ℕ → Type 0 where
  from : {v j : ℕ} → v ∈ w → j ∈ out v → Reached next out w j
  on : {u j : ℕ} → Reached next out w u → j ∈ next u → Reached next out w j

-- Q: the queue of reached items, of which the first h are worked off; the first q items of w are worked off too.
pub record Search (next out : ℕ → List ℕ) (w : List ℕ) (q h : ℕ) (Q : List ℕ) : Type 0 where
  pub worked : h ≤ length Q
  pub really : (j : ℕ) → j ∈ Q → Reached next out w j
  pub begun : (v j : ℕ) → v ∈ take q w → j ∈ out v → j ∈ Q
  pub closed : (u j : ℕ) → u ∈ take h Q → j ∈ next u → j ∈ Q

-- the queue grows by new items of a row, and then holds the whole row
pub record Grown (row Q Q' : List ℕ) : Type 0 where
  pub new : List ℕ
  pub behind : Q' ≡ Q ++ new
  pub only : (j : ℕ) → j ∈ new → j ∈ row
  pub whole : (j : ℕ) → j ∈ row → j ∈ Q'

-- the queue holds the items that have a mark, of k, each once
pub record Marked (k : ℕ) (Q M : List ℕ) : Type 0 where
  pub long : length M ≡ k
  pub room : length Q + count 0 M ≡ k
  pub queued : (j : ℕ) → j ∈ Q → (j < k) × (0 < get_or M j 0)
  pub ready : (j : ℕ) → 0 < get_or M j 0 → j ∈ Q

-- at the end the marks tell what is reached
pub record Found (next out : ℕ → List ℕ) (w M : List ℕ) : Type 0 where
  pub marks : (j : ℕ) → (0 < get_or M j 0) ↔ Reached next out w j
