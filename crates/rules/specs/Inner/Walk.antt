-- How Kahn's walk stands between two of its steps, and how a workspace is laid out for a walk. No promise cites this file.
use Rattle.std.specs.Prelude.{ℕ, zero, suc, ◌+◌, ◌-◌, ◌<◌, ◌≤◌, ◌^◌, max, cond, ◌≡◌, ◌⊎◌, List, [], ◌∷◌, ◌++◌, length, get_or, take, set, eqb}
use Rattle.rules.specs.Graph.{Chain}
use Rattle.rules.specs.Lists.{◌∈◌, has, seg}
use Rattle.rules.specs.Inner.Words.{count, positives}

-- how often the items below k that are not among done list j
unfoldable pub left : (ℕ → List ℕ) → List ℕ → ℕ → ℕ → ℕ
left next done zero j = 0
left next done (suc i) j = left next done i j + cond (has done i) 0 (count j (next i))

-- Q: the queue, of which the first h are worked off; D: listings that are left; F: depths so far;
-- rest: listings of the item in hand that are still to be followed, and far: one more than its depth
pub record Walk (next : ℕ → List ℕ) (k h : ℕ) (rest : List ℕ) (far : ℕ) (Q D F : List ℕ) : Type 0 where
  pub degrees : length D ≡ k
  pub depths : length F ≡ k
  pub worked : h ≤ length Q
  -- each item is in the queue or has a degree: so the queue has room, and at the end it tells how many items are placed
  pub room : length Q + positives D ≡ k
  pub degree : (j : ℕ) → j < k → get_or D j 0 ≡ left next (take h Q) k j + count j rest
  -- the queue holds the items of degree 0, each once
  pub queued : (j : ℕ) → j ∈ Q → (j < k) × (get_or D j 0 ≡ 0)
  pub ready : (j : ℕ) → j < k → get_or D j 0 ≡ 0 → j ∈ Q
  pub once : (i : ℕ) → i < length Q → ¬ (get_or Q i 0 ∈ take i Q)
  -- a depth is the length of some chain, and rises along each listing that was followed
  pub chains : (j : ℕ) → (u : ℕ) × Chain next (get_or F j 0) u j
  pub rises : (u j : ℕ) → u ∈ take h Q → j ∈ next u → (get_or F u 0 < get_or F j 0) ⊎ ((get_or F u 0 < far) × (j ∈ rest))
  pub shallow : (j : ℕ) → get_or F j 0 ≤ h
  -- the item in hand
  pub listed : (j : ℕ) → j ∈ rest → j < k
  pub hand : (j : ℕ) → j ∈ rest → (u : ℕ) × Chain next far u j
  pub near : far ≤ h

-- one listing of s is followed
abbrev pub lowered : List ℕ → ℕ → List ℕ
lowered D s = set D s (get_or D s 0 - 1)

abbrev pub deepened : List ℕ → ℕ → ℕ → List ℕ
deepened F s far = set F s (max (get_or F s 0) far)

abbrev pub joined : List ℕ → List ℕ → ℕ → List ℕ
joined Q D s = cond (eqb (get_or D s 0 - 1) 0) (Q ++ s ∷ []) Q

-- in a workspace: tables in the first b words, then k words for the items, and room for a queue of k
abbrev pub queue_of : ℕ → ℕ → ℕ → List ℕ → List ℕ
queue_of k b tail ws = seg (b + k) tail ws

pub record Laid (k b : ℕ) (ws : List ℕ) : Type 0 where
  pub small : b < 2 ^ 31
  pub table : k < b
  pub fits : b + k + k + k ≤ length ws

-- a walk of k items in three lists: degrees, a queue whose first `tail` words are in use, and depths
pub record Standing (next : ℕ → List ℕ) (k h tail : ℕ) (rest : List ℕ) (far : ℕ) (D Q F : List ℕ) : Type 0 where
  pub long : length Q ≡ k
  pub within : tail ≤ k
  pub walk : Walk next k h rest far (take tail Q) D F

-- what it takes to follow a listing of s: one is left, and where it is the last, the queue has room
pub record Releasable (k tail s : ℕ) (D : List ℕ) : Type 0 where
  pub low : s < k
  pub some : 0 < get_or D s 0
  pub within : tail ≤ k
  pub room : get_or D s 0 - 1 ≡ 0 → tail < k

-- one listing of s is followed
pub record Released (k tail s far : ℕ) (D Q F : List ℕ) (tail' : ℕ) (D' Q' F' : List ℕ) : Type 0 where
  pub long : length Q' ≡ length Q
  pub within : tail' ≤ k
  pub degrees : D' ≡ lowered D s
  pub depths : F' ≡ deepened F s far
  pub queue : take tail' Q' ≡ joined (take tail Q) D s
