-- A graph as one plain table, and what a walk of it finds.
use Rattle.std.specs.Prelude.{ℕ, ◌+◌, ◌-◌, ◌<◌, ◌≤◌, cond, ◌≡◌, ◌↔◌, List, [], length, get_or, ltb}
use Rattle.rules.specs.Graph.{OnOrBehindCycle, Order}
use Rattle.rules.specs.Lists.{◌∈◌, seg}
use Rattle.rules.specs.Inner.Words.{positives}

-- A table of k items has k + 1 offsets, and behind them the successors of all items in a row.
-- The items that item i leads to, once for each listing
unfoldable pub successors : ℕ → List ℕ → ℕ → List ℕ
successors k t i = cond (ltb i k) (seg (k + 1 + get_or t i 0) (get_or t (i + 1) 0 - get_or t i 0) t) []

-- the offsets rise from 0 to the end, and every successor is an item
pub record Table (k : ℕ) (t : List ℕ) : Type 0 where
  pub first : get_or t 0 0 ≡ 0
  pub rises : (i : ℕ) → i < k → get_or t i 0 ≤ get_or t (i + 1) 0
  pub last : k + 1 + get_or t k 0 ≡ length t
  pub items : (i j : ℕ) → j ∈ successors k t i → j < k

-- what Kahn's walk finds: how many items are placed; D: 0 where an item is placed; F: a placed item's order
pub record Walked (next : ℕ → List ℕ) (k placed : ℕ) (D F : List ℕ) : Type 0 where
  pub marks : (v : ℕ) → v < k → (0 < get_or D v 0) ↔ OnOrBehindCycle next v
  pub orders : (v : ℕ) → v < k → get_or D v 0 ≡ 0 → Order next v (get_or F v 0)
  pub others : placed + positives D ≡ k
