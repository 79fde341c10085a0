-- The two tables of the convexity walk, and what the walk decides. No promise cites this file.
use Rattle.std.specs.Prelude.{ℕ, ◌+◌, ◌-◌, ◌<◌, ◌≤◌, Bool, not, ◌≡◌, List, length, get_or, eqb}
use Rattle.rules.specs.Lists.{◌∈◌, has, those}
use Rattle.rules.specs.Drawing.{Drawing, node_count, op_count, most_items}
use Rattle.rules.specs.Inner.Incidence.{incidence}
use Rattle.rules.specs.Inner.Words.{count}

-- the operations that node v leads to, without the selected ones
unfoldable pub unselected : Drawing → List ℕ → ℕ → List ℕ
unselected d x v = those (λ i. not (has x (i - node_count d))) (incidence d v)

-- selected operations of a drawing, few enough to count
pub record SelectedOps (d : Drawing) (x : List ℕ) : Type 0 where
  pub few : length x ≤ most_items
  pub below : (e : ℕ) → e ∈ x → e < op_count d

-- flags of items: operation e is item n + e, and its flag tells how often it is selected
pub record Flags (n : ℕ) (x F : List ℕ) : Type 0 where
  pub each : (e : ℕ) → get_or F (n + e) 0 ≡ count e x

-- is an item's flag 0?
abbrev pub clear : List ℕ → ℕ → Bool
clear F i = eqb (get_or F i 0) 0
