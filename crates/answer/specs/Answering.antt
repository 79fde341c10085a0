-- What the functions of the answer take and leave. The promise does not cite this file.
use Rattle.std.specs.Prelude.{ℕ, ◌≤◌, List, [], ◌∷◌, ◌≡◌, length}
use Rattle.rules.specs.Lists.{sum}
use Rattle.rules.specs.Drawing.{Drawing, Boundary, op_count}
use Rattle.rules.specs.Refusals.{first_of, workspace_need}
use Rattle.rules.specs.Evaluation.{evaluated, unplaced_op, wrong_operation}
use Rattle.rules.specs.Text.{most_counted, limits}
use Rattle.rules.specs.Program.{values_or_refused, drawing_in, boundary_in, values_in, answer, most_words}
use Rattle.rules.proofs.Facts.TextSections.{Fit}
use Rattle.text.specs.Reading.{sections_of, most_numbers}

-- The lists of a text are small enough for the rooms that the program has.
pub record Small (d : Drawing) (b : Boundary) (values : List ℕ) : Type 0 where
  pub ops : op_count d ≤ most_counted
  pub outputs : length b.outputs ≤ most_counted
  pub given : length values ≤ most_counted
  pub workspace : workspace_need d ≤ most_words

-- Counts and numbers as they were read: nine sections, within their limits.
pub record Nine (counts numbers : List ℕ) : Type 0 where
  pub nine : length counts ≡ 9
  pub inside : sum counts ≤ length numbers
  pub few : sum counts ≤ most_numbers
  pub fit : Fit limits (sections_of counts numbers)

-- what the program writes for the nine sections
abbrev pub answer_in : List (List ℕ) → List ℕ
answer_in ls = answer (drawing_in ls) (boundary_in ls) (values_in ls)

-- what stands behind the operations' lines: the values, or 13 or 14
unfoldable pub closing : Drawing → Boundary → List ℕ → List ℕ
closing d b values = values_or_refused (first_of (unplaced_op d ∷ wrong_operation d ∷ [])) (evaluated d b values)
