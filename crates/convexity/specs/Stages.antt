-- Which of two tables supplies a row: at the first step n rows without the selected operations, at a later one k rows with all of them.
use Rattle.std.specs.Prelude.{ℕ, List}
use Rattle.convexity.specs.declared.Stage.{Stage}
use Rattle.convexity.specs.declared.Stage.TheVariants.{Inside, Outside}

abbrev pub rows_of : Stage → ℕ → ℕ → ℕ
rows_of Inside n k = n
rows_of Outside n k = k

abbrev pub table_of : Stage → List ℕ → List ℕ → List ℕ
table_of Inside unselected full = unselected
table_of Outside unselected full = full
