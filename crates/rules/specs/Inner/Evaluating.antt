-- The call `eval` in its parts: what is refused before the workspace is touched, what behind the walk, and what is left in W words.
use Rattle.std.specs.Prelude.{ℕ, Bool, ◌&&◌, cond, List, [], ◌∷◌, ◌≡◌, length, replicate}
use Rattle.rules.specs.Lists.{at, has, all, range}
use Rattle.rules.specs.Drawing.{Drawing, Boundary}
use Rattle.rules.specs.Refusals.{first_of, unless, within, boundary_within, values_within, bad_lengths, bad_value, bad_boundary, short_room, workspace_need, refusal_of, written}
use Rattle.rules.specs.Evaluation.{operation, suits, evaluated, unplaced_op, wrong_operation}
use Rattle.rules.specs.Inner.Running.{Runs, memory_of}
use Rattle.std.specs.Prelude.{Result}
use Rattle.rules.specs.declared.Refusal.{Refusal}

-- 1, 2, 3, 12
unfoldable pub input_refusal : (d : Drawing) (b : Boundary) (values : List ℕ) → ℕ
input_refusal d b values =
    first_of (unless (within d && boundary_within b && values_within values) 1 ∷ bad_lengths d ∷ bad_value d ∷ bad_boundary d b ∷ [])

-- 1, 2, 3, 12, 11
abbrev pub early_checks : (d : Drawing) (b : Boundary) (values : List ℕ) (output_room room : ℕ) → List ℕ
early_checks d b values output_room room =
    unless (within d && boundary_within b && values_within values) 1
    ∷ bad_lengths d
    ∷ bad_value d
    ∷ bad_boundary d b
    ∷ short_room (length b.outputs) output_room
    ∷ short_room (workspace_need d) room
    ∷ []

unfoldable pub early_refusal : (d : Drawing) (b : Boundary) (values : List ℕ) (output_room room : ℕ) → ℕ
early_refusal d b values output_room room = first_of (early_checks d b values output_room room)

-- 13, 14
unfoldable pub late_refusal : Drawing → ℕ
late_refusal d = first_of (unplaced_op d ∷ wrong_operation d ∷ [])

-- whether operation e suits its numbers of sources and targets, by the length lists
abbrev pub suits_by : (x sl tl : List ℕ) → ℕ → Bool
suits_by x sl tl e = suits (operation (at x e)) (at sl e) (at tl e)

-- 13, 14, by the marks and the length lists
unfoldable pub late_by : (marks x sl tl : List ℕ) → ℕ
late_by marks x sl tl = first_of (cond (has marks 1) 13 0 ∷ unless (all (suits_by x sl tl) (range (length x))) 14 ∷ [])

-- the tables stand, and memory holds words
pub record Prepared (d : Drawing) (memory ws ws' : List ℕ) : Type 0 where
  pub long : length ws' ≡ length ws
  pub runs : Runs d ws'
  pub holds : memory_of d ws' ≡ memory

-- decided and run, in W words and an output of just the room that it needs
pub record Attempted (d : Drawing) (b : Boundary) (values out out' ws ws' : List ℕ) (r : Result Unit Refusal) : Type 0 where
  pub refusal : refusal_of r ≡ late_refusal d
  pub output : out' ≡ written (refusal_of r) (evaluated d b values) out
  pub long : length ws' ≡ length ws

-- and cleared
pub record Evaluated (d : Drawing) (b : Boundary) (values out out' ws' : List ℕ) (r : Result Unit Refusal) : Type 0 where
  pub refusal : refusal_of r ≡ late_refusal d
  pub output : out' ≡ written (refusal_of r) (evaluated d b values) out
  pub clear : ws' ≡ replicate (workspace_need d) 0
