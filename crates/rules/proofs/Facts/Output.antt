-- What the program writes, by cases, and what the calls are refused with that it makes on the way.
use Rattle.std.specs.Prelude.{ℕ, suc, ◌≤◌, ◌<◌, true, ◌&&◌, ◌≡◌, refl, length}
use mathlib.Core.List.{List, [], ◌∷◌, ◌++◌}
use Rattle.std.proofs.Common.{arith}
use borrow.Author.Tests.{le-leb, lt-leb}
use Rattle.rules.specs.Drawing.{Drawing, Boundary, op_count, most_items}
use Rattle.rules.specs.declared.Refusal.{Refusal}
use Rattle.rules.specs.declared.Refusal.TheVariants.{OverLimit, BadLengths, BadValue, BadEntry, TypeMismatchW, TypeMismatchX, NotNaturalW, NotNaturalX, NotNaturalS, NotNaturalT, ShortRoom, BadBoundary, Unplaced, WrongOperation, BadText}
use Rattle.rules.specs.Refusals.{number, first_of, unless, within, boundary_within, bad_lengths, bad_value, bad_boundary, workspace_need}
use Rattle.rules.specs.Calls.{boundary_refusal, two_outputs_refusal, layer_refusal, eval_refusal}
use Rattle.rules.specs.Evaluation.{evaluated, unplaced_op, wrong_operation}
use Rattle.rules.specs.Text.{whole, broken, whole_text, most_bytes}
use Rattle.rules.specs.Program.{operation_lines, values_or_refused, refused_line, answer, drawing_in, boundary_in, values_in, output_of}
use Rattle.rules.proofs.Facts.Tests.{both, first-none, unless-none}

-- by the text
module _ (t : List ℕ) where
  pub output_over : most_bytes < length t → output_of t ≡ refused_line (number OverLimit)
  unfolding output_of
  output_over h = rw (lt-leb (length t) most_bytes h)

  module _ (h : length t ≤ most_bytes) where
    pub output_broken : (ls : List (List ℕ)) (ms : List ℕ) (why : Refusal) → whole_text t ≡ broken ls ms why → output_of t ≡ refused_line (number why)
    unfolding output_of
    output_broken ls ms why e = rw (le-leb (length t) most_bytes h, e)

    pub output_whole : (ls : List (List ℕ)) → whole_text t ≡ whole ls → output_of t ≡ answer (drawing_in ls) (boundary_in ls) (values_in ls)
    unfolding output_of
    output_whole ls e = rw (le-leb (length t) most_bytes h, e)

-- a refusal's number is not 0
number-suc : (r : Refusal) → (k : ℕ) × (number r ≡ suc k)
number-suc OverLimit = (0, refl)
number-suc BadLengths = (1, refl)
number-suc BadValue = (2, refl)
number-suc BadEntry = (3, refl)
number-suc TypeMismatchW = (4, refl)
number-suc TypeMismatchX = (5, refl)
number-suc NotNaturalW = (6, refl)
number-suc NotNaturalX = (7, refl)
number-suc NotNaturalS = (8, refl)
number-suc NotNaturalT = (9, refl)
number-suc ShortRoom = (10, refl)
number-suc BadBoundary = (11, refl)
number-suc Unplaced = (12, refl)
number-suc WrongOperation = (13, refl)
number-suc BadText = (14, refl)

-- by the check of drawing and boundary: refused alone, or the operations' lines and then what `eval` gives
module _ (d : Drawing) (b : Boundary) (values : List ℕ) where
  pub answer_refused : (r : Refusal) → boundary_refusal d b ≡ number r → answer d b values ≡ refused_line (number r)
  unfolding answer
  answer_refused r e = let (k, q) = number-suc r in rw (e, q)

  pub answer_taken : boundary_refusal d b ≡ 0 → answer d b values ≡ operation_lines d ++ values_or_refused (first_of (unplaced_op d ∷ wrong_operation d ∷ [])) (evaluated d b values)
  unfolding answer
  answer_taken e = rw e

pub values_refused : (r : Refusal) (values : List ℕ) → values_or_refused (number r) values ≡ refused_line (number r)
values_refused r values = let (k, q) = number-suc r in rw q

-- The calls: where the check of drawing and boundary passes and there is room, `layer` is not refused, and `eval` only with 13 or 14.
record Passed (d : Drawing) (b : Boundary) : Type 0 where
  drawing-within : within d ≡ true
  boundary-within : boundary_within b ≡ true
  lengths : bad_lengths d ≡ 0
  values : bad_value d ≡ 0
  ends : bad_boundary d b ≡ 0

module _ (d : Drawing) (b : Boundary) (e : boundary_refusal d b ≡ 0) where
  passed : Passed d b
  unfolding boundary_refusal
  passed =
      let p = first-none (unless (within d && boundary_within b) 1) (bad_lengths d ∷ bad_value d ∷ bad_boundary d b ∷ []) e in
      let q = first-none (bad_lengths d) (bad_value d ∷ bad_boundary d b ∷ []) p.1 in
      let r = first-none (bad_value d) (bad_boundary d b ∷ []) q.1 in
      let s = first-none (bad_boundary d b) [] r.1 in
      let w = both (within d) (boundary_within b) (unless-none (within d && boundary_within b) 1 (omega arith) p.0) in
      record { drawing-within = w.0; boundary-within = w.1; lengths = q.0; values = r.0; ends = s.0 }

  pub layer_taken : (orders_room marks_room room : ℕ) → op_count d ≤ orders_room → op_count d ≤ marks_room → workspace_need d ≤ room → layer_refusal d orders_room marks_room room ≡ 0
  unfolding two_outputs_refusal
  layer_taken orders_room marks_room room o m w =
      let p = passed in
      rw (p.drawing-within, p.lengths, p.values, le-leb (op_count d) orders_room o, le-leb (op_count d) marks_room m, le-leb (workspace_need d) room w)

  pub eval_refused : (values : List ℕ) (output_room room : ℕ) → length values ≤ most_items → length b.outputs ≤ output_room → workspace_need d ≤ room
      → eval_refusal d b values output_room room ≡ first_of (unplaced_op d ∷ wrong_operation d ∷ [])
  unfolding eval_refusal
  eval_refused values output_room room v o w =
      let p = passed in
      rw (p.drawing-within, p.boundary-within, le-leb (length values) most_items v, p.lengths, p.values, p.ends, le-leb (length b.outputs) output_room o, le-leb (workspace_need d) room w)
