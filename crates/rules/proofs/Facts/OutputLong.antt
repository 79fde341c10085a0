-- How large a whole text can be, and a room that holds what the program writes, whatever it reads.
use Rattle.std.specs.Prelude.{ℕ, zero, suc, ◌+◌, ◌*◌, ◌≤◌, Bool, true, false, cond, List, [], ◌∷◌, ◌≡◌, refl, length, leb}
use Rattle.std.proofs.Common.{◌∙◌, arith, length-append}
use Rattle.std.proofs.lemmas.List.{length-map}
use Rattle.rules.specs.Lists.{range}
use Rattle.rules.specs.Drawing.{Drawing, Boundary, node_count, op_count}
use Rattle.rules.specs.Graph.{order}
use Rattle.rules.specs.Analysis.{op_next, orders, marks}
use Rattle.rules.specs.Evaluation.{evaluated, unplaced_op, wrong_operation}
use Rattle.rules.specs.Refusals.{number, first_of, workspace_need}
use Rattle.rules.specs.Calls.{boundary_refusal}
use Rattle.rules.specs.Text.{Sections, whole, broken, whole_text, limits, most_bytes, most_counted}
use Rattle.rules.specs.Program.{most_words, most_written, lines, operations_header, unplaced_count, operation_lines, values_or_refused, operations_or_refused, answer, drawing_in, boundary_in, values_in, answer_to, refused_line, output_of}
use Rattle.rules.specs.declared.Refusal.TheVariants.{OverLimit}
use Rattle.rules.proofs.Facts.Member.{range_length}
use Rattle.rules.proofs.Facts.TextSections.{Fit, whole_fits}
use Rattle.rules.proofs.Facts.Writing.{lines-length, header_length, values_length, refused_length}

-- the lists of a whole text, by their limits
pub record Sized (ls : List (List ℕ)) : Type 0 where
  pub nodes : node_count (drawing_in ls) ≤ most_counted
  pub ops : op_count (drawing_in ls) ≤ most_counted
  pub inputs : length (boundary_in ls).inputs ≤ most_counted
  pub outputs : length (boundary_in ls).outputs ≤ most_counted
  pub values : length (values_in ls) ≤ most_counted
  pub workspace : workspace_need (drawing_in ls) ≤ most_words

pub whole_sized : {ls : List (List ℕ)} → Fit limits ls → Sized ls
whole_sized f =
    record {
      nodes = f.each 0;
      ops = f.each 1;
      inputs = f.each 6;
      outputs = f.each 7;
      values = f.each 8;
      workspace = omega (arith, f.each 0, f.each 1, f.each 3, f.each 5);
    }

pub orders-length : (d : Drawing) → length (orders d) ≡ op_count d
orders-length d = length-map (range (op_count d)) (order (op_next d) (op_count d)) ∙ range_length (op_count d)

operations-length : (d : Drawing) → length (operation_lines d) ≤ 42 + 33 * op_count d
unfolding operation_lines
operations-length d =
    let header = operations_header (op_count d) (unplaced_count (marks d)) in
    omega (arith, length-append header (lines 0 (orders d) (marks d)), header_length (op_count d) (unplaced_count (marks d)), lines-length 0 (orders d) (marks d), orders-length d)

tail_length : (k : ℕ) (vs : List ℕ) → length (values_or_refused k vs) ≤ 19 + 11 * length vs
tail_length zero vs = omega (arith, values_length vs)
tail_length (suc k) vs = omega (arith, refused_length (suc k))

pub evaluated-length : (d : Drawing) (b : Boundary) (values : List ℕ) → length (evaluated d b values) ≡ length b.outputs
unfolding evaluated
evaluated-length d b values = length-map b.outputs _

answer-length : (d : Drawing) (b : Boundary) (values : List ℕ) → length (answer d b values) ≤ 61 + 33 * op_count d + 11 * length b.outputs
unfolding answer
answer-length d b values = go (boundary_refusal d b)
  where
    go : (k : ℕ) → length (operations_or_refused k d b values) ≤ 61 + 33 * op_count d + 11 * length b.outputs
    go zero =
        simp length-append
        (omega (arith, operations-length d, tail_length (first_of (unplaced_op d ∷ wrong_operation d ∷ [])) (evaluated d b values), evaluated-length d b values))
    go (suc k) = omega (arith, refused_length (suc k))

-- WHAT IS WRITTEN FITS
pub output_long : (t : List ℕ) → length (output_of t) ≤ most_written
unfolding output_of
output_long t = go (leb (length t) most_bytes)
  where
    sections : (s : Sections) → whole_text t ≡ s → length (answer_to s) ≤ most_written
    sections (whole ls) e =
        let f = whole_sized (whole_fits t ls e) in
        omega (arith, answer-length (drawing_in ls) (boundary_in ls) (values_in ls), f.ops, f.outputs)
    sections (broken ls ms why) e = omega (arith, refused_length (number why))

    go : (b : Bool) → length (cond b (answer_to (whole_text t)) (refused_line (number OverLimit))) ≤ most_written
    go true = sections (whole_text t) refl
    go false = omega (arith, refused_length (number OverLimit))
