-- Laws of the answer: what the calls that it makes leave, and that this is what the rules say.
use Rattle.std.specs.Prelude.{ℕ, ◌≤◌, ◌<◌, List, [], ◌∷◌, ◌++◌, ◌≡◌, refl, Result, Ok, Err, length, get_or, take, drop}
use Rattle.std.proofs.Common.{sym, ap, ◌∙◌, arith}
use Rattle.std.proofs.Math.Decide.{dec_lt}
use Rattle.std.proofs.lemmas.List.{length-map}
use Rattle.std.proofs.Math.Seq.{take-append_seam}
use Rattle.rules.specs.Lists.{range}
use Rattle.rules.specs.Drawing.{Drawing, Boundary, drawing, boundary, op_count, most_items}
use Rattle.rules.specs.Graph.{mark}
use Rattle.rules.specs.Analysis.{orders, marks, op_next}
use Rattle.rules.specs.Refusals.{first_of, number, refusal_of, written}
use Rattle.rules.specs.Evaluation.{evaluated, unplaced_op, wrong_operation}
use Rattle.rules.specs.Calls.{boundary_refusal, layer_refusal}
use Rattle.rules.specs.Promises.{Layer, Eval}
use Rattle.rules.specs.Text.{limits, whole_text, most_counted}
use Rattle.rules.specs.Program.{answer, operation_lines, value_lines, refused_line, output_of, most_words, most_written}
use Rattle.rules.proofs.Facts.Member.{range_length}
use Rattle.rules.proofs.Facts.TextSections.{Fit}
use Rattle.rules.proofs.Facts.Output.{answer_refused, answer_taken, values_refused, layer_taken, eval_refused}
use Rattle.rules.proofs.Facts.OutputLong.{output_long, whole_sized, orders-length, evaluated-length}
use Rattle.rules.proofs.Facts.Refusing.{fine_none, faulty_number}
use Rattle.rules.specs.declared.Refusal.{Refusal}
use Rattle.text.specs.Reading.{ReadText}
use Rattle.text.specs.Writing.{Put, Wrote, operations}
use Rattle.text.specs.declared.writer.Writer.{Writer}
use Rattle.text.proofs.Facts.Parts.{Held, held}
use Rattle.text.proofs.Facts.Answers.{operations_are}
use Rattle.answer.specs.Promise.{Answered}
use Rattle.answer.specs.Answering.{Small, Nine, answer_in, closing}
use Rattle.text.proofs.Facts.Puts.{Rest, rest_start}

-- the same bytes
pub put_same : {xs ys : List ℕ} {at r : ℕ} {out out' : List ℕ} → xs ≡ ys → Put ys at out out' r → Put xs at out out' r
put_same e p = rw e p

pub wrote_same : {xs ys : List ℕ} {old new : Writer} → xs ≡ ys → Wrote ys old new → Wrote xs old new
wrote_same e p = rw e p

-- a list written over the front of a room
front : (refusal : ℕ) (new room room' : List ℕ) (k : ℕ) → refusal ≡ 0 → length new ≡ k → room' ≡ written refusal new room → take k room' ≡ new
front refusal new room room' k z e w = rw (w, z, ← e) (take-append_seam new (drop (length new) room))

-- `layer` is not refused: the fronts of its rooms are the orders and the marks
module _ (d : Drawing) (free : layer_refusal d most_counted most_counted most_words ≡ 0) (few : op_count d ≤ most_counted) where
  module _ {os os' ms ms' ws ws' : List ℕ} {r : Result Unit Refusal} (l : Layer d os os' ms ms' ws ws' r) (ho : length os ≡ most_counted) (hm : length ms ≡ most_counted) (hw : length ws ≡ most_words) where
    layer_fine : refusal_of r ≡ 0
    layer_fine = l.refusal ∙ rw (ho, hm, hw) free

    orders_front : take (op_count d) os' ≡ orders d
    orders_front = front (refusal_of r) (orders d) os os' (op_count d) layer_fine (orders-length d) l.orders'

    marks-length : length (marks d) ≡ op_count d
    marks-length = length-map (range (op_count d)) (mark (op_next d) (op_count d)) ∙ range_length (op_count d)

    marks_front : take (op_count d) ms' ≡ marks d
    marks_front = front (refusal_of r) (marks d) ms ms' (op_count d) layer_fine marks-length l.marks'

    pub layers-lines : operation_lines d ≡ operations (take (op_count d) os') (take (op_count d) ms')
    layers-lines = rw (orders_front, marks_front) (sym (operations_are d))

    pub layers_few : (length (take (op_count d) os') ≤ most_items) × (length (take (op_count d) ms') ≡ length (take (op_count d) os'))
    layers_few = rw (orders_front, marks_front) (omega (arith, orders-length d, few), marks-length ∙ sym (orders-length d))

-- the check of the drawing and the boundary refuses
pub check_refused : (d : Drawing) (b : Boundary) (values : List ℕ) (r : Result Unit Refusal) (why : Refusal) → refusal_of r ≡ boundary_refusal d b → r ≡ Err why → answer d b values ≡ refused_line (number why)
check_refused d b values r why e q = answer_refused d b values why (sym (faulty_number r why e q))

-- it passes, and the lists are small
module _ (d : Drawing) (b : Boundary) (values : List ℕ) (z : boundary_refusal d b ≡ 0) where
  pub check_passed : answer d b values ≡ operation_lines d ++ closing d b values
  unfolding closing
  check_passed = answer_taken d b values z

  pub answer_start : (out : List ℕ) → length (answer d b values) ≤ length out → Rest 0 out (answer d b values) 0 out (operation_lines d ++ closing d b values)
  answer_start out h = rw (← check_passed) (rest_start 0 out (answer d b values) (omega arith))

  module _ (s : Small d b values) where
    pub layer_free : (layer_refusal d most_counted most_counted most_words ≡ 0) × (op_count d ≤ most_counted)
    layer_free = (layer_taken d b z most_counted most_counted most_words s.ops s.ops s.workspace, s.ops)

    -- `eval` is refused with 13 or 14 alone; if not, the front of its room is the values
    module _ {out out' ws ws' : List ℕ} {r : Result Unit Refusal} (e : Eval d b values out out' ws ws' r) (ho : length out ≡ most_counted) (hw : length ws ≡ most_words) where
      eval_number : refusal_of r ≡ first_of (unplaced_op d ∷ wrong_operation d ∷ [])
      eval_number = e.refusal ∙ eval_refused d b z values (length out) (length ws) (omega (arith, s.given)) (omega (arith, s.outputs)) (omega (arith, s.workspace))

      pub closing_refused : (why : Refusal) → r ≡ Err why → closing d b values ≡ refused_line (number why)
      unfolding closing
      closing_refused why q = rw (← faulty_number r why eval_number q) (values_refused why (evaluated d b values))

      values_front : r ≡ Ok tt → take (length b.outputs) out' ≡ evaluated d b values
      values_front q = front (refusal_of r) (evaluated d b values) out out' (length b.outputs) (ap refusal_of q) (evaluated-length d b values) e.output

      pub closing_values : r ≡ Ok tt → closing d b values ≡ value_lines (take (length b.outputs) out')
      unfolding closing
      closing_values q = rw (fine_none r eval_number q, values_front q)

      pub values_few : r ≡ Ok tt → length (take (length b.outputs) out') ≤ most_items
      values_few q = rw (values_front q) (omega (arith, evaluated-length d b values, s.outputs))

-- the nine sections of a whole text
pub read_held : (t : List ℕ) {cs cs' ns ns' : List ℕ} {r : Result (Unit {0}) Refusal} → ReadText (whole_text t) cs cs' ns ns' r → length cs ≡ 9 → length ns ≡ 3840 → r ≡ Ok tt → Held t cs' ns'
read_held t {cs} {cs'} {ns} {ns'} {r} e hc hn q = held t cs cs' ns ns' hc (omega arith) r e q

pub held_nine : {t counts numbers : List ℕ} → Held t counts numbers → Nine counts numbers
held_nine h = record { nine = h.nine; inside = h.inside; few = h.few; fit = h.fit }

module _ (ls : List (List ℕ)) (w x sl sv tl tv inputs outputs values : List ℕ) (e0 : w ≡ get_or ls 0 []) (e1 : x ≡ get_or ls 1 []) (e2 : sl ≡ get_or ls 2 [])
    (e3 : sv ≡ get_or ls 3 []) (e4 : tl ≡ get_or ls 4 []) (e5 : tv ≡ get_or ls 5 []) (e6 : inputs ≡ get_or ls 6 []) (e7 : outputs ≡ get_or ls 7 []) (e8 : values ≡ get_or ls 8 []) where
  pub sections_small : Fit limits ls → Small (drawing w x sl sv tl tv) (boundary inputs outputs) values
  sections_small f =
      let s = whole_sized f in
      rw (e0, e1, e2, e3, e4, e5, e6, e7, e8) (record { ops = s.ops; outputs = s.outputs; given = s.values; workspace = s.workspace })

  pub sections_answer : answer_in ls ≡ answer (drawing w x sl sv tl tv) (boundary inputs outputs) values
  sections_answer = rw (e0, e1, e2, e3, e4, e5, e6, e7, e8)

-- the promise of `answer`: a room that is too small, one that is not
module _ {t out : List ℕ} where
  pub answered_kept : length out < most_written → Answered t out out 0
  answered_kept h = record { written = λ g. absurd (omega (arith, g)); kept = λ _. (refl, refl) }

  pub answered_written : {out' : List ℕ} {r : ℕ} → most_written ≤ length out → Put (output_of t) 0 out out' r → Answered t out out' r
  answered_written h p = record { written = λ _. p; kept = λ g. absurd (omega (arith, g)) }

  -- for who calls it: what is written stands within the room
  pub answer-within : {out' : List ℕ} {r : ℕ} → Answered t out out' r → r ≤ length out
  answer-within {out'} {r} a = go (dec_lt (length out) most_written)
    where
      go : Dec (length out < most_written) → r ≤ length out
      go (yes h) = omega (arith, (a.kept h).1)
      go (no h) = omega (arith, (a.written (omega arith)).next, output_long t)
