-- Document 01, 'The text and its program': what `evaluate` writes, byte for byte.
use Rattle.std.specs.Prelude.{ℕ, zero, suc, ◌+◌, ◌/◌, ◌%◌, cond, List, [], ◌∷◌, ◌++◌, length, get_or, eqb, ltb, leb}
use Rattle.rules.specs.Chars.{bytes}
use Rattle.rules.specs.Lists.{those}
use Rattle.rules.specs.Drawing.{Drawing, Boundary, drawing, boundary, op_count}
use Rattle.rules.specs.Refusals.{number, first_of}
use Rattle.rules.specs.Analysis.{orders, marks}
use Rattle.rules.specs.Evaluation.{evaluated, unplaced_op, wrong_operation}
use Rattle.rules.specs.Calls.{boundary_refusal}
use Rattle.rules.specs.Text.{Sections, whole, broken, whole_text, most_bytes}
use Rattle.rules.specs.declared.Refusal.TheVariants.{OverLimit}

-- the last digits of n: as many as it has, or as the first number says
unfoldable pub spelled : ℕ → ℕ → List ℕ
spelled zero n = []
spelled (suc k) n = cond (ltb n 10) ((48 + n) ∷ []) (spelled k (n / 10) ++ ((48 + n % 10) ∷ []))

-- a number in decimal: below 2^32 it has at most ten digits
unfoldable pub decimal : ℕ → List ℕ
decimal n = spelled 10 n

-- a number, and a byte behind it: a space is 32, a line's end 10
abbrev pub item : ℕ → ℕ → List ℕ
item n b = decimal n ++ (b ∷ [])

-- Per operation a line: its number, order, mark. `lines` has those of the operations from e on.
abbrev pub line : ℕ → ℕ → ℕ → List ℕ
line e o m = item e 32 ++ (item o 32 ++ item m 10)

unfoldable pub lines : ℕ → List ℕ → List ℕ → List ℕ
lines e [] ms = []
lines e (o ∷ os) [] = []
lines e (o ∷ os) (m ∷ ms) = line e o m ++ lines (e + 1) os ms

-- A header with m and the number of marks equal to 1, then the operations' lines.
abbrev pub operations_header : ℕ → ℕ → List ℕ
operations_header m unplaced = bytes "operations " ++ (item m 32 ++ (bytes "unplaced " ++ item unplaced 10))

abbrev pub unplaced_count : List ℕ → ℕ
unplaced_count ms = length (those (λ k. eqb k 1) ms)

unfoldable pub operation_lines : Drawing → List ℕ
operation_lines d = operations_header (op_count d) (unplaced_count (marks d)) ++ lines 0 (orders d) (marks d)

-- A header with the output count, then one value a line.
unfoldable pub column : List ℕ → List ℕ
column [] = []
column (v ∷ vs) = item v 10 ++ column vs

abbrev pub value_lines : List ℕ → List ℕ
value_lines vs = bytes "values " ++ (item (length vs) 10 ++ column vs)

-- `refused N`
abbrev pub refused_line : ℕ → List ℕ
refused_line k = bytes "refused " ++ item k 10

-- The checks of the drawing and the boundary (2, 3, 12) are refused alone; for 13 and 14 the operations header and lines come first.
abbrev pub values_or_refused : ℕ → List ℕ → List ℕ
values_or_refused zero values = value_lines values
values_or_refused (suc k) values = refused_line (suc k)

abbrev pub operations_or_refused : ℕ → Drawing → Boundary → List ℕ → List ℕ
operations_or_refused zero d b values = operation_lines d ++ values_or_refused (first_of (unplaced_op d ∷ wrong_operation d ∷ [])) (evaluated d b values)
operations_or_refused (suc k) d b values = refused_line (suc k)

unfoldable pub answer : Drawing → Boundary → List ℕ → List ℕ
answer d b values = operations_or_refused (boundary_refusal d b) d b values

-- what sections hold
abbrev pub drawing_in : List (List ℕ) → Drawing
drawing_in ls = drawing (get_or ls 0 []) (get_or ls 1 []) (get_or ls 2 []) (get_or ls 3 []) (get_or ls 4 []) (get_or ls 5 [])

abbrev pub boundary_in : List (List ℕ) → Boundary
boundary_in ls = boundary (get_or ls 6 []) (get_or ls 7 [])

abbrev pub values_in : List (List ℕ) → List ℕ
values_in ls = get_or ls 8 []

abbrev pub answer_to : Sections → List ℕ
answer_to (whole ls) = answer (drawing_in ls) (boundary_in ls) (values_in ls)
answer_to (broken ls ms why) = refused_line (number why)

-- Over 65,536 bytes gives 1; otherwise the first fault from the left, then the checks, then the answer.
unfoldable pub output_of : List ℕ → List ℕ
output_of t = cond (leb (length t) most_bytes) (answer_to (whole_text t)) (refused_line (number OverLimit))

-- the words of workspace that a drawing in a text can need: 8 (256 + 256) + 2 (1024 + 1024) + 8
abbrev pub most_words : ℕ
most_words = 8200

-- the room for what is written
abbrev pub most_written : ℕ
most_written = 16384
