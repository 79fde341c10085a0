-- What the program writes, from what the reader and the writer did: the laws of the function that calls them.
use Rattle.std.specs.Prelude.{ℕ, ◌≤◌, List, ◌≡◌, refl, Result, Err, length}
use Rattle.std.proofs.Common.{sym, ap, ◌∙◌, arith}
use Rattle.rules.specs.Drawing.{Drawing}
use Rattle.rules.specs.Analysis.{orders, marks}
use Rattle.rules.specs.Refusals.{number}
use Rattle.rules.specs.declared.Refusal.{Refusal}
use Rattle.rules.specs.Text.{Sections, whole, broken, whole_text, most_bytes}
use Rattle.rules.specs.Program.{operation_lines, refused_line, answer, drawing_in, boundary_in, values_in, output_of}
use Rattle.rules.proofs.Facts.Output.{output_broken, output_whole}
use Rattle.rules.proofs.Facts.OutputLong.{orders-length}
use Rattle.text.specs.Reading.{text_answer, ReadText, sections_of}
use Rattle.text.specs.Writing.{operations}
use Rattle.text.proofs.Facts.Parts.{Held}

module _ (t : List ℕ) (h : length t ≤ most_bytes) where
  -- a text that is refused
  pub read_refused : {cs cs' ns ns' : List ℕ} {r : Result (Unit {0}) Refusal} (why : Refusal) → ReadText (whole_text t) cs cs' ns ns' r → r ≡ Err why → output_of t ≡ refused_line (number why)
  read_refused why e q = go (whole_text t) refl (sym q ∙ e.answer)
    where
      go : (s : Sections) → whole_text t ≡ s → Err why ≡ text_answer s → output_of t ≡ refused_line (number why)
      go (whole ls) w a = let z : ◌≡◌ {A = ℕ} 0 1 = cc in absurd (omega arith)
      go (broken ls ms said) w a = let z : said ≡ why = cc in output_broken t h ls ms said w ∙ ap (λ (x : Refusal). refused_line (number x)) z

  -- a text that is read
  pub read_answer : {cs ns : List ℕ} → Held t cs ns → output_of t ≡ answer (drawing_in (sections_of cs ns)) (boundary_in (sections_of cs ns)) (values_in (sections_of cs ns))
  read_answer {cs} {ns} e = output_whole t h (sections_of cs ns) e.same

-- the operations' header and lines, from the orders and marks that `layer` wrote
pub operations_are : (d : Drawing) → operations (orders d) (marks d) ≡ operation_lines d
unfolding operations operation_lines
operations_are d = rw (orders-length d)
