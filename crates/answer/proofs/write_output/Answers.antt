use Rattle.std.proofs.Common.{ℕ, ◌+◌, ◌≤◌, ◌≡◌, refl, ap, arith, length}
use Rattle.rules.specs.Program.{output_of, refused_line, most_written}
use Rattle.rules.proofs.Facts.Writing.{refused_length}
use Rattle.rules.proofs.Facts.OutputLong.{output_long}
use Rattle.text.specs.Reading.{sections_of}
use Rattle.text.proofs.Facts.Parts.{Held}
use Rattle.text.proofs.Facts.Answers.{read_refused, read_answer}
use Rattle.answer.specs.Answering.{answer_in}
use Rattle.answer.proofs.Facts.{wrote_same, read_held, held_nine}
use Rattle.answer.proofs.write_output.Goals.{In-Ok}
use Rattle.answer.proofs.write_output.Goals as goal

-- the text is read whole
module _ (c : In-Ok) where
  read : Held c.args.text.now c.read_text.new.counts c.read_text.new.numbers
  read = read_held c.args.text.now c.read_text.ensures refl refl c.in-Ok.is

  written : output_of c.args.text.now ≡ answer_in (sections_of c.read_text.new.counts c.read_text.new.numbers)
  written = read_answer c.args.text.now (omega arith) read

-- the line of any refusal fits
refused-fits : (k at room : ℕ) → at + most_written ≤ room → at + length (refused_line k) ≤ room
refused-fits k at room h = omega (arith, refused_length k)

pub put_refused-requires : goal.put_refused-requires
put_refused-requires c = refused-fits _ _ _ c.requires

pub put_refused-requires-in-Err : goal.put_refused-requires-in-Err
put_refused-requires-in-Err c = refused-fits _ _ _ c.requires

pub write_sections-requires-clause-nine : goal.write_sections-requires-clause-nine
write_sections-requires-clause-nine c = held_nine (read (goal.at.write_sections-requires-clause-nine c).In-Ok)

pub write_sections-requires-clause-room : goal.write_sections-requires-clause-room
write_sections-requires-clause-room c = omega (arith, ap length (written (goal.at.write_sections-requires-clause-room c).In-Ok), output_long c.args.text.now, c.requires)

pub returns-in-Err : goal.returns-in-Err
returns-in-Err c = wrote_same (read_refused c.args.text.now (omega arith) c.in-Err.reason c.read_text.ensures c.in-Err.is) c.put_refused-in-Err.ensures

pub returns-in-Ok : goal.returns-in-Ok
returns-in-Ok c = wrote_same (written (goal.at.returns-in-Ok c).In-Ok) c.write_sections.ensures
