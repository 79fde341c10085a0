use Rattle.std.proofs.Common.{◌≡◌, refl, length, take, ap, arith}
use Rattle.rules.specs.Lent.{drawing_of, boundary_of}
use Rattle.rules.specs.Refusals.{number}
use Rattle.rules.specs.Program.{value_lines, refused_line}
use Rattle.answer.specs.Answering.{closing}
use Rattle.answer.proofs.Facts.{wrote_same, closing_refused, closing_values, values_few}
use Rattle.answer.proofs.write_closing.Goals.{In-Err, In-Ok}
use Rattle.answer.proofs.write_closing.Goals as goal

-- `eval` refuses
module _ (c : In-Err) where
  refused : closing (drawing_of c.args.d.now) (boundary_of c.args.b.now) c.args.values.now ≡ refused_line (number c.in-Err.fault)
  refused = closing_refused (drawing_of c.args.d.now) (boundary_of c.args.b.now) c.args.values.now c.requires.passed c.requires.small c.eval.ensures refl refl c.in-Err.fault c.in-Err.is

-- it does not
module _ (c : In-Ok) where
  written : closing (drawing_of c.args.d.now) (boundary_of c.args.b.now) c.args.values.now ≡ value_lines (take (length c.args.b.now.outputs.now) c.eval.new.out)
  written = closing_values (drawing_of c.args.d.now) (boundary_of c.args.b.now) c.args.values.now c.requires.passed c.requires.small c.eval.ensures refl refl c.in-Ok.is

pub put_refused-requires : goal.put_refused-requires
put_refused-requires c = omega (arith, ap length (refused (goal.at.put_refused-requires c).In-Err), c.requires.room)

pub put_values-requires-clause-room : goal.put_values-requires-clause-room
put_values-requires-clause-room c = omega (arith, ap length (written (goal.at.put_values-requires-clause-room c).In-Ok), c.requires.room)

pub put_values-requires-clause-few : goal.put_values-requires-clause-few
put_values-requires-clause-few c = values_few (drawing_of c.args.d.now) (boundary_of c.args.b.now) c.args.values.now c.requires.passed c.requires.small c.eval.ensures refl refl c.in-Ok.is

pub returns-in-Err : goal.returns-in-Err
returns-in-Err c = wrote_same (refused (goal.at.returns-in-Err c).In-Err) c.put_refused.ensures

pub returns-in-Ok : goal.returns-in-Ok
returns-in-Ok c = wrote_same (written (goal.at.returns-in-Ok c).In-Ok) c.put_values.ensures
