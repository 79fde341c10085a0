use Rattle.std.proofs.Common.{◌≡◌, ◌++◌, ap, arith, length, length-append}
use Rattle.rules.specs.Lent.{drawing_of, boundary_of}
use Rattle.rules.specs.Refusals.{number}
use Rattle.rules.specs.Program.{answer, operation_lines, refused_line}
use Rattle.rules.specs.Calls.{boundary_refusal}
use Rattle.rules.proofs.Facts.Refusing.{fine_none}
use Rattle.text.proofs.Facts.Puts.{wrote_then}
use Rattle.answer.specs.Answering.{closing}
use Rattle.answer.proofs.Facts.{wrote_same, check_refused, check_passed, layer_free}
use Rattle.answer.proofs.write_answer.Goals.{In-Err, In-Ok}
use Rattle.answer.proofs.write_answer.Goals as goal

-- the check refuses
module _ (c : In-Err) where
  refused : answer (drawing_of c.args.d.now) (boundary_of c.args.b.now) c.args.values.now ≡ refused_line (number c.in-Err.why)
  refused = check_refused (drawing_of c.args.d.now) (boundary_of c.args.b.now) c.args.values.now c.check_boundary.result c.in-Err.why c.check_boundary.ensures.refusal c.in-Err.is

-- it passes
module _ (c : In-Ok) where
  passed : boundary_refusal (drawing_of c.args.d.now) (boundary_of c.args.b.now) ≡ 0
  passed = fine_none c.check_boundary.result c.check_boundary.ensures.refusal c.in-Ok.is

  parts : answer (drawing_of c.args.d.now) (boundary_of c.args.b.now) c.args.values.now ≡ operation_lines (drawing_of c.args.d.now) ++ closing (drawing_of c.args.d.now) (boundary_of c.args.b.now) c.args.values.now
  parts = check_passed (drawing_of c.args.d.now) (boundary_of c.args.b.now) c.args.values.now passed

  long : length (answer (drawing_of c.args.d.now) (boundary_of c.args.b.now) c.args.values.now) ≡ length (operation_lines (drawing_of c.args.d.now) ++ closing (drawing_of c.args.d.now) (boundary_of c.args.b.now) c.args.values.now)
  long = ap length parts

pub put_refused-requires : goal.put_refused-requires
put_refused-requires c = omega (arith, ap length (refused (goal.at.put_refused-requires c).In-Err), c.requires.room)

pub write_layers-requires-clause-taken : goal.write_layers-requires-clause-taken
write_layers-requires-clause-taken c =
    layer_free (drawing_of c.args.d.now) (boundary_of c.args.b.now) c.args.values.now (passed (goal.at.write_layers-requires-clause-taken c).In-Ok) c.requires.small

pub write_layers-requires-clause-room : goal.write_layers-requires-clause-room
write_layers-requires-clause-room c = omega (arith, long (goal.at.write_layers-requires-clause-room c).In-Ok, length-append (operation_lines (drawing_of c.args.d.now)) (closing (drawing_of c.args.d.now) (boundary_of c.args.b.now) c.args.values.now), c.requires.room)

pub write_closing-requires-clause-passed : goal.write_closing-requires-clause-passed
write_closing-requires-clause-passed c = passed (goal.at.write_closing-requires-clause-passed c).In-Ok

pub write_closing-requires-clause-room : goal.write_closing-requires-clause-room
write_closing-requires-clause-room c =
    omega (arith, long (goal.at.write_closing-requires-clause-room c).In-Ok, length-append (operation_lines (drawing_of c.args.d.now)) (closing (drawing_of c.args.d.now) (boundary_of c.args.b.now) c.args.values.now), c.requires.room, c.write_layers.ensures.puts.next, c.write_layers.ensures.long)

pub returns-in-Err : goal.returns-in-Err
returns-in-Err c = wrote_same (refused (goal.at.returns-in-Err c).In-Err) c.put_refused.ensures

pub returns-in-Ok : goal.returns-in-Ok
returns-in-Ok c = wrote_same (parts (goal.at.returns-in-Ok c).In-Ok) (wrote_then {xs = operation_lines (drawing_of c.args.d.now)} c.write_layers.ensures c.write_closing.ensures)
