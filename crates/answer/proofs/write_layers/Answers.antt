use Rattle.std.proofs.Common.{◌≡◌, refl, take, ap, arith, length}
use Rattle.rules.specs.Drawing.{op_count}
use Rattle.rules.specs.Lent.{drawing_of}
use Rattle.rules.specs.Program.{operation_lines}
use Rattle.text.specs.Writing.{operations}
use Rattle.answer.proofs.Facts.{wrote_same, layers-lines, layers_few}
use Rattle.answer.proofs.write_layers.Goals.{After-layer}
use Rattle.answer.proofs.write_layers.Goals as goal

-- what `layer` left
module _ (c : After-layer) where
  written : operation_lines (drawing_of c.args.d.now) ≡ operations (take (op_count (drawing_of c.args.d.now)) c.layer.new.orders) (take (op_count (drawing_of c.args.d.now)) c.layer.new.marks)
  written = layers-lines (drawing_of c.args.d.now) c.requires.taken.0 c.requires.taken.1 c.layer.ensures refl refl refl

pub put_operations-requires-clause-room : goal.put_operations-requires-clause-room
put_operations-requires-clause-room c = omega (arith, ap length (written (goal.at.put_operations-requires-clause-room c).After-layer), c.requires.room)

pub put_operations-requires-clause-few : goal.put_operations-requires-clause-few
put_operations-requires-clause-few c = layers_few (drawing_of c.args.d.now) c.requires.taken.0 c.requires.taken.1 c.layer.ensures refl refl refl

pub returns : goal.returns
returns c = wrote_same (written (goal.at.returns c).After-layer) c.put_operations.ensures
