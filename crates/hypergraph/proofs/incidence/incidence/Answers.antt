use Rattle.std.proofs.Common.{◌+◌, ◌≡◌, ◌∙◌, arith, length, length-take-le}
use Rattle.rules.specs.Lent.{drawing_of}
use Rattle.rules.proofs.Facts.Incident.{Rows, incident}
use Rattle.hypergraph.proofs.incidence.incidence.Goals.{After-place}
use Rattle.hypergraph.proofs.incidence.incidence.Goals as goal

-- the offsets are written, and the owners placed
module _ (c : After-place) where
  long : length c.offsets.new.t ≡ length c.args.d.now.drawing.nodes.now + length c.args.d.now.drawing.ops.now + 1
  long = c.offsets.auto.t ∙ omega (arith, c.split_at_mut-first.ensures.front_len, c.requires)

  cursors_long : length c.place.new.cursors ≡ length c.args.d.now.drawing.nodes.now
  cursors_long = c.place.auto.cursors ∙ length-take-le (length c.args.d.now.drawing.nodes.now) c.offsets.new.t (omega (arith, long))

  rows_long : length c.place.new.rows ≡ length c.args.d.now.drawing.sources.values.now
  rows_long = c.place.auto.rows ∙ omega (arith, c.split_at_mut-rows.ensures.front_len, c.split_at_mut-first.ensures.back_len, c.requires)

pub returns : goal.returns
returns c =
    let rows : Rows (drawing_of c.args.d.now.drawing) c.offsets.new.t c.place.new.cursors c.place.new.rows c.copy.new.t =
    record {
      accepted = c.args.d.now.accepted;
      long = long (goal.at.returns c).After-place;
      same = cursors_long (goal.at.returns c).After-place;
      room = rows_long (goal.at.returns c).After-place;
      offsets = c.offsets.ensures;
      placing = c.place.ensures;
      copied = c.copy.ensures;
    } in
    incident rows
