-- What lent slices hold, as a drawing, maps and a boundary.
use Rattle.rules.specs.Drawing.{Drawing, Maps, Boundary, drawing, maps, boundary}
use Rattle.rules.specs.declared.lent.Drawing.{Drawing as LentDrawing}
use Rattle.rules.specs.declared.lent.Maps.{Maps as LentMaps}
use Rattle.rules.specs.declared.lent.Boundary.{Boundary as LentBoundary}

abbrev pub drawing_of : LentDrawing → Drawing
drawing_of d = drawing d.nodes.now d.ops.now d.sources.lengths.now d.sources.values.now d.targets.lengths.now d.targets.values.now

abbrev pub maps_of : LentMaps → Maps
maps_of f = maps f.w.entries.now f.w.target f.x.entries.now f.x.target

abbrev pub boundary_of : LentBoundary → Boundary
boundary_of b = boundary b.inputs.now b.outputs.now
