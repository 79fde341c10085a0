use Rattle.std.proofs.Common.{ap, length, arith}
use Rattle.std.proofs.lemmas.List.{length-map}
use Rattle.rules.specs.Lists.{at}
use Rattle.rules.proofs.Facts.Member.{get_or-∈}
use Rattle.operation.proofs.Inputs.get.Goals as goal

pub bounds-memory-places : goal.bounds-memory-places
bounds-memory-places c =
    let places = c.self.inside.places.now in
    c.self.invariant.0 _ (get_or-∈ places c.args.i (omega (arith, ap length c.self.view_is, length-map places (at c.self.inside.memory.now))))
