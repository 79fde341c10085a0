use Rattle.std.proofs.Common.{sym, ◌∙◌, arith}
use Rattle.rules.specs.Lent.{drawing_of}
use Rattle.rules.proofs.Facts.Sizes.{node_size_fits, node_size}
use Rattle.hypergraph.proofs.adjacency.node_entries.Goals as goal

pub dot-requires : goal.dot-requires
dot-requires c =
    let a = c.args.d.now.accepted in
    (a.sources.count ∙ sym a.targets.count, omega (arith, node_size_fits (drawing_of c.args.d.now.drawing) a))

pub returns : goal.returns
returns c = c.dot.ensures ∙ sym (node_size (drawing_of c.args.d.now.drawing) c.args.d.now.accepted)
