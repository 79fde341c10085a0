use Rattle.std.proofs.Common.{sym, ◌∙◌, arith}
use Rattle.rules.specs.Lent.{drawing_of}
use Rattle.rules.proofs.Facts.Sizes.{counted-listings, zeros, op_size, op_size_fits}
use Rattle.hypergraph.proofs.adjacency.operation_entries.Goals as goal

pub count_values-requires-clause-by_index_2 : goal.count_values-requires-clause-by_index_2
count_values-requires-clause-by_index_2 c = λ v h. omega (arith, zeros 4096 v, c.args.d.now.accepted.sources.room)

pub sum_at-requires : goal.sum_at-requires
sum_at-requires c =
    let a = c.args.d.now.accepted in
    let counted = counted-listings 4096 c.args.d.now.drawing.sources.values.now c.count_values.new.t c.args.d.now.drawing.targets.values.now c.count_values.ensures in
    (λ v m. omega (arith, a.targets.below v m, a.few_nodes, c.count_values.auto.t), omega (arith, counted, op_size_fits (drawing_of c.args.d.now.drawing) a))

pub returns : goal.returns
returns c =
    c.sum_at.ensures
    ∙ counted-listings 4096 c.args.d.now.drawing.sources.values.now c.count_values.new.t c.args.d.now.drawing.targets.values.now c.count_values.ensures
    ∙ sym (op_size (drawing_of c.args.d.now.drawing) c.args.d.now.accepted)
