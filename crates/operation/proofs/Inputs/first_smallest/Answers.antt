use Rattle.std.proofs.Common.{◌≡◌, length, sym, arith}
use Rattle.rules.proofs.Facts.Operating.{firsts_end}
use Rattle.operation.proofs.Inputs.first_smallest.Goals as goal

pub returns : goal.returns
returns c =
    let e : c.loop-i.i ≡ length c.args.self.now = omega arith in
    sym (firsts_end c.args.self.now c.loop-i.best (rw e at c.loop-i.invariant))
