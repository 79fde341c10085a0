use Rattle.std.proofs.Common.{get_or, arith, ◌<◌}
use Rattle.rules.proofs.Facts.Evaluating.{scattering_next, scattering_end}
use Rattle.rules.proofs.Facts.Member.{get_or-∈}
use Rattle.memory.proofs.scatter_within.Goals as goal

pub bounds-ws-base : goal.bounds-ws-base
bounds-ws-base c =
    let below : get_or c.args.places.now c.loop-i.i 0 < c.args.n = c.requires.0 _ (get_or-∈ c.args.places.now c.loop-i.i c.loop-i-test.true) in
    omega arith

pub loop-i-preserved : goal.loop-i-preserved
loop-i-preserved c = scattering_next c.args.base c.args.n c.args.from c.args.places.now c.args.ws.now c.requires.0 c.requires.1 c.requires.2 c.loop-i.ws c.loop-i.i c.loop-i.invariant c.loop-i-test.true

pub returns : goal.returns
returns c = scattering_end c.args.base c.args.n c.args.from c.args.places.now c.args.ws.now c.requires.0 c.requires.1 c.requires.2 c.loop-i.ws c.loop-i.i c.loop-i.invariant c.loop-i-test.false
