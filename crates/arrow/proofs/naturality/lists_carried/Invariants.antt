use Rattle.std.proofs.Common.{ℕ, ◌<◌, true, ◌≡◌, take}
use Rattle.rules.specs.Lists.{sum}
use Rattle.rules.specs.Inner.Arrow.{carried_list}
use Rattle.arrow.proofs.naturality.lists_carried.Given as goal

abbrev pub invariant-loop-e : goal.invariant-loop-e
invariant-loop-e l = (l.from ≡ sum (take l.e l.c.lengths.now)) × ((i : ℕ) → i < l.e → carried_list l.f.w.entries.now l.f.x.entries.now l.c.lengths.now l.c.values.now l.d.lengths.now l.d.values.now i ≡ true)
