use Rattle.std.proofs.Common.{List, ◌≡◌, ℕ, ◌≤◌, length, drop, min, sym, ◌∙◌, arith}
use Rattle.rules.specs.Evaluation.{store_all}
use Rattle.rules.proofs.Facts.Evaluating.{store_more, store_end, store_out}
use Rattle.rules.proofs.Facts.Member.{get_or-∈}
use Rattle.memory.proofs.scatter.Goals as goal

-- at the end of the shorter list nothing is left to store
stop : (places values memory : List ℕ) (i : ℕ) → min (length places) (length values) ≤ i → store_all (drop i places) (drop i values) memory ≡ memory
stop places values memory i e = grind (arith, store_end, store_out)

-- of whatever place is named, so that another place than the loop's is refused for what is stored there
pub bounds-memory-places : goal.bounds-memory-places
bounds-memory-places c = rw c.loop-i.auto.memory (c.requires _ (get_or-∈ c.args.places.now _ (omega (arith, c.loop-i-test.true))))

pub loop-i-preserved : goal.loop-i-preserved
loop-i-preserved c =
    let next = sym (store_more c.args.places.now c.args.values.now c.loop-i.memory c.loop-i.i (omega (arith, c.loop-i-test.true)) (omega (arith, c.loop-i-test.true))) ∙ c.loop-i.invariant in
    grind (arith, next)

pub returns : goal.returns
returns c = sym (stop c.args.places.now c.args.values.now c.loop-i.memory c.loop-i.i (omega (arith, c.loop-i-test.false))) ∙ c.loop-i.invariant
