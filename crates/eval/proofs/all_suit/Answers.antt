use Rattle.std.proofs.Common.{below_more, length, arith, sym, ◌∙◌}
use Rattle.rules.proofs.Facts.EvalCall.{all-range, all_fails}
use Rattle.rules.specs.Inner.Evaluating.{suits_by}
use Rattle.eval.proofs.all_suit.Goals as goal

pub returns-then-not-suits : goal.returns-then-not-suits
returns-then-not-suits c = sym (all_fails (suits_by c.args.d.now.drawing.ops.now c.args.d.now.drawing.sources.lengths.now c.args.d.now.drawing.targets.lengths.now) (length c.args.d.now.drawing.ops.now) c.loop-e.e c.loop-e-test.true (sym c.suits.ensures ∙ c.if-not-suits.true))

pub loop-e-preserved : goal.loop-e-preserved
loop-e-preserved c = below_more _ _ c.loop-e.invariant (sym c.suits.ensures ∙ c.if-not-suits.false)

pub returns : goal.returns
returns c = sym (all-range (suits_by c.args.d.now.drawing.ops.now c.args.d.now.drawing.sources.lengths.now c.args.d.now.drawing.targets.lengths.now) (length c.args.d.now.drawing.ops.now) (λ k h. c.loop-e.invariant k (omega arith)))
