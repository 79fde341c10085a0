use Rattle.std.proofs.Common.{sym, ◌∙◌, true, false}
use Rattle.rules.proofs.Facts.EvalCall.{fault_unplaced, fault_tested}
use Rattle.rules.proofs.Facts.Tests.{has_any}
use Rattle.eval.proofs.find_fault.Goals as goal

pub returns-then-contains : goal.returns-then-contains
returns-then-contains c = sym (fault_unplaced c.args.marks.now c.args.d.now.drawing.ops.now c.args.d.now.drawing.sources.lengths.now c.args.d.now.drawing.targets.lengths.now (sym (c.contains.ensures.value ∙ has_any c.args.marks.now 1) ∙ c.if-contains.true))

pub returns-then-not-all_suit : goal.returns-then-not-all_suit
returns-then-not-all_suit c = sym (fault_tested c.args.marks.now c.args.d.now.drawing.ops.now c.args.d.now.drawing.sources.lengths.now c.args.d.now.drawing.targets.lengths.now false (sym (c.contains.ensures.value ∙ has_any c.args.marks.now 1) ∙ c.if-contains.false) (sym c.if-not-all_suit.true ∙ c.all_suit.ensures))

pub returns : goal.returns
returns c = sym (fault_tested c.args.marks.now c.args.d.now.drawing.ops.now c.args.d.now.drawing.sources.lengths.now c.args.d.now.drawing.targets.lengths.now true (sym (c.contains.ensures.value ∙ has_any c.args.marks.now 1) ∙ c.if-contains.false) (sym c.if-not-all_suit.false ∙ c.all_suit.ensures))
