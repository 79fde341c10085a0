use Rattle.std.proofs.Common.{◌≡◌, true}
use Rattle.rules.specs.Lent.{drawing_of, boundary_of}
use Rattle.rules.specs.Inner.Checks.{boundary_lists_refusal}
use Rattle.rules.proofs.Facts.EvalCall.{limits, checked_drawing, checked_boundary}
use Rattle.rules.proofs.Facts.Refusing.{fine_none}
use Rattle.eval.proofs.accept.Goals.{In_ok-check_boundary_lists}
use Rattle.eval.proofs.accept.Goals as goal

-- what has passed the checks is within its limits, and its lists are fine
module _ (c : In_ok-check_boundary_lists) where
  held : limits (drawing_of c.args.d.now) (boundary_of c.args.b.now) c.args.values.now ≡ true
  held = rw (← c.counts_within.ensures, ← c.boundary_within.ensures) c.if-not-counts_within-boundary_within.false

  lists : boundary_lists_refusal (drawing_of c.args.d.now) (boundary_of c.args.b.now) ≡ 0
  lists = fine_none c.check_boundary_lists.result c.check_boundary_lists.ensures c.in_ok-check_boundary_lists.was

pub invariant_of-result : goal.invariant_of-result
invariant_of-result c =
    let at = (goal.at.invariant_of-result c).In_ok-check_boundary_lists in
    record { accepted = checked_drawing (drawing_of c.args.d.now) (boundary_of c.args.b.now) c.args.values.now (held at) (lists at) }

pub invariant_of-result-2 : goal.invariant_of-result-2
invariant_of-result-2 c =
    let at = (goal.at.invariant_of-result-2 c).In_ok-check_boundary_lists in
    record { accepted = checked_boundary (drawing_of c.args.d.now) (boundary_of c.args.b.now) c.args.values.now (held at) (lists at) }
