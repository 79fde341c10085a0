use Rattle.std.proofs.Common.{Ok, arith, ◌≡◌, sym, ℕ, ◌+◌, ◌-◌}
use Rattle.rules.proofs.Facts.EvalCall.{late_here, late_none, attempt_refused, attempt_run}
use Rattle.rules.proofs.Facts.Refusing.{fine_none, faulty_number, handed}
use Rattle.rules.specs.Inner.Evaluating.{late_by, late_refusal}
use Rattle.rules.specs.Drawing.{Drawing, Boundary, op_count}
use Rattle.rules.specs.Lent.{drawing_of, boundary_of}
use Rattle.rules.specs.Lists.{seg}
use Rattle.eval.proofs.attempt.Goals.{After-find_fault}
use Rattle.eval.proofs.attempt.Goals as goal

-- the layers stand, and 13 and 14 are decided
module _ (c : After-find_fault) where
  abbrev d : Drawing
  d = drawing_of c.args.page.now.drawing.drawing

  abbrev b : Boundary
  b = boundary_of c.args.page.now.boundary

  decided : (k : ℕ) → k ≡ late_by (seg (op_count d) (op_count d + op_count d - op_count d) c.sort_operations.new.ws) d.ops d.source_lengths d.target_lengths → k ≡ late_refusal d
  decided k q = late_here d b c.args.page.now.values.now c.args.out.now c.args.ws.now c.sort_operations.new.ws c.args.page.now.drawing.accepted c.sort_operations.ensures (op_count d + op_count d - op_count d) k (omega arith) q

  none : c.find_fault.result ≡ Ok tt → late_refusal d ≡ 0
  none q = sym (decided 0 (sym (fine_none c.find_fault.result c.find_fault.ensures q)))

pub returns-in_err-find_fault : goal.returns-in_err-find_fault
returns-in_err-find_fault c =
    let at = (goal.at.returns-in_err-find_fault c).After-find_fault in
    rw (handed c.from_residual.ensures.1)
    (attempt_refused (d at) (b at) c.args.page.now.values.now c.args.out.now c.args.ws.now c.sort_operations.new.ws c.args.page.now.drawing.accepted c.sort_operations.ensures _
    (decided at _ (faulty_number c.find_fault.result _ c.find_fault.ensures c.in_err-find_fault.was)))

pub compute-requires-clause-suited : goal.compute-requires-clause-suited
compute-requires-clause-suited c =
    let at = (goal.at.compute-requires-clause-suited c).After-find_fault in
    late_none (d at) c.args.page.now.drawing.accepted (none at c.in_ok-find_fault.was)

pub returns : goal.returns
returns c =
    let at = (goal.at.returns c).After-find_fault in
    attempt_run (d at) (b at) c.args.page.now.values.now c.args.out.now c.args.ws.now c.sort_operations.new.ws c.args.page.now.drawing.accepted c.sort_operations.ensures c.compute.new.out c.compute.new.ws (none at c.in_ok-find_fault.was) c.requires.out_len c.compute.ensures.0 c.compute.ensures.1
