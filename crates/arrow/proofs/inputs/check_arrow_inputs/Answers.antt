use Rattle.std.proofs.Common.{ap, ◌∙◌}
use Rattle.rules.specs.Refusals.{refusal_of}
use Rattle.rules.proofs.Facts.Refusing.{fine_none, faulty_number, handed}
use Rattle.rules.proofs.Facts.ArrowInputs.{target_refused}
use Rattle.arrow.proofs.inputs.check_arrow_inputs.Goals as goal

pub returns-in_err-check_lists-2 : goal.returns-in_err-check_lists-2
returns-in_err-check_lists-2 c =
    ap refusal_of (handed c.from_residual-in_err-check_lists-2.ensures.1)
    ∙ target_refused _ _ _ _ (cc) (fine_none c.check_lists.result c.check_lists.ensures c.in_ok-check_lists.was) (faulty_number c.check_lists-2.result _ c.check_lists-2.ensures c.in_err-check_lists-2.was)
