use Rattle.std.proofs.Common.{ap, sym, ◌∙◌}
use Rattle.rules.specs.Refusals.{refusal_of}
use Rattle.rules.proofs.Facts.ArrowInputs.{validate_handed, validate_behind}
use Rattle.arrow.proofs.validate.validate.Goals as goal

pub returns-in_err-f : goal.returns-in_err-f
returns-in_err-f c = validate_handed _ _ _ c.accept.ensures.refusal c.in_err-f.was c.from_residual.ensures.1

pub returns : goal.returns
returns c =
    let same = c.in_ok-f.ensures.same in
    let inputs-fine = sym c.accept.ensures.refusal ∙ ap refusal_of c.in_ok-f.was in
    record { refusal = c.naturality.ensures ∙ rw (same.0, same.1, same.2) (sym (validate_behind _ _ _ inputs-fine)) }
