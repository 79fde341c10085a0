use Rattle.std.proofs.Common.{◌≡◌}
use Rattle.rules.specs.Lent.{drawing_of, boundary_of}
use Rattle.rules.specs.Refusals.{workspace_need}
use Rattle.rules.specs.Inner.Evaluating.{input_refusal}
use Rattle.rules.proofs.Facts.EvalCall.{eval_faulty, eval_short, eval_done, early_none}
use Rattle.rules.proofs.Facts.Refusing.{fine_none, faulty_number, handed}
use Rattle.eval.proofs.eval.Goals.{After-workspace_need-words}
use Rattle.eval.proofs.eval.Goals as goal

-- what is lent is valid, and the words that it needs are known
module _ (c : After-workspace_need-words) where
  fine : input_refusal (drawing_of c.args.d.now) (boundary_of c.args.b.now) c.args.values.now ≡ 0
  fine = fine_none c.accept.result c.accept.ensures.refusal c.in_ok-page.was

  words_are : c.workspace_need-words.result ≡ workspace_need (drawing_of c.args.d.now)
  words_are = rw c.in_ok-page.ensures.same.0 at c.workspace_need-words.ensures

pub returns-in_err-page : goal.returns-in_err-page
returns-in_err-page c =
    rw (handed c.from_residual.ensures.1)
    (eval_faulty (drawing_of c.args.d.now) (boundary_of c.args.b.now) c.args.values.now c.args.out.now c.args.ws.now _ (faulty_number c.accept.result _ c.accept.ensures.refusal c.in_err-page.was))

pub returns-then-out-count : goal.returns-then-out-count
returns-then-out-count c =
    let at = (goal.at.returns-then-out-count c).After-workspace_need-words in
    eval_short (drawing_of c.args.d.now) (boundary_of c.args.b.now) c.args.values.now c.args.out.now c.args.ws.now (fine at) (rw (words_are at) at c.if-out-count.true)

pub returns : goal.returns
returns c =
    let at = (goal.at.returns c).After-workspace_need-words in
    let same = c.in_ok-page.ensures.same in
    eval_done (drawing_of c.args.d.now) (boundary_of c.args.b.now) c.args.values.now c.args.out.now c.args.ws.now c.evaluate.new.out c.evaluate.new.ws c.evaluate.result c.workspace_need-words.result (words_are at)
    (early_none (drawing_of c.args.d.now) (boundary_of c.args.b.now) c.args.values.now c.args.out.now c.args.ws.now (fine at) (rw (words_are at) at c.if-out-count.false))
    (rw (same.0, same.1, same.2) at c.evaluate.ensures)
