use Rattle.std.proofs.Common.{sym, ◌∙◌, arith}
use Rattle.std.proofs.lemmas.Result.{err_from_is_err_and}
use Rattle.text.proofs.Facts.Numbers.{finish_more, finish_fault, finish_end, read_end, read_stored, same_again}
use Rattle.text.proofs.reader.read_numbers.Goals as goal

pub returns-in_err-n : goal.returns-in_err-n
returns-in_err-n c =
    let l = c.loop-x in
    let p = err_from_is_err_and c.from_residual.result c.from_residual.ensures.1 in
    let e = sym l.invariant ∙ finish_fault c.args.text.now _ l.x-index l.at l.out (omega arith) _ (sym c.read_next.ensures ∙ c.in_err-n.was) in
    rw (p.1, p.2, same_again l.out l.x-index (omega arith)) record { end = read_end _ _ _ _ e; stored = read_stored _ _ _ _ e }

pub loop-x-preserved : goal.loop-x-preserved
loop-x-preserved c =
    let l = c.loop-x in
    sym (finish_more c.args.text.now _ l.x-index l.at l.out (omega arith) _ _ (sym c.read_next.ensures ∙ c.in_ok-n.was)) ∙ l.invariant

pub returns : goal.returns
returns c =
    let l = c.loop-x in
    let e = sym l.invariant ∙ finish_end c.args.text.now _ l.x-index l.at l.out (omega arith) in
    record { end = read_end _ _ _ _ e; stored = read_stored _ _ _ _ e }
