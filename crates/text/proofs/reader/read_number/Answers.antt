use Rattle.std.proofs.Common.{sym, ◌∙◌}
use Rattle.std.proofs.lemmas.Result.{err_from_is_err_and}
use Rattle.text.proofs.Facts.Words.{none_here, word_here, word_fine, word_bad}
use Rattle.text.proofs.reader.read_number.Goals as goal

pub returns-then-len-eq0 : goal.returns-then-len-eq0
returns-then-len-eq0 c =
    sym (none_here c.args.text.now c.args.at c.min.result c.blank_len-start.result c.word_len-len.result c.min.ensures c.blank_len-start.ensures.count c.word_len-len.ensures.count c.if-len-eq0.true)

pub returns-in_err-n : goal.returns-in_err-n
returns-in_err-n c =
    let p = err_from_is_err_and c.from_residual.result c.from_residual.ensures.1 in
    rw (p.1, p.2)
    (sym (word_here c.args.text.now c.args.at c.min.result c.blank_len-start.result c.word_len-len.result c.min.ensures c.blank_len-start.ensures.count c.word_len-len.ensures.count c.if-len-eq0.false
    ∙ word_bad _ _ _ (sym c.value.ensures ∙ c.in_err-n.was)))

pub returns : goal.returns
returns c =
    sym (word_here c.args.text.now c.args.at c.min.result c.blank_len-start.result c.word_len-len.result c.min.ensures c.blank_len-start.ensures.count c.word_len-len.ensures.count c.if-len-eq0.false
    ∙ word_fine _ _ _ (sym c.value.ensures ∙ c.in_ok-n.was))
