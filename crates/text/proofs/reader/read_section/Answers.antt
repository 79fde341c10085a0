use Rattle.std.proofs.Common.{◌≤◌, length, refl, sym, ◌∙◌, arith}
use Rattle.std.proofs.lemmas.Result.{err_from_is_err_and}
use Rattle.text.proofs.Facts.Sections.{section_fault, section_next, section_long, section_stored, section_done, section_broken}
use Rattle.text.proofs.reader.read_section.Goals as goal

pub returns-in_err-count : goal.returns-in_err-count
returns-in_err-count c =
    let p = err_from_is_err_and c.from_residual.result c.from_residual.ensures.1 in
    rw (p.1, p.2, section_fault c.args.limit c.args.text.now c.args.at _ (sym c.read_next.ensures ∙ c.in_err-count.was)) record { answer = refl; stored = refl }

pub returns-then-limit-count : goal.returns-then-limit-count
returns-then-limit-count c =
    rw (section_long c.args.limit c.args.text.now c.args.at _ _ (sym c.read_next.ensures ∙ c.in_ok-count.was) c.if-limit-count.true) record { answer = refl; stored = refl }

pub returns-in_err-end : goal.returns-in_err-end
returns-in_err-end c =
    let p = err_from_is_err_and c.from_residual-in_err-end.result c.from_residual-in_err-end.ensures.1 in
    let n = c.in_ok-count.count in
    let t = c.args.text.now in
    let room : n ≤ length c.args.out.now = omega arith in
    rw (p.1, p.2, section_next c.args.limit t c.args.at n _ (sym c.read_next.ensures ∙ c.in_ok-count.was) (omega arith))
    record {
      answer = section_broken n t c.in_ok-count.at c.args.out.now room _ (sym c.in_err-end.was ∙ c.read_numbers.ensures.end);
      stored = section_stored n t c.in_ok-count.at c.args.out.now room c.read_numbers.ensures.stored;
    }

pub returns : goal.returns
returns c =
    let n = c.in_ok-count.count in
    let t = c.args.text.now in
    let room : n ≤ length c.args.out.now = omega arith in
    rw (section_next c.args.limit t c.args.at n _ (sym c.read_next.ensures ∙ c.in_ok-count.was) (omega arith))
    record {
      answer = section_done n t c.in_ok-count.at c.args.out.now room _ (sym c.in_ok-end.was ∙ c.read_numbers.ensures.end);
      stored = section_stored n t c.in_ok-count.at c.args.out.now room c.read_numbers.ensures.stored;
    }
