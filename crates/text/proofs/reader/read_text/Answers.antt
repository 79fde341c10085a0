use Rattle.std.proofs.Common.{◌≤◌, sym, ◌∙◌, arith, length, get_or, drop_of_length-le}
use Rattle.std.proofs.lemmas.Result.{err_from_is_err_and}
use Rattle.rules.specs.Text.{limits, section_at}
use Rattle.rules.proofs.Facts.Counts.{sum_more}
use Rattle.text.specs.Reading.{kept}
use Rattle.text.proofs.Facts.Sections.{text_more, text_fault, text_end, text_value, text_bad, text_is, section_within}
use Rattle.text.proofs.Facts.Sets.{part-back}
use Rattle.text.proofs.reader.read_text.Goals as goal

pub returns-in_err-count : goal.returns-in_err-count
returns-in_err-count c =
    let l = c.loop-k in
    let t = c.args.text.now in
    let room : l.used ≤ length l.numbers = omega arith in
    let w = part-back l.used l.numbers c.read_section.new.out (kept (section_at (get_or limits l.k 0) t l.at)) room c.read_section.ensures.stored in
    let p = err_from_is_err_and c.from_residual.result c.from_residual.ensures.1 in
    rw (p.1, p.2)
    (text_is _ _ _ _ _ _ (sym l.invariant.1 ∙ text_fault limits t l.counts l.numbers l.k l.used l.at c.loop-k-test.true _ _ (sym c.in_err-count.was ∙ c.read_section.ensures.answer) w))

pub loop-k-preserved : goal.loop-k-preserved
loop-k-preserved c =
    let l = c.loop-k in
    let t = c.args.text.now in
    let room : l.used ≤ length l.numbers = omega arith in
    let w = part-back l.used l.numbers c.read_section.new.out (kept (section_at (get_or limits l.k 0) t l.at)) room c.read_section.ensures.stored in
    let read = sym c.in_ok-count.was ∙ c.read_section.ensures.answer in
    let few = section_within (get_or limits l.k 0) t l.at c.in_ok-count.count c.in_ok-count.end read in
    let more = text_more limits t l.counts l.numbers l.k l.used l.at c.loop-k-test.true _ _ _ read w in
    (omega (arith, few, sum_more limits l.k c.loop-k-test.true), sym more ∙ l.invariant.1)

pub returns-in_err-read_number : goal.returns-in_err-read_number
returns-in_err-read_number c =
    let l = c.loop-k in
    let h = drop_of_length-le limits c.loop-k-test.false in
    let p = err_from_is_err_and c.from_residual-in_err-read_number.result c.from_residual-in_err-read_number.ensures.1 in
    rw (p.1, p.2)
    (text_is _ _ _ _ _ _ (sym l.invariant.1 ∙ text_bad limits c.args.text.now l.counts l.numbers l.k l.used l.at h _ (sym c.read_number.ensures ∙ c.in_err-read_number.was)))

pub returns-in-None : goal.returns-in-None
returns-in-None c =
    let l = c.loop-k in
    let h = drop_of_length-le limits c.loop-k-test.false in
    let here = sym c.read_number.ensures ∙ c.in_ok-read_number.was in
    text_is _ _ _ _ _ _ (sym l.invariant.1 ∙ text_end limits c.args.text.now l.counts l.numbers l.k l.used l.at h (rw c.in-None.is at here))

pub returns-in-Some : goal.returns-in-Some
returns-in-Some c =
    let l = c.loop-k in
    let h = drop_of_length-le limits c.loop-k-test.false in
    let here = sym c.read_number.ensures ∙ c.in_ok-read_number.was in
    text_is _ _ _ _ _ _ (sym l.invariant.1 ∙ text_value limits c.args.text.now l.counts l.numbers l.k l.used l.at h _ _ (rw c.in-Some.is at here))
