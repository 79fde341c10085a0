use Rattle.std.proofs.Common.{◌-◌, ◌∙◌, arith, get_or}
use Rattle.rules.proofs.Facts.TextWords.{digits_more, digits_stop, digits_end, worth_more, worth_end, digit_fits, grows, undigited}
use Rattle.text.proofs.Facts.Words.{value_is}
use Rattle.text.proofs.reader.value.Goals as goal

pub returns-then-not-is_ascii_digit : goal.returns-then-not-is_ascii_digit
returns-then-not-is_ascii_digit c =
    rw (undigited c.args.word.now (omega arith) (c.loop-b.invariant.1 ∙ digits_stop c.args.word.now c.loop-b.b-index (omega arith) (cc)))

pub loop-b-preserved : goal.loop-b-preserved
loop-b-preserved c =
    let w = c.args.word.now in
    let i = c.loop-b.b-index in
    let fits = digit_fits (get_or w i 0) (cc) in
    rw c.from.ensures
    (grows c.loop-b.n (get_or w i 0 - 48) i c.loop-b.invariant.0 (omega (arith, fits)), c.loop-b.invariant.1 ∙ digits_more w i (omega arith) (cc), c.loop-b.invariant.2 ∙ worth_more w i (omega arith) c.loop-b.n)

pub returns : goal.returns
returns c =
    let w = c.args.word.now in
    let i = c.loop-b.b-index in
    let digits = c.loop-b.invariant.1 ∙ digits_end w i (omega arith) in
    let worths = c.loop-b.invariant.2 ∙ worth_end w i (omega arith) c.loop-b.n in
    c.or.ensures ∙ value_is w c.loop-b.n c.try_from.result (omega arith) digits worths c.try_from.ensures
