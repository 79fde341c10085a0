use Rattle.std.proofs.Common.{sym, ◌∙◌, rules, tests}
use Rattle.std.proofs.lemmas.Iterator.{YieldsList-from_slice}
use Rattle.std.proofs.lemmas.Iterator.Search.{position_from_yields_List}
use Rattle.rules.specs.Text.{separator}
use Rattle.text.proofs.Facts.Words.{word_place, place_or_end}
use Rattle.text.proofs.reader.word_len.Goals as goal

pub returns-clause-count : goal.returns-clause-count
returns-clause-count c =
    let found = position_from_yields_List separator _ _ _ c.position.ensures.ran (YieldsList-from_slice c.args.text.now c.iter.ensures.rest) (λ x b q k. search (rules, tests)) in
    c.unwrap_or.ensures ∙ place_or_end separator c.args.text.now c.position.result found ∙ sym (word_place c.args.text.now)
