use Rattle.std.proofs.Common.{◌≤◌, ◌+◌, ◌≡◌, drop}
use Rattle.rules.specs.Lists.{sum}
use Rattle.rules.specs.Text.{limits, sections_at}
use Rattle.text.specs.Reading.{most_numbers}
use Rattle.text.proofs.Facts.Sections.{ending}
use Rattle.text.proofs.reader.read_text.Given as goal

abbrev pub invariant-loop-k : goal.invariant-loop-k
invariant-loop-k l = (l.used + sum (drop l.k limits) ≤ most_numbers)
    × (ending l.counts l.numbers l.k l.used (sections_at (drop l.k limits) l.text l.at) ≡ ending l.initial.counts l.initial.numbers 0 0 (sections_at limits l.text 0))
