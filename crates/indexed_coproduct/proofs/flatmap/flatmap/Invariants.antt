use Rattle.std.proofs.Common.{ℕ, ◌≤◌, ◌<◌, ◌≡◌, length, get_or}
use Rattle.rules.specs.Lists.{row_entries}
use Rattle.rules.specs.Inner.Rows.{flat_row, Put}
use Rattle.indexed_coproduct.proofs.flatmap.flatmap.Given as goal

abbrev pub invariant-loop-i : goal.invariant-loop-i
invariant-loop-i l = record {
  lengths : (j : ℕ) → j < l.i → get_or l.lens j 0 ≡ length (flat_row l.first.offsets.now l.first.entries.now l.second.offsets.now l.second.entries.now j);
  rest : (j : ℕ) → l.i ≤ j → get_or l.lens j 0 ≡ get_or l.initial.lens j 0;
  entries : Put 0 (row_entries (flat_row l.first.offsets.now l.first.entries.now l.second.offsets.now l.second.entries.now) l.i) l.initial.vals l.vals l.at;
}
