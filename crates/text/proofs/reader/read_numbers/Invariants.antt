use Rattle.std.proofs.Common.{◌-◌, ◌≡◌, length}
use Rattle.rules.specs.Text.{numbers_at}
use Rattle.text.proofs.Facts.Numbers.{finish}
use Rattle.text.proofs.reader.read_numbers.Given as goal

abbrev pub invariant-loop-x : goal.invariant-loop-x
invariant-loop-x l = finish l.out l.x-index (numbers_at (length l.initial.out - l.x-index) l.text l.at) ≡ finish l.initial.out 0 (numbers_at (length l.initial.out) l.text l.initial.at)
