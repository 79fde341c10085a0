use Rattle.std.proofs.Common.{◌<◌, ◌^◌, ◌≡◌, drop}
use Rattle.rules.specs.Text.{all_digits, worth}
use Rattle.text.proofs.reader.value.Given as goal

abbrev pub invariant-loop-b : goal.invariant-loop-b
invariant-loop-b l = (l.n < 10 ^ l.b-index) × (all_digits l.word ≡ all_digits (drop l.b-index l.word)) × (worth 0 l.word ≡ worth l.n (drop l.b-index l.word))
