use Rattle.std.proofs.lemmas.List.Sorted.{non_decreasing_from_is_sorted}
use Rattle.rules.proofs.Facts.Lookup.{sound-not, sound_tested, rising_sorted}
use Rattle.layers.proofs.lookup.offsets_sound.Goals as goal

pub returns-then-offsets-m : goal.returns-then-offsets-m
returns-then-offsets-m c = sound-not c.args.operations.now c.args.offsets.now c.if-offsets-m.true

pub returns : goal.returns
returns c =
    sound_tested c.args.operations.now c.args.offsets.now c.is_sorted.result c.if-offsets-m.false
    (rising_sorted c.args.offsets.now c.is_sorted.result (non_decreasing_from_is_sorted c.args.offsets.now c.is_sorted.result c.is_sorted.ensures.cases))
