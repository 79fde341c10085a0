use Rattle.std.proofs.Common.{ℕ, ◌<◌, Bool, true, ◌&&◌, List, ◌≡◌, sym, ap, ◌∙◌, arith, length, ltb, ltb-true}
use Rattle.rules.specs.Analysis.{sound}
use Rattle.rules.proofs.Facts.Tests.{both}
use Rattle.rules.proofs.Facts.Lookup.{Sound, sound_facts, part-starts, part-ends, layer_there, layer_none}
use Rattle.layers.proofs.lookup.layer_at.Goals.{After-offsets_sound, Then-offsets_sound-i}
use Rattle.layers.proofs.lookup.layer_at.Goals as goal

module _ (c : After-offsets_sound) where
  abbrev ops : List ℕ
  ops = c.args.operations.now

  abbrev offs : List ℕ
  offs = c.args.offsets.now

  abbrev i : ℕ
  i = c.args.i

  same : (c.offsets_sound.result && ltb i (length ops)) ≡ (sound ops offs && ltb i (length ops))
  same = ap (λ (r : Bool). r && ltb i (length ops)) c.offsets_sound.ensures.answer

-- the offsets are sound and the layer is known
module _ (c : Then-offsets_sound-i) where
  abbrev offs-2 : List ℕ
  offs-2 = c.args.offsets.now

  abbrev ops-2 : List ℕ
  ops-2 = c.args.operations.now

  abbrev i-2 : ℕ
  i-2 = c.args.i

  same-2 : (c.offsets_sound.result && ltb i-2 (length ops-2)) ≡ (sound ops-2 offs-2 && ltb i-2 (length ops-2))
  same-2 = ap (λ (r : Bool). r && ltb i-2 (length ops-2)) c.offsets_sound.ensures.answer

  holds : (sound ops-2 offs-2 && ltb i-2 (length ops-2)) ≡ true
  holds = sym same-2 ∙ c.if-offsets_sound-i.true

  facts : Sound ops-2 offs-2
  facts = sound_facts ops-2 offs-2 (both (sound ops-2 offs-2) (ltb i-2 (length ops-2)) holds).0

  low : i-2 < length ops-2
  low = ltb-true i-2 (length ops-2) (both (sound ops-2 offs-2) (ltb i-2 (length ops-2)) holds).1

pub bounds-offsets-i : goal.bounds-offsets-i
bounds-offsets-i c = omega (arith, low (goal.at.bounds-offsets-i c).Then-offsets_sound-i, (facts (goal.at.bounds-offsets-i c).Then-offsets_sound-i).long)

pub bounds-offsets-i-then-offsets_sound-i : goal.bounds-offsets-i-then-offsets_sound-i
bounds-offsets-i-then-offsets_sound-i c = omega (arith, low (goal.at.bounds-offsets-i-then-offsets_sound-i c).Then-offsets_sound-i, (facts (goal.at.bounds-offsets-i-then-offsets_sound-i c).Then-offsets_sound-i).long)

pub slice_bounds-result-count : goal.slice_bounds-result-count
slice_bounds-result-count c = part-starts (facts (goal.at.slice_bounds-result-count c).Then-offsets_sound-i) (i (goal.at.slice_bounds-result-count c).After-offsets_sound) (low (goal.at.slice_bounds-result-count c).Then-offsets_sound-i)

pub slice_bounds-result-start : goal.slice_bounds-result-start
slice_bounds-result-start c = part-starts (facts (goal.at.slice_bounds-result-start c).Then-offsets_sound-i) (i (goal.at.slice_bounds-result-start c).After-offsets_sound) (low (goal.at.slice_bounds-result-start c).Then-offsets_sound-i)

pub slice_bounds-result-end : goal.slice_bounds-result-end
slice_bounds-result-end c = part-ends (facts (goal.at.slice_bounds-result-end c).Then-offsets_sound-i) (i (goal.at.slice_bounds-result-end c).After-offsets_sound) (low (goal.at.slice_bounds-result-end c).Then-offsets_sound-i)

pub returns-then-offsets_sound-i : goal.returns-then-offsets_sound-i
returns-then-offsets_sound-i c = layer_there (ops (goal.at.returns-then-offsets_sound-i c).After-offsets_sound) (offs (goal.at.returns-then-offsets_sound-i c).After-offsets_sound) (i (goal.at.returns-then-offsets_sound-i c).After-offsets_sound) (holds (goal.at.returns-then-offsets_sound-i c).Then-offsets_sound-i)

pub returns : goal.returns
returns c = layer_none (ops (goal.at.returns c).After-offsets_sound) (offs (goal.at.returns c).After-offsets_sound) (i (goal.at.returns c).After-offsets_sound) (sym (same (goal.at.returns c).After-offsets_sound) ∙ c.if-offsets_sound-i.false)
