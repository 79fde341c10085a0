use Rattle.std.proofs.Common.{ℕ, ◌<◌, Bool, true, ◌&&◌, List, ◌≡◌, sym, ap, ◌∙◌, arith, length, ltb, ltb-true}
use Rattle.rules.specs.Analysis.{sound}
use Rattle.rules.proofs.Facts.Tests.{both}
use Rattle.rules.proofs.Facts.Lookup.{Sound, sound_facts, part-starts}
use Rattle.rules.proofs.Facts.LookupFace.{face_there, face_none}
use Rattle.exports.proofs.tiwelzam_layer_at.Goals.{After-offsets_sound, Then-offsets_sound-i}
use Rattle.exports.proofs.tiwelzam_layer_at.Goals as goal

module _ (c : After-offsets_sound) where
  abbrev ops : List ℕ
  ops = c.args.operations.now

  abbrev offs : List ℕ
  offs = c.args.offsets.now

  abbrev i : ℕ
  i = c.args.i

  same : (c.offsets_sound.result && ltb i (length ops)) ≡ (sound ops offs && ltb i (length ops))
  same = ap (λ (r : Bool). r && ltb i (length ops)) c.offsets_sound.ensures.answer

-- the offsets are sound and the layer is known
module _ (c : Then-offsets_sound-i) where
  abbrev i-2 : ℕ
  i-2 = c.args.i

  abbrev ops-2 : List ℕ
  ops-2 = c.args.operations.now

  abbrev offs-2 : List ℕ
  offs-2 = c.args.offsets.now

  same-2 : (c.offsets_sound.result && ltb i-2 (length ops-2)) ≡ (sound ops-2 offs-2 && ltb i-2 (length ops-2))
  same-2 = ap (λ (r : Bool). r && ltb i-2 (length ops-2)) c.offsets_sound.ensures.answer

  holds : (sound ops-2 offs-2 && ltb i-2 (length ops-2)) ≡ true
  holds = sym same-2 ∙ c.if-offsets_sound-i.true

  facts : Sound ops-2 offs-2
  facts = sound_facts ops-2 offs-2 (both (sound ops-2 offs-2) (ltb i-2 (length ops-2)) holds).0

  low : i-2 < length ops-2
  low = ltb-true i-2 (length ops-2) (both (sound ops-2 offs-2) (ltb i-2 (length ops-2)) holds).1

pub bounds-offsets-i : goal.bounds-offsets-i
bounds-offsets-i c = omega (arith, low (goal.at.bounds-offsets-i c).Then-offsets_sound-i, (facts (goal.at.bounds-offsets-i c).Then-offsets_sound-i).long)

pub bounds-offsets-i-then-offsets_sound-i : goal.bounds-offsets-i-then-offsets_sound-i
bounds-offsets-i-then-offsets_sound-i c = omega (arith, low (goal.at.bounds-offsets-i-then-offsets_sound-i c).Then-offsets_sound-i, (facts (goal.at.bounds-offsets-i-then-offsets_sound-i c).Then-offsets_sound-i).long)

pub bounds-offsets-i-then-offsets_sound-i-2 : goal.bounds-offsets-i-then-offsets_sound-i-2
bounds-offsets-i-then-offsets_sound-i-2 c = omega (arith, low (goal.at.bounds-offsets-i-then-offsets_sound-i-2 c).Then-offsets_sound-i, (facts (goal.at.bounds-offsets-i-then-offsets_sound-i-2 c).Then-offsets_sound-i).long)

pub overflow_sub-count : goal.overflow_sub-count
overflow_sub-count c = part-starts (facts (goal.at.overflow_sub-count c).Then-offsets_sound-i) (i (goal.at.overflow_sub-count c).After-offsets_sound) (low (goal.at.overflow_sub-count c).Then-offsets_sound-i)

pub returns-then-offsets_sound-i : goal.returns-then-offsets_sound-i
returns-then-offsets_sound-i c = face_there (ops (goal.at.returns-then-offsets_sound-i c).After-offsets_sound) (offs (goal.at.returns-then-offsets_sound-i c).After-offsets_sound) (i (goal.at.returns-then-offsets_sound-i c).After-offsets_sound) (holds (goal.at.returns-then-offsets_sound-i c).Then-offsets_sound-i)

pub returns-else-offsets_sound-i : goal.returns-else-offsets_sound-i
returns-else-offsets_sound-i c = face_none (ops (goal.at.returns-else-offsets_sound-i c).After-offsets_sound) (offs (goal.at.returns-else-offsets_sound-i c).After-offsets_sound) (i (goal.at.returns-else-offsets_sound-i c).After-offsets_sound) (sym (same (goal.at.returns-else-offsets_sound-i c).After-offsets_sound) ∙ c.if-offsets_sound-i.false)
