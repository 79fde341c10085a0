-- The C face of the layer lookup, at each of its returns.
use Rattle.std.specs.Prelude.{ℕ, ◌+◌, ◌-◌, ◌<◌, true, false, ◌&&◌, List, ◌≡◌, refl, ltb}
use Rattle.std.proofs.Common.{arith, sym}
use Rattle.std.proofs.Math.ListN.{length}
use borrow.Author.Tests.{ltb-true}
use Rattle.rules.specs.Lists.{at}
use Rattle.rules.specs.Analysis.{sound, layer_part}
use Rattle.rules.specs.Faces.{LayerAtFace}
use Rattle.rules.proofs.Facts.Tests.{both}
use Rattle.rules.proofs.Facts.Lookup.{Sound, sound_facts, part-starts, part-ends}
use Rattle.rules.proofs.Facts.Segments.{seg-length}

module _ (ops offsets : List ℕ) (i : ℕ) where
  pub face_there : (sound ops offsets && ltb i (length ops)) ≡ true → LayerAtFace ops offsets i (at offsets i) (at offsets (i + 1) - at offsets i) 0
  unfolding layer_part
  face_there e =
      let p = both (sound ops offsets) (ltb i (length ops)) e in
      let f : Sound ops offsets = sound_facts ops offsets p.0 in
      let low : i < length ops = ltb-true i (length ops) p.1 in
      let s = part-starts f i low in
      let t = part-ends f i low in
      record {
        number = refl;
        start = rw e;
        part = rw e;
        long = rw e (sym (seg-length (at offsets i) (at offsets (i + 1) - at offsets i) ops (omega arith)));
      }

  pub face_none : (sound ops offsets && ltb i (length ops)) ≡ false → LayerAtFace ops offsets i 0 0 0
  unfolding layer_part
  face_none e = record { number = refl; start = rw e; part = rw e; long = rw e }
